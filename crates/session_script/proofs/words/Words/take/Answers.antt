use Rattle.std.proofs.Common.{refl, ap, sym, ◌∙◌}
use Rattle.session_script.specs.Words.{words_left}
use Rattle.session_script.proofs.Splits.{words_after}
use Rattle.session_script.proofs.Texts.{another_word, this_word}
use Rattle.session_script.proofs.words.Words.take.Goals as goal

pub returns-then-ne : goal.returns-then-ne
returns-then-ne c = (refl, another_word c.args.self.now (words_left c.cut.result.1) c.cut.result.0.now c.args.expected.now (sym c.self.view_is ∙ ap words_left c.in-Some.is ∙ words_after c.in-Some.text.now c.cut.result.0.now c.cut.result.1 c.cut.ensures.parts c.cut.ensures.before) c.if-ne.ensures)

pub returns : goal.returns
returns c = this_word c.args.self.now (words_left c.cut.result.1) c.cut.result.0.now c.args.expected.now (sym c.self.view_is ∙ ap words_left c.in-Some.is ∙ words_after c.in-Some.text.now c.cut.result.0.now c.cut.result.1 c.cut.ensures.parts c.cut.ensures.before) c.if-ne.ensures
