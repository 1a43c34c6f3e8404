use Rattle.std.proofs.Common.{ap, sym, ◌∙◌}
use Rattle.session_script.specs.Words.{words_left}
use Rattle.session_script.proofs.Splits.{words_after}
use Rattle.session_script.proofs.words.Words.next.Goals as goal

pub returns : goal.returns
returns c = sym c.self.view_is ∙ ap words_left c.in-Some.is ∙ words_after c.in-Some.text.now c.cut.result.0.now c.cut.result.1 c.cut.ensures.parts c.cut.ensures.before
