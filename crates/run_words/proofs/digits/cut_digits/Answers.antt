use Rattle.std.proofs.Common.{◌∙◌, sym}
use Rattle.run_words.proofs.SizeWords.{first_at, first_nowhere}
use Rattle.run_words.proofs.digits.cut_digits.Goals as goal

pub returns-in-Some-clause-digits : goal.returns-in-Some-clause-digits
returns-in-Some-clause-digits c = c.split_at.ensures.front
    ∙ first_at c.args.word.now c.in-Some.end (sym c.first_letter.ensures ∙ c.in-Some.is)

pub returns-in-None-clause-digits : goal.returns-in-None-clause-digits
returns-in-None-clause-digits c = first_nowhere c.args.word.now (sym c.first_letter.ensures ∙ c.in-None.is)
