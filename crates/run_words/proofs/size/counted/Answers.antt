use Rattle.run_words.proofs.SizeWords.{counts, no_product}
use Rattle.run_words.proofs.size.counted.Goals as goal

pub returns-in_default-clause-none : goal.returns-in_default-clause-none
returns-in_default-clause-none c = λ size small p.
    let parts = counts c.args.word.now c.cut_digits.result.0.now c.cut_digits.result.1.now size
    c.cut_digits.ensures.parts c.cut_digits.ensures.digits small p in
    c.in_default.ensures.none parts.unit parts.named

pub returns-in_default-number_of-clause-none : goal.returns-in_default-number_of-clause-none
returns-in_default-number_of-clause-none c = λ size small p.
    let parts = counts c.args.word.now c.cut_digits.result.0.now c.cut_digits.result.1.now size
    c.cut_digits.ensures.parts c.cut_digits.ensures.digits small p in
    c.in_default-number_of.ensures.none parts.n parts.small parts.number

pub returns-clause-none : goal.returns-clause-none
returns-clause-none c =
    no_product c.checked_mul.result c.args.word.now c.cut_digits.result.0.now c.cut_digits.result.1.now
    c.in-Some-number_of.n c.in-Some.unit
    c.checked_mul.ensures c.cut_digits.ensures.parts c.cut_digits.ensures.digits
    c.in-Some-number_of.ensures.found.0 c.in-Some-number_of.ensures.found.1 c.in-Some.ensures.found
