use Rattle.std.proofs.Common.{decimal, ◌++◌, sym, subst, ap₂, ◌∙◌, append_assoc, arith}
use Rattle.run_words.specs.Times.{IsAfterUnit}
use Rattle.run_words.proofs.Numbers.{not_true_and_false}
use Rattle.run_words.proofs.TimeWords.{front_is, no_prefix, rest_is, stripped, same_number, wide}
use Rattle.run_words.proofs.time.Part.of.Goals as goal

pub returns-in_default-clause-none : goal.returns-in_default-clause-none
returns-in_default-clause-none c = λ n later small after e.
    let front = front_is c.args.word.now c.cut_digits.result.0.now c.cut_digits.result.1.now c.args.unit.now later n
    c.cut_digits.ensures.digits c.cut_digits.ensures.parts c.requires small e in
    no_prefix c.cut_digits.result.1.now c.args.unit.now later c.in_default.ensures.cases front.1

pub returns-then-not-is_after_unit-clause-none : goal.returns-then-not-is_after_unit-clause-none
returns-then-not-is_after_unit-clause-none c = λ n later small after e.
    let front = front_is c.args.word.now c.cut_digits.result.0.now c.cut_digits.result.1.now c.args.unit.now later n
    c.cut_digits.ensures.digits c.cut_digits.ensures.parts c.requires small e in
    let rest = rest_is c.cut_digits.result.1.now c.args.unit.now c.in-Some.rest.now later c.in-Some.ensures.cases.1
    front.1 in
    not_true_and_false c.is_after_unit.result (c.is_after_unit.ensures.1 (subst IsAfterUnit (sym rest) after))
    (c.if-not-is_after_unit.true)

pub returns-in-Some-number_of-clause-parts : goal.returns-in-Some-number_of-clause-parts
returns-in-Some-number_of-clause-parts c =
    c.cut_digits.ensures.parts
    ∙ ap₂ (λ digits letters. digits ++ letters) c.in-Some-number_of.ensures.found.1
    (stripped c.cut_digits.result.1.now c.args.unit.now c.in-Some.rest.now c.in-Some.ensures.cases.0
    c.in-Some.ensures.cases.1)
    ∙ sym (append_assoc (decimal c.in-Some-number_of.n) c.args.unit.now c.in-Some.rest.now)

pub returns-in_default-number_of-clause-none : goal.returns-in_default-number_of-clause-none
returns-in_default-number_of-clause-none c = λ n later small after e.
    let front = front_is c.args.word.now c.cut_digits.result.0.now c.cut_digits.result.1.now c.args.unit.now later n
    c.cut_digits.ensures.digits c.cut_digits.ensures.parts c.requires small e in
    let same = same_number c.in-Some-number_of.n n c.cut_digits.result.0.now c.in-Some-number_of.ensures.found.0 small
    c.in-Some-number_of.ensures.found.1 front.0 in
    absurd (omega (arith, same))

pub returns-in_default-number_of-2-clause-none : goal.returns-in_default-number_of-2-clause-none
returns-in_default-number_of-2-clause-none c = λ n later small after e.
    let front = front_is c.args.word.now c.cut_digits.result.0.now c.cut_digits.result.1.now c.args.unit.now later n
    c.cut_digits.ensures.digits c.cut_digits.ensures.parts c.requires small e in
    c.in_default-number_of.ensures.none n (wide n small) front.0
