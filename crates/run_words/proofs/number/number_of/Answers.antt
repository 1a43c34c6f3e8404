use Rattle.std.proofs.Common.{sym, ◌∙◌, subst}
use Rattle.std.specs.Str.{IsUtf8}
use Rattle.std.specs.Str.Parse.{ParsesUnsigned}
use Rattle.std.proofs.lemmas.Fmt.{IsAscii-decimal}
use Rattle.std.proofs.lemmas.Str.{IsUtf8-from_ascii}
use Rattle.run_words.proofs.Numbers.{not_parsed, other_spelling}
use Rattle.run_words.proofs.number.number_of.Goals as goal

pub returns-in_default-clause-none : goal.returns-in_default-clause-none
returns-in_default-clause-none c = λ n small e. c.in_default.ensures.cases.0
    (subst IsUtf8 (sym e) (IsUtf8-from_ascii _ (IsAscii-decimal n small)))

pub returns-in_default-parse-clause-none : goal.returns-in_default-parse-clause-none
returns-in_default-parse-clause-none c = λ n small e. not_parsed n c.in-Ok.text.now c.parse.result _ small
    (c.in-Ok.ensures.cases.0 ∙ e) c.parse.ensures.value.0 c.in_default-parse.is

pub returns-else-eq-clause-none : goal.returns-else-eq-clause-none
returns-else-eq-clause-none c = λ n small e. other_spelling n c.in-Ok-parse.n c.args.word.now
    c.as_bytes.result.now c.eq.result c.parse.result small e
    (subst (λ w. ParsesUnsigned 64 10 w c.parse.result) c.in-Ok.ensures.cases.0 c.parse.ensures.value.0)
    c.in-Ok-parse.is (c.as_bytes.ensures.value ∙ c.format.ensures.text) c.eq.ensures c.if-eq.false
