use Rattle.std.proofs.Common.{◌∙◌, ◌∷◌, ap, sym, map, string_bytes}
use Rattle.run_words.proofs.Cuts.{not_named}
use Rattle.run_words.proofs.option.take_option.Goals as goal

pub returns-in_default-of-clause-none : goal.returns-in_default-of-clause-none
returns-in_default-of-clause-none c =
    not_named (map string_bytes c.args.words.now) (map string_bytes c.in-Some.rest.now) c.deref.result.now
    c.cut.result.0.now c.cut.result.1
    (ap (map string_bytes) c.in-Some.ensures.cases.0
    ∙ ap (λ w. w ∷ map string_bytes c.in-Some.rest.now) (sym c.deref.ensures)) c.cut.ensures.parts
    c.cut.ensures.before c.in_default-of.ensures.none
