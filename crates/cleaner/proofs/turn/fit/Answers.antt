use Rattle.std.proofs.Common.{◌≡◌, ◌++◌, ◌≤◌, ℕ, [], ◌∷◌, List, ap, sym, ◌∙◌, drop, refl, arith}
use Rattle.std.proofs.lemmas.Bool.{le-leb}
use Rattle.std.proofs.lemmas.List.{append-nil}
use Rattle.vfs_names.specs.declared.who.ItemId.{ItemId}
use Rattle.cleaner.specs.declared.turn.Turn.{Turn}
use Rattle.cleaner.specs.Choice.{until_fits}
use Rattle.cleaner.proofs.turn.fit.Goals as goal

none_fits : (quota bytes : ℕ) (turns : List Turn) → bytes ≤ quota → until_fits quota bytes turns ≡ []
none_fits quota bytes [] fits = refl
none_fits quota bytes (turn ∷ turns) fits = rw (le-leb bytes quota fits) refl

pub returns-then-left-from : goal.returns-then-left-from
returns-then-left-from c =
    let rest = drop c.loop-turn.turn-index c.args.turns.now in
    let none = none_fits c.args.quota c.loop-turn.left rest (omega (arith, c.if-left-from.true, c.from.ensures)) in
    sym (append-nil c.loop-turn.chosen.items)
    ∙ (ap (λ (items : List ItemId). c.loop-turn.chosen.items ++ items) (sym none) ∙ c.loop-turn.invariant)
