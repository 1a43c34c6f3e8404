use Rattle.std.proofs.Common.{◌≡◌, ◌++◌, drop}
use Rattle.cleaner.specs.Choice.{until_fits}
use Rattle.cleaner.proofs.turn.fit.Given as goal

-- what is chosen, and what is still to be chosen, is what was to be chosen at first
abbrev pub invariant-loop-turn : goal.invariant-loop-turn
invariant-loop-turn l =
    l.chosen.items ++ until_fits l.quota l.left (drop l.turn-index l.turns)
    ≡ l.initial.chosen.items ++ until_fits l.quota l.initial.left l.turns
