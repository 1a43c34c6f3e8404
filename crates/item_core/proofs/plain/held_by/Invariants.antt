use Rattle.std.proofs.Common.{◌≡◌, take, reverse}
use Rattle.item_core.specs.History.{held_by}
use Rattle.item_core.proofs.plain.held_by.Given as goal

abbrev pub invariant-loop-entry : goal.invariant-loop-entry
invariant-loop-entry l = l.held ≡ held_by (reverse (take l.entry-index l.entries))
