use Rattle.std.proofs.Common.{◌≡◌, take, reverse}
use Rattle.item_core.specs.History.{is_dirty}
use Rattle.item_core.proofs.plain.is_dirty.Given as goal

abbrev pub invariant-loop-entry : goal.invariant-loop-entry
invariant-loop-entry l = l.dirty ≡ is_dirty (reverse (take l.entry-index l.entries))
