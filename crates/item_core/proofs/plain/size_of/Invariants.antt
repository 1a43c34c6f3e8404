use Rattle.std.proofs.Common.{◌≡◌, take, reverse}
use Rattle.item_core.specs.History.{size_of}
use Rattle.item_core.proofs.plain.size_of.Given as goal

abbrev pub invariant-loop-entry : goal.invariant-loop-entry
invariant-loop-entry l = l.size ≡ size_of (reverse (take l.entry-index l.entries))
