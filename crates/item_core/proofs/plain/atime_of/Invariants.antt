use Rattle.std.proofs.Common.{◌≡◌, take, reverse}
use Rattle.item_core.specs.Names.{atime_of}
use Rattle.item_core.proofs.plain.atime_of.Given as goal

abbrev pub invariant-loop-entry : goal.invariant-loop-entry
invariant-loop-entry l = l.atime ≡ atime_of l.initial.atime (reverse (take l.entry-index l.entries))
