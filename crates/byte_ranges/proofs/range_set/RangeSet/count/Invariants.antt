use Rattle.std.proofs.Common.{◌≡◌, take}
use Rattle.byte_ranges.specs.Ranges.{total_length}
use Rattle.byte_ranges.proofs.range_set.RangeSet.count.Given as goal

abbrev pub invariant-loop-span : goal.invariant-loop-span
invariant-loop-span l = l.count ≡ total_length (take l.span-index l.span-items)
