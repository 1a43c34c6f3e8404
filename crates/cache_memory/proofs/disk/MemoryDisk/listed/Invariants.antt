use Rattle.std.proofs.Common.{◌≡◌, map}
use Rattle.std.specs.Map.Iter.{deref_pair}
use Rattle.cache_memory.specs.Slots.{slots_with_meta}
use Rattle.cache_memory.proofs.disk.MemoryDisk.listed.Given as goal

abbrev pub invariant-loop-slot : goal.invariant-loop-slot
invariant-loop-slot l = l.listed.items ≡ slots_with_meta (map deref_pair l.yielded)
