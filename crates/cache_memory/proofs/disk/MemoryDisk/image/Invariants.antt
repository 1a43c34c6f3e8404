use Rattle.std.proofs.Common.{◌≡◌, ◌==◌, ℕ, map, if◌then◌else◌, None}
use Rattle.std.specs.List.{list_any}
use Rattle.std.specs.Map.Iter.{deref}
use Rattle.cache_memory.specs.Disks.{cut_kept, disk_of}
use Rattle.cache_memory.specs.Slots.{kept_at, kept_in}
use Rattle.cache_memory.proofs.disk.MemoryDisk.image.Given as goal

abbrev pub invariant-loop-slot : goal.invariant-loop-slot
invariant-loop-slot l = (s : ℕ) → kept_at l.slots s ≡ (if list_any (λ x. s == x) (map deref l.yielded) then cut_kept l.cuts (disk_of l.self) s else kept_in None)
