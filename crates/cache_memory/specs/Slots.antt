-- What a disk in memory has of each slot.
use Rattle.std.specs.Prelude.{ℕ, Bool, false, Option, Some, None, List, [], is_some, filter, map, reverse}
use Rattle.std.specs.BTreeMap.{BTreeMap, get}
use Rattle.std.specs.Ordering.{nat_cmp}
use Rattle.std.specs.declared.snapshot.Snapshot.{Snapshot}
use Rattle.vfs_outside.specs.Disk.{Shelf}
use Rattle.vfs_outside.specs.Image.{meta_in}
use Rattle.vfs_outside.specs.Slot.{Told, handed_out, image}
use Rattle.cache_memory.specs.Helds.{told_of}
use Rattle.cache_memory.specs.declared.held.Held.{Held}
use Rattle.cache_memory.specs.declared.slot.MemorySlot.{MemorySlot}

-- whether the slot's file is out, what the disk has of the slot, and the numbers of its files' calls that are to fail
pub record Kept : Type 0 where
  pub out : Bool
  pub shelf : Shelf
  pub fails : List ℕ

-- what files told, the newest first
abbrev pub records_of : List (Snapshot Held) → List Told
records_of files = map (λ (s : Snapshot Held). told_of s.value) (reverse files)

-- a slot on which nothing was done
abbrev pub blank : Shelf
blank = record { now = handed_out []; records = [] }

abbrev pub kept_of : MemorySlot → Kept
kept_of slot = record { out = slot.out; shelf = record { now = told_of slot.held; records = records_of slot.records.items }; fails = slot.fails.items }

abbrev pub kept_in : Option MemorySlot → Kept
kept_in None = record { out = false; shelf = blank; fails = [] }
kept_in (Some slot) = kept_of slot

abbrev pub kept_at : BTreeMap ℕ MemorySlot → ℕ → Kept
kept_at slots s = kept_in (get nat_cmp slots s)

-- the slot's entry says that it has metadata
abbrev pub has_meta : ℕ × MemorySlot → Bool
has_meta entry = is_some (meta_in (image (told_of (entry.1).held)))

-- the slots that have metadata
abbrev pub slots_with_meta : List (ℕ × MemorySlot) → List ℕ
slots_with_meta entries = map (λ (e : ℕ × MemorySlot). e.0) (filter has_meta entries)
