-- What a disk in memory tells, and what is planned for it.
use Rattle.std.specs.Prelude.{◌≡◌, ◌≢◌, ℕ, ◌==◌, false, Option, Some, None, List, [], ◌∷◌, length, find}
use Rattle.vfs_outside.specs.Disk.{Disk, SameOut, SameShelves, Shelf}
use Rattle.vfs_outside.specs.Slot.{handed_out, image, image_after}
use Rattle.vfs_outside.specs.declared.file_call.FileCall.TheVariants.{Saved}
use Rattle.cache_memory.specs.Plans.{made_of}
use Rattle.cache_memory.specs.Script.{Plans}
use Rattle.cache_memory.specs.Slots.{Kept, kept_at}
use Rattle.cache_memory.specs.declared.disk.MemoryDisk.{MemoryDisk}

abbrev pub disk_of : MemoryDisk → Disk
disk_of d = record { out = λ s. (kept_at d.slots s).out; shelf = λ s. (kept_at d.slots s).shelf; faults = d.faults }

abbrev pub plans_of : MemoryDisk → Plans
plans_of d = record { calls = d.plan.faults.items; files = λ s. (kept_at d.slots s).fails; made = made_of d.plan }

-- the disk has the same of each slot, with the same plans
abbrev pub SameSlots : MemoryDisk → MemoryDisk → Type 0
SameSlots old new = (s : ℕ) → kept_at new.slots s ≡ kept_at old.slots s

-- nothing that the disk tells is changed
pub record SameDisk (old new : Disk) : Type 0 where
  pub out : SameOut old new
  pub shelves : SameShelves old new
  pub faults : new.faults ≡ old.faults

-- the slot's metadata was set to this text by no call, and nothing else is changed
pub record SetsMeta (slot : ℕ) (text : List ℕ) (old new : Disk) : Type 0 where
  pub out : SameOut old new
  pub here : (new.shelf slot).now ≡ handed_out (Saved text ∷ image (old.shelf slot).now)
  pub records : (new.shelf slot).records ≡ (old.shelf slot).records
  pub others : (s : ℕ) → s ≢ slot → new.shelf s ≡ old.shelf s
  pub faults : new.faults ≡ old.faults

-- how many calls a cut leaves, or else all
abbrev pub count_in : Option (ℕ × ℕ) → ℕ → ℕ
count_in None all = all
count_in (Some cut) all = cut.1

-- how many of the calls on the slot's file the first of its cuts leaves
abbrev pub count_at : List (ℕ × ℕ) → Disk → ℕ → ℕ
count_at cuts disk s = count_in (find (λ (cut : ℕ × ℕ). cut.0 == s) cuts) (length (disk.shelf s).now.since)

-- what there was of the slot after so many calls
abbrev pub cut_shelf : List (ℕ × ℕ) → Disk → ℕ → Shelf
cut_shelf cuts disk s = record { now = handed_out (image_after (disk.shelf s).now (count_at cuts disk s)); records = [] }

abbrev pub cut_kept : List (ℕ × ℕ) → Disk → ℕ → Kept
cut_kept cuts disk s = record { out = false; shelf = cut_shelf cuts disk s; fails = [] }
