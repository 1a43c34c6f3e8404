-- What the disk that keeps the cache tells, and what each call on it says.
use Rattle.std.specs.Prelude.{◌≡◌, ◌≢◌, ◌≤◌, ◌↔◌, ℕ, ◌+◌, ◌-◌, ◌^◌, ◌==◌, if◌then◌else◌, min, Bool, true, false, Contains, IsSome, List, ◌∷◌, Result, Ok, Err}
use Rattle.vfs_outside.specs.Image.{meta_in}
use Rattle.vfs_outside.specs.Slot.{Told, handed_out, image}
use Rattle.vfs_outside.specs.declared.disk_error.DiskError.{DiskError}

-- What the disk has of a slot: what its file told when it was last given back, and all that its files told, one for
-- each time that it was handed out, the newest first.
pub record Shelf : Type 0 where
  pub now : Told
  pub records : List Told

-- What a disk tells: which slots' files are out; what it has of each slot, where it tells that; how often it failed.
pub record Disk : Type 0 where
  pub out : ℕ → Bool
  pub shelf : ℕ → Shelf
  pub faults : ℕ

-- the same slots' files are out
abbrev pub SameOut : Disk → Disk → Type 0
SameOut old new = (s : ℕ) → new.out s ≡ old.out s

-- the disk has the same of each slot
abbrev pub SameShelves : Disk → Disk → Type 0
SameShelves old new = (s : ℕ) → new.shelf s ≡ old.shelf s

-- this slot's file is out now or isn't, and each other as it was
abbrev pub SetsOut : ℕ → Bool → Disk → Disk → Type 0
SetsOut slot is old new = (s : ℕ) → new.out s ≡ (if s == slot then is else old.out s)

-- a slot's file that is handed out is out
abbrev pub MovesOut : {F : Type 0} → ℕ → Disk → Disk → Result F DiskError → Type 0
MovesOut slot old new (Ok file) = SetsOut slot true old new
MovesOut slot old new (Err why) = SameOut old new

-- the slots that are here and have metadata are listed, and no others that are here
abbrev pub HasSlots : Disk → List ℕ → Type 0
HasSlots disk slots = (s : ℕ) → disk.out s ≡ false → Contains slots s ↔ IsSome (meta_in (image (disk.shelf s).now))

-- the file has what the disk had of the slot; no record and no other slot is changed
pub record HandsOut (slot : ℕ) (told : Told) (old new : Disk) : Type 0 where
  pub same : told ≡ handed_out (image (old.shelf slot).now)
  pub records : (new.shelf slot).records ≡ (old.shelf slot).records
  pub others : (s : ℕ) → s ≢ slot → new.shelf s ≡ old.shelf s

abbrev pub Takes : {F : Type 0} → (F → Told) → ℕ → Disk → Disk → Result F DiskError → Type 0
Takes told slot old new (Ok file) = HandsOut slot (told file) old new
Takes told slot old new (Err why) = SameShelves old new

-- the disk has of the slot what the file told, and no other slot is changed
pub record TakesBack (slot : ℕ) (told : Told) (old new : Disk) : Type 0 where
  pub here : new.shelf slot ≡ record { now = told; records = told ∷ (old.shelf slot).records }
  pub others : (s : ℕ) → s ≢ slot → new.shelf s ≡ old.shelf s

-- the count didn't fall, and rose by as many, or to the last value of its type
abbrev pub RoseBy : ℕ → ℕ → ℕ → Type 0
RoseBy by before now = (before ≤ now) × (min (before + by) (2 ^ 64 - 1) ≤ now)
