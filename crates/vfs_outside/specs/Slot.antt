-- What a slot's file tells, and what each call on it says.
use Rattle.std.specs.Prelude.{◌≡◌, ◌<◌, ◌≤◌, ℕ, ◌+◌, ◌-◌, ◌^◌, ◌++◌, Some, List, [], ◌∷◌, length, drop, slice_index, Result, Ok, Err}
use Rattle.vfs_outside.specs.Causes.{Rose}
use Rattle.vfs_outside.specs.Image.{Image, data_in}
use Rattle.vfs_outside.specs.declared.disk_error.DiskError.{DiskError}
use Rattle.vfs_outside.specs.declared.disk_error.DiskError.TheVariants.{Failed, NoMemory}
use Rattle.vfs_outside.specs.declared.file_call.FileCall.{FileCall}
use Rattle.vfs_outside.specs.declared.file_call.FileCall.TheVariants.{Quiet, Wrote}

-- the image that a file was handed out with, and the calls since then, the newest first
pub record Told : Type 0 where
  pub first : Image
  pub since : List FileCall

-- the image now
abbrev pub image : Told → Image
image t = t.since ++ t.first

-- the image after the first k calls
abbrev pub image_after : Told → ℕ → Image
image_after t k = drop (length t.since - k) t.since ++ t.first

-- a file that is handed out with this image
abbrev pub handed_out : Image → Told
handed_out first = record { first = first; since = [] }

-- What a slot's file tells: what was done to it, where it tells that; how many calls there were, and how often one failed.
pub record Slot : Type 0 where
  pub told : Told
  pub calls : ℕ
  pub faults : ℕ

-- no count falls, and a call that failed made it rise
pub record HasFault {T : Type 0} (before now : ℕ) (result : Result T DiskError) : Type 0 where
  pub later : before ≤ now
  pub failed : result ≡ Err Failed → Rose before now

-- each call is counted that is no want of memory
abbrev pub IsCounted : {T : Type 0} → ℕ → ℕ → Result T DiskError → Type 0
IsCounted old new (Ok x) = new ≡ old + 1
IsCounted old new (Err Failed) = new ≡ old + 1
IsCounted old new (Err NoMemory) = new ≡ old

-- what every call says of the counts; there are never so many calls that one can't be counted by 64 bits
pub record IsCall {T : Type 0} (old new : Slot) (result : Result T DiskError) : Type 0 where
  pub counted : IsCounted old.calls new.calls result
  pub short : new.calls < 2 ^ 63
  pub fault : HasFault old.faults new.faults result

-- one more call
abbrev pub with_call : FileCall → Told → Told
with_call c t = record { first = t.first; since = c ∷ t.since }

-- the call is made; one that failed did nothing
abbrev pub Makes : {T : Type 0} → FileCall → Told → Told → Result T DiskError → Type 0
Makes c old new (Ok x) = new ≡ with_call c old
Makes c old new (Err Failed) = new ≡ with_call Quiet old
Makes c old new (Err NoMemory) = new ≡ old

-- the bytes are written; a write that failed left any bytes in their range
abbrev pub Writes : {T : Type 0} → ℕ → List ℕ → Told → Told → Result T DiskError → Type 0
Writes pos bytes old new (Ok x) = new ≡ with_call (Wrote pos bytes) old
Writes pos bytes old new (Err Failed) = (left : List ℕ) × (length left ≡ length bytes) × (new ≡ with_call (Wrote pos left) old)
Writes pos bytes old new (Err NoMemory) = new ≡ old

-- these are the bytes from pos on, but for those that nobody wrote
abbrev pub Reads : Image → ℕ → List ℕ → Type 0
Reads i pos bytes = (n b : ℕ) → n < length bytes → data_in i (pos + n) ≡ Some b → slice_index bytes n ≡ b

-- a file that was just handed out
pub record IsNew (slot : Slot) : Type 0 where
  pub calls : slot.calls ≡ 0
  pub faults : slot.faults ≡ 0
