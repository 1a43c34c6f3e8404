-- What a call leaves of a slot's file.
use Rattle.std.specs.Prelude.{◌≡◌, ℕ, ◌+◌, List, length, Result, Ok, Err}
use Rattle.vfs_outside.specs.Slot.{Slot, with_call}
use Rattle.vfs_outside.specs.declared.disk_error.DiskError.{DiskError}
use Rattle.vfs_outside.specs.declared.disk_error.DiskError.TheVariants.{Failed, NoMemory}
use Rattle.vfs_outside.specs.declared.file_call.FileCall.{FileCall}
use Rattle.vfs_outside.specs.declared.file_call.FileCall.TheVariants.{Quiet, Wrote}

-- one call was made, which did this
pub record Goes (tells : Type 0) (c : FileCall) (old new : Slot) : Type 0 where
  pub calls : new.calls ≡ old.calls + 1
  pub told : tells → new.told ≡ with_call c old.told

-- no call was made
pub record Stays (tells : Type 0) (old new : Slot) : Type 0 where
  pub calls : new.calls ≡ old.calls
  pub told : tells → new.told ≡ old.told

-- one call was made, which left any bytes in the place of these
pub record Tears (tells : Type 0) (pos : ℕ) (bytes : List ℕ) (old new : Slot) : Type 0 where
  pub calls : new.calls ≡ old.calls + 1
  pub told : tells → (left : List ℕ) × (length left ≡ length bytes) × (new.told ≡ with_call (Wrote pos left) old.told)

-- the call is made; one that failed did nothing, and one that wants memory is none
abbrev pub Does : {T : Type 0} → Type 0 → FileCall → Slot → Slot → Result T DiskError → Type 0
Does tells c old new (Ok x) = Goes tells c old new
Does tells c old new (Err Failed) = Goes tells Quiet old new
Does tells c old new (Err NoMemory) = Stays tells old new

-- the bytes are written; a write that failed left any in their place
abbrev pub DoesWrite : {T : Type 0} → Type 0 → ℕ → List ℕ → Slot → Slot → Result T DiskError → Type 0
DoesWrite tells pos bytes old new (Ok x) = Goes tells (Wrote pos bytes) old new
DoesWrite tells pos bytes old new (Err Failed) = Tears tells pos bytes old new
DoesWrite tells pos bytes old new (Err NoMemory) = Stays tells old new
