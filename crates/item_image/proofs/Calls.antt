-- What each answer of a call says of what it leaves.
use Rattle.std.proofs.Common.{ℕ, List, refl, Result, Ok, Err}
use Rattle.vfs_outside.specs.Slot.{IsCall, Makes, Slot, Writes}
use Rattle.vfs_outside.specs.declared.disk_error.DiskError.{DiskError}
use Rattle.vfs_outside.specs.declared.disk_error.DiskError.TheVariants.{Failed, NoMemory}
use Rattle.vfs_outside.specs.declared.file_call.FileCall.{FileCall}
use Rattle.vfs_outside.specs.declared.file_call.FileCall.TheVariants.{Wrote}
use Rattle.item_image.specs.Calls.{Does, DoesWrite, Goes, Tears}

-- a call that isn't a write
pub does : {T : Type 0} {tells : Type 0} {old new : Slot} (c : FileCall) (result : Result T DiskError)
    → IsCall old new result → (tells → Makes c old.told new.told result) → Does tells c old new result
does c (Ok x) call told = record { calls = call.counted; told = told }
does c (Err Failed) call told = record { calls = call.counted; told = told }
does c (Err NoMemory) call told = record { calls = call.counted; told = told }

pub does_write : {T : Type 0} {tells : Type 0} {old new : Slot} (pos : ℕ) (bytes : List ℕ) (result : Result T DiskError)
    → IsCall old new result → (tells → Writes pos bytes old.told new.told result) → DoesWrite tells pos bytes old new result
does_write pos bytes (Ok x) call told = record { calls = call.counted; told = told }
does_write pos bytes (Err Failed) call told = record { calls = call.counted; told = told }
does_write pos bytes (Err NoMemory) call told = record { calls = call.counted; told = told }

-- a write that was done left these bytes
pub whole_tears : {tells : Type 0} {pos : ℕ} {bytes : List ℕ} {old new : Slot} → Goes tells (Wrote pos bytes) old new → Tears tells pos bytes old new
whole_tears {bytes = bytes} g = record { calls = g.calls; told = λ t. (bytes, refl, g.told t) }
