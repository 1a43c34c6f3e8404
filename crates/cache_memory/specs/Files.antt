-- What a slot's file in memory tells.
use Rattle.std.specs.Prelude.{◌≡◌, ℕ, Bool, true, false, List, length, Result, Ok, Err}
use Rattle.vfs_outside.specs.Slot.{Slot, Told, with_call}
use Rattle.vfs_outside.specs.declared.disk_error.DiskError.{DiskError}
use Rattle.vfs_outside.specs.declared.disk_error.DiskError.TheVariants.{Failed, NoMemory}
use Rattle.vfs_outside.specs.declared.file_call.FileCall.{FileCall}
use Rattle.cache_memory.specs.Helds.{told_of}
use Rattle.cache_memory.specs.declared.file.MemoryFile.{MemoryFile}

abbrev pub slot_of : MemoryFile → Slot
slot_of file = record { told = told_of file.held; calls = length (told_of file.held).since; faults = file.faults }

-- the numbers of the calls that are to fail
abbrev pub planned_of : MemoryFile → List ℕ
planned_of file = file.fails.items

-- a call that fails where that is wanted is made, and leaves this
abbrev pub Leaves : {T : Type 0} → Bool → FileCall → Told → Told → Result T DiskError → Type 0
Leaves fails left old new (Ok x) = (fails ≡ false) × (new ≡ with_call left old)
Leaves fails left old new (Err Failed) = (fails ≡ true) × (new ≡ with_call left old)
Leaves fails left old new (Err NoMemory) = new ≡ old
