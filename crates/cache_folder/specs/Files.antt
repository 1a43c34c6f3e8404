-- What a slot's files in a folder tell.
use Rattle.std.specs.Prelude.{ℕ, List, [], string_bytes}
use Rattle.vfs_outside.specs.Slot.{Slot, handed_out}
use Rattle.cache_folder.specs.declared.counts.Counts.{Counts}
use Rattle.cache_folder.specs.declared.file.FolderFile.{FolderFile}

-- how many calls there were and how many failed; nothing of what was done
abbrev pub told_by : Counts → Slot
told_by counts = record { told = handed_out []; calls = counts.calls; faults = counts.faults }

abbrev pub slot_of : {R F D : Type 0} → FolderFile R F D → Slot
slot_of file = told_by file.counts

-- the folder and the slot that the file is of
abbrev pub place_of : {R F D : Type 0} → FolderFile R F D → List ℕ × ℕ
place_of file = (string_bytes file.files.folder, file.files.slot)
