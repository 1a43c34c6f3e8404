-- What a disk in a folder tells.
use Rattle.std.specs.Prelude.{ℕ, Option, List, [], string_bytes}
use Rattle.std.specs.BTreeSet.{contains}
use Rattle.std.specs.Option.{option_map}
use Rattle.std.specs.Ordering.{nat_cmp}
use Rattle.vfs_outside.specs.Disk.{Disk}
use Rattle.vfs_outside.specs.Slot.{handed_out}
use Rattle.cache_folder.specs.declared.disk.FolderDisk.{FolderDisk}

-- which slots' files are out and how many calls failed; nothing of what stands in the slots
abbrev pub disk_of : {R F D : Type 0} → FolderDisk R F D → Disk
disk_of disk = record {
  out = λ s. contains nat_cmp disk.out s;
  shelf = λ s. record { now = handed_out []; records = [] };
  faults = disk.faults;
}

-- the name of the folder that was attached
abbrev pub attached_to : {R F D : Type 0} → FolderDisk R F D → Option (List ℕ)
attached_to disk = option_map (λ held. string_bytes held.name) disk.held
