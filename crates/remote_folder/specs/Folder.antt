-- What a folder's store and its objects tell.
use Rattle.std.specs.Prelude.{ℕ, ◌+◌, ◌-◌, ◌^◌, min, Option, None, List, [], map, reverse, string_bytes}
use Rattle.std.specs.Option.{option_map}
use Rattle.std.specs.declared.snapshot.Snapshot.{Snapshot}
use Rattle.vfs_names.specs.declared.fingerprint.Fingerprint.{Fingerprint}
use Rattle.vfs_outside.specs.Outside.{Outside}
use Rattle.vfs_outside.specs.declared.object.ObjectError.{ObjectError}
use Rattle.vfs_outside.specs.declared.object.ObjectError.TheVariants as object
use Rattle.vfs_outside.specs.declared.remote.RemoteError.{RemoteError}
use Rattle.vfs_outside.specs.declared.remote.RemoteError.TheVariants as remote
use Rattle.remote_folder.specs.declared.remote.FolderRemote.{FolderRemote}
use Rattle.remote_folder.specs.declared.told.Told.{Told}
use Rattle.remote_folder.specs.declared.trouble.Trouble.{Trouble}
use Rattle.remote_folder.specs.declared.trouble.Trouble.TheVariants as trouble

-- the fingerprints that were handed out, the newest first, each with no bytes
abbrev pub handed_of : List (Snapshot Fingerprint) → List (Fingerprint × List ℕ)
handed_of handed = map (λ (s : Snapshot Fingerprint). (s.value, [])) (reverse handed)

-- what a store tells that doesn't tell what stands in it
abbrev pub told_by : Told → Outside
told_by told = record {
  store = λ path. None;
  handed = handed_of told.handed.items;
  faults = told.faults;
  changes = told.changes;
  lists = told.lists;
  others = 0;
}

abbrev pub outside_of : {R F D : Type 0} → FolderRemote R F D → Outside
outside_of remote = told_by remote.told

-- the name of the folder that was attached
abbrev pub attached_to : {R F D : Type 0} → FolderRemote R F D → Option (List ℕ)
attached_to remote = option_map string_bytes remote.folder

-- the ranges that were asked for, in order
abbrev pub asked_of : List (Snapshot (ℕ × ℕ)) → List (ℕ × ℕ)
asked_of asked = map (λ (s : Snapshot (ℕ × ℕ)). s.value) asked

-- the error that a store answers
abbrev pub remote_error : Trouble → RemoteError
remote_error trouble.Gone = remote.Missing
remote_error trouble.Failed = remote.Failed
remote_error trouble.NoMemory = remote.NoMemory

-- the error that a store answers to a call that names nothing in it
abbrev pub plain_error : Trouble → RemoteError
plain_error trouble.Gone = remote.Failed
plain_error trouble.Failed = remote.Failed
plain_error trouble.NoMemory = remote.NoMemory

-- the error that an object answers
abbrev pub object_error : Trouble → ObjectError
object_error trouble.Gone = object.Changed
object_error trouble.Failed = object.Failed
object_error trouble.NoMemory = object.NoMemory

-- how often a call failed, and how often something wasn't what it was to be, after a call that went wrong so
abbrev pub faults_after : Trouble → ℕ → ℕ
faults_after trouble.Gone faults = faults
faults_after trouble.Failed faults = min (faults + 1) (2 ^ 64 - 1)
faults_after trouble.NoMemory faults = faults

abbrev pub changes_after : Trouble → ℕ → ℕ
changes_after trouble.Gone changes = min (changes + 1) (2 ^ 64 - 1)
changes_after trouble.Failed changes = changes
changes_after trouble.NoMemory changes = changes
