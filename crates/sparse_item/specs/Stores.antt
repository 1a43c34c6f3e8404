-- What the calls of an upload leave of a store, and why it refuses them.
use Rattle.std.specs.Prelude.{◌≡◌, ◌≤◌, ℕ, Some, List, ◌∷◌, Result, Ok, Err}
use Rattle.vfs_names.specs.declared.fingerprint.Fingerprint.{Fingerprint}
use Rattle.vfs_names.specs.declared.refusal.Refusal.{Refusal}
use Rattle.vfs_names.specs.declared.refusal.Refusal.TheVariants as refusals
use Rattle.vfs_outside.specs.Causes.{Rose}
use Rattle.vfs_outside.specs.Outside.{Outside}
use Rattle.vfs_outside.specs.Store.{CanPut, File}
use Rattle.vfs_outside.specs.declared.remote.RemoteError.{RemoteError}
use Rattle.vfs_outside.specs.declared.remote.RemoteError.TheVariants.{Missing, Failed}
use Rattle.vfs_outside.specs.Told.{Meets, Puts}

-- no count fell, and nothing was listed
pub record IsLaterStore (old new : Outside) : Type 0 where
  pub faults : old.faults ≤ new.faults
  pub changes : old.changes ≤ new.changes
  pub others : old.others ≤ new.others
  pub lists : new.lists ≡ old.lists

-- with what an upload is refused for an error of its store
abbrev pub refusal_at : RemoteError → Refusal
refusal_at Missing = refusals.NotFound
refusal_at Failed = refusals.RemoteFault
refusal_at _ = refusals.NoMemory

-- why a store gives no stage, or doesn't take its bytes
abbrev pub IsStageCause : Outside → Outside → Refusal → Type 0
IsStageCause old new refusals.RemoteFault = Rose old.faults new.faults
IsStageCause old new refusals.NoMemory = Unit {0}
IsStageCause old new _ = ⊥

-- why a store doesn't make an object of a stage
abbrev pub IsCommitCause : Outside → Outside → Refusal → Type 0
IsCommitCause old new refusals.NotFound = Rose old.changes new.changes
IsCommitCause old new refusals.RemoteFault = Rose old.faults new.faults
IsCommitCause old new refusals.NoMemory = Unit {0}
IsCommitCause old new _ = ⊥

-- what a store handed out after a commit of these bytes
abbrev pub HandsCommitted : List ℕ → Outside → Outside → Result Fingerprint Refusal → Type 0
HandsCommitted bytes old new (Ok print) = new.handed ≡ (print, bytes) ∷ old.handed
HandsCommitted bytes old new (Err why) = new.handed ≡ old.handed

-- a commit that is refused leaves what stood in the store; it is refused as missing where nothing can be put there
pub record LeavesStore (path : List ℕ) (old new : Outside) (why : Refusal) : Type 0 where
  pub alone : new.others ≡ 0 → new.store ≡ old.store
  pub if_missing : why ≡ refusals.NotFound → ¬ (CanPut path new.store)

-- what stands in a store that tells, after a commit of these bytes at a path: they, and all else as before
abbrev pub PutsCommitted : List ℕ → List ℕ → Outside → Outside → Result Fingerprint Refusal → Type 0
PutsCommitted path bytes old new (Ok print) = Meets old new (Puts path (Some (File print bytes)))
PutsCommitted path bytes old new (Err why) = LeavesStore path old new why
