-- What one upload of a file leaves, from its start to its end.
use Rattle.std.specs.Prelude.{◌≡◌, ◌⊎◌, ℕ, Bool, true, false, List, ◌∷◌, length, Err}
use Rattle.byte_ranges.specs.declared.Span.{Span}
use Rattle.vfs_names.specs.declared.fingerprint.Fingerprint.{Fingerprint}
use Rattle.vfs_names.specs.declared.refusal.Refusal.{Refusal}
use Rattle.vfs_names.specs.declared.refusal.Refusal.TheVariants as refusals
use Rattle.vfs_names.specs.declared.who.By.{By}
use Rattle.vfs_outside.specs.Causes.{Rose}
use Rattle.vfs_outside.specs.Outside.{Outside}
use Rattle.item_core.specs.declared.entry.Dropped.TheVariants as dropped
use Rattle.item_core.specs.declared.entry.Entry.{Entry}
use Rattle.item_core.specs.declared.entry.FileKind.TheVariants as kinds
use Rattle.item_core.specs.Content.{Known, bytes_at}
use Rattle.item_core.specs.History.{base_end_of, is_dirty, size_of, version_of}
use Rattle.item_image.specs.Entries.{made}
use Rattle.item_image.specs.Premise.{Fits, IsOfImage}
use Rattle.base_object.specs.Base.{Base, IsLaterOf}
use Rattle.base_object.specs.Pulls.{Loses}
use Rattle.item_upload.specs.declared.whole.Ended.{Ended}
use Rattle.item_upload.specs.declared.whole.Ended.TheVariants.{Saved, Dropped, Unbegun}
use Rattle.item_upload.specs.Blocks.{IsPresent}
use Rattle.item_upload.specs.Finishing.{IsCommitted, IsContent}
use Rattle.sparse_item.specs.Fetching.{IsFetchCause}
use Rattle.sparse_item.specs.Item.{IsAllHere, Item}
use Rattle.sparse_item.specs.Uploading.{IsOf, Uploading, unbound_base}

-- ---- how it went

-- the content was saved
abbrev pub is_saved : Ended → Bool
is_saved (Saved print) = true
is_saved (Dropped why) = false
is_saved (Unbegun why) = false

abbrev pub IfSaved : Ended → (Fingerprint → Type 0) → Type 0
IfSaved (Saved print) P = P print
IfSaved (Dropped why) P = Unit {0}
IfSaved (Unbegun why) P = Unit {0}

abbrev pub IfDropped : Ended → (Refusal → Type 0) → Type 0
IfDropped (Saved print) P = Unit {0}
IfDropped (Dropped why) P = P why
IfDropped (Unbegun why) P = Unit {0}

abbrev pub IfUnbegun : Ended → (Refusal → Type 0) → Type 0
IfUnbegun (Saved print) P = Unit {0}
IfUnbegun (Dropped why) P = Unit {0}
IfUnbegun (Unbegun why) P = P why

-- ---- what is added to the history

-- the history once an upload of the present version began
abbrev pub with_start : By → Item → List Entry
with_start by item = made by item.slot.calls (kinds.UploadStart (version_of item.log.past)) ∷ item.log.past

-- a start and the end of it, or nothing
abbrev pub EntersUpload : By → Item → Item → Ended → Type 0
EntersUpload by old new (Saved print) =
    new.log.past ≡ made by new.slot.calls (kinds.Uploaded (length old.log.past) print) ∷ with_start by old
EntersUpload by old new (Dropped why) =
    new.log.past ≡ made by new.slot.calls (kinds.UploadDropped (length old.log.past) (dropped.Refused why)) ∷ with_start by old
EntersUpload by old new (Unbegun why) = new.log.past ≡ old.log.past

-- ---- while it is under way

-- The upload began in the file's history, of the version and the size that are present, and the file is changed.
pub record IsCurrent (item : Item) (upload : Uploading) : Type 0 where
  pub begun : IsOf item.log.past upload
  pub present : IsPresent item upload
  pub dirty : is_dirty item.log.past ≡ true
  pub size : upload.size ≡ size_of item.log.past

-- the bytes are the file's content below a place, wherever the slot's file and the objects tell
abbrev pub IsFront : Type 0 → Type 0 → Item → ℕ → List ℕ → Type 0
IsFront tells shows item pos bytes = tells → (known : Known) → Fits shows known item.log.past item.pairs
    → IsOfImage known item.slot.told.first → bytes ≡ bytes_at known item.log.past 0 pos

-- Each byte below a place is in the slot's file, and a stage has as many bytes; where the store tells, they are the content's.
pub record IsStagedTo (tells store shows : Type 0) (item : Item) (pos count : ℕ) (bytes : List ℕ) : Type 0 where
  pub whole : IsAllHere item.here pos
  pub len : count ≡ pos
  pub content : store → IsFront tells shows item pos bytes

-- ---- what is left of the store

-- An object was handed out; where the store tells, its bytes are the file's whole content, and it was put at the file's path.
pub record UploadsWhole (tells store shows : Type 0) (item : Item) (old new : Outside) (print : Fingerprint) : Type 0 where
  pub bytes : List ℕ
  pub handed : new.handed ≡ (print, bytes) ∷ old.handed
  pub content : store → IsContent tells shows item bytes
  pub put : store → IsCommitted item bytes old new print

-- an object of the file's whole content was put at its path
pub record CommitsWhole (tells shows : Type 0) (item : Item) (old new : Outside) : Type 0 where
  pub print : Fingerprint
  pub bytes : List ℕ
  pub content : IsContent tells shows item bytes
  pub put : IsCommitted item bytes old new print

-- nothing was committed, where nobody else changes the store; or the whole content was, and then it wasn't saved
abbrev pub MayCommitWhole : Type 0 → Type 0 → Item → Outside → Outside → Type 0
MayCommitWhole tells shows item old new = (new.others ≡ 0 → new.store ≡ old.store) ⊎ CommitsWhole tells shows item old new

-- one object was handed out, of the file's whole content, where the store tells
pub record HandsWhole (tells store shows : Type 0) (item : Item) (old new : Outside) : Type 0 where
  pub print : Fingerprint
  pub bytes : List ℕ
  pub content : store → IsContent tells shows item bytes
  pub handed : new.handed ≡ (print, bytes) ∷ old.handed

-- nothing was handed out, or the whole content was
abbrev pub MayHandWhole : Type 0 → Type 0 → Type 0 → Item → Outside → Outside → Type 0
MayHandWhole tells store shows item old new = (new.handed ≡ old.handed) ⊎ HandsWhole tells store shows item old new

-- ---- what is left of the object behind the file

-- Saved, the file has the new object, unopened; dropped, the one that it had, of which no count fell, and which is lost
-- where the upload was dropped for that; unbegun, nothing has changed.
abbrev pub LeavesBase : Base → Base → Ended → Type 0
LeavesBase old new (Saved print) = new ≡ unbound_base print
LeavesBase old new (Dropped why) = IsLaterOf old.object new.object × Loses {T = Fingerprint} (Err why) old.state new.state
LeavesBase old new (Unbegun why) = new ≡ old

-- ---- why it wasn't saved

-- the bytes of a file that the object behind it gives
abbrev pub base_part : List Entry → Span
base_part past = record { start = 0; end = base_end_of past }

-- why an upload that began is dropped
abbrev pub IsDropCause : Item → Item → Outside → Outside → Refusal → Type 0
IsDropCause item item' old new refusals.NotFound = Rose old.changes new.changes
IsDropCause item item' old new refusals.RemoteFault =
    Rose old.faults new.faults ⊎ IsFetchCause item item' (base_part item.log.past) refusals.RemoteFault
IsDropCause item item' old new refusals.DiskFault = Rose item.slot.faults item'.slot.faults
IsDropCause item item' old new (refusals.Stale held what) =
    IsFetchCause item item' (base_part item.log.past) (refusals.Stale held what)
IsDropCause item item' old new refusals.NoMemory = Unit {0}
IsDropCause item item' old new _ = ⊥

-- why an upload ended without saving, or didn't begin
abbrev pub IsEndCause : Item → Item → Outside → Outside → Ended → Type 0
IsEndCause item item' old new (Saved print) = Unit {0}
IsEndCause item item' old new (Dropped why) = IsDropCause item item' old new why
IsEndCause item item' old new (Unbegun why) = (why ≡ refusals.HistoryFull) ⊎ (why ≡ refusals.NoMemory)
