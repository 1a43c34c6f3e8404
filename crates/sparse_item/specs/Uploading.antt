-- What contracts see of an upload, and how it ends.
use Rattle.std.specs.Prelude.{◌≡◌, ◌≢◌, ◌⊎◌, ℕ, ◌+◌, ◌==◌, false, max, if◌then◌else◌, Option, Some, None, List, [], ◌∷◌, length, unwrap_or, IsSomeAnd, Result, Ok, Err}
use Rattle.byte_ranges.specs.declared.Span.{Span}
use Rattle.vfs_names.specs.declared.fingerprint.Fingerprint.{Fingerprint}
use Rattle.vfs_names.specs.declared.refusal.Refusal.{Refusal}
use Rattle.vfs_names.specs.declared.refusal.Refusal.TheVariants as refusals
use Rattle.vfs_names.specs.declared.who.ItemId.{ItemId}
use Rattle.vfs_outside.specs.Causes.{Rose}
use Rattle.item_core.specs.declared.entry.Dropped.{Dropped}
use Rattle.item_core.specs.declared.entry.Dropped.TheVariants.{Cancelled, Refused}
use Rattle.item_core.specs.declared.entry.Entry.{Entry}
use Rattle.item_core.specs.declared.entry.FileKind.TheVariants.{UploadStart}
use Rattle.item_core.specs.History.{base_end_of, held_by, is_dirty, size_of, upload_at, version_of}
use Rattle.item_core.specs.Legal.{EndsUpload}
use Rattle.downloaders.specs.Orders.{no_one}
use Rattle.base_object.specs.Base.{Base}
use Rattle.base_object.specs.declared.state.BaseState.TheVariants.{Unbound}
use Rattle.sparse_item.specs.Item.{Item}
use Rattle.sparse_item.specs.Reading.{shown}

-- An upload: the file's number; the index of its start in the history, counted from the oldest entry; the version and
-- the size that it noted; and for what one of its calls was refused last.
pub record Uploading : Type 0 where
  pub item : ItemId
  pub start : ℕ
  pub version : ℕ
  pub size : ℕ
  pub why : Option Refusal

-- the upload that begins after these entries
abbrev pub begun_upload : ItemId → List Entry → Uploading
begun_upload item past = record { item = item; start = length past; version = version_of past; size = size_of past; why = None }

-- the refusal that is kept after a call that answered this
abbrev pub why_after : {T : Type 0} → Result T Refusal → Option Refusal → Option Refusal
why_after (Ok x) old = old
why_after (Err why) old = Some why

-- an upload of this version began at the entry of this index
abbrev pub HasStart : List Entry → ℕ → ℕ → Type 0
HasStart [] start version = ⊥
HasStart (e ∷ older) start version =
    ((length older ≡ start) × (e.kind ≡ UploadStart version)) ⊎ HasStart older start version

-- the upload began in this history
abbrev pub IsOf : List Entry → Uploading → Type 0
IsOf past upload = HasStart past upload.start upload.version

-- the upload was begun by this pass, and hasn't ended
abbrev pub IsOpen : List Entry → ℕ → Uploading → Type 0
IsOpen past pass upload = upload_at past upload.start ≡ Some (record { version = upload.version; pass = pass })

-- how many bytes a block has at most
abbrev pub block_len : ℕ
block_len = 131072

-- the bytes of a block that the object behind the file doesn't give
abbrev pub past_object : List Entry → ℕ → Span
past_object past pos = record { start = max pos (base_end_of past); end = pos + shown past pos block_len }

-- the object behind the file has this fingerprint, and wasn't opened yet
abbrev pub unbound_base : Fingerprint → Base
unbound_base print = record { state = Unbound print; object = None; crew = no_one false }

-- why the last save of an upload is refused
abbrev pub IsSaveCause : Item → Item → Refusal → Type 0
IsSaveCause old new refusals.DiskFault = Rose old.slot.faults new.slot.faults
IsSaveCause old new refusals.NoMemory = Unit {0}
IsSaveCause old new _ = ⊥

-- How an upload is dropped: cancelled where another version is present; else as one of a file that is no more, where
-- nothing of it is left to upload; and else for what it keeps.
abbrev pub dropped_as : List Entry → Uploading → Dropped
dropped_as past upload =
    if upload.version == version_of past
    then (if is_dirty past then Refused (unwrap_or upload.why refusals.NotFound) else Refused refusals.NotFound)
    else Cancelled upload.version (version_of past)

-- an upload of a changed file of the noted version is dropped only for a refusal that it keeps
abbrev pub IsDroppable : List Entry → Uploading → Type 0
IsDroppable past upload =
    (upload.version ≢ version_of past) ⊎ (is_dirty past ≡ false) ⊎ IsSomeAnd upload.why (EndsUpload (held_by past))
