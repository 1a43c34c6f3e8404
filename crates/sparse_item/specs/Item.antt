-- What contracts see of a kept file.
use Rattle.std.specs.Prelude.{◌≡◌, ◌⊎◌, ℕ, ◌<◌, Bool, true, false, if◌then◌else◌, Option, Some, None, List}
use Rattle.byte_ranges.specs.Ranges.{has}
use Rattle.byte_ranges.specs.declared.Span.{Span}
use Rattle.vfs_names.specs.declared.fingerprint.Fingerprint.{Fingerprint}
use Rattle.vfs_names.specs.declared.refusal.Found.{Found}
use Rattle.vfs_names.specs.declared.who.ItemId.{ItemId}
use Rattle.vfs_names.specs.declared.who.SlotId.{SlotId}
use Rattle.vfs_outside.specs.Slot.{Slot}
use Rattle.item_core.specs.declared.entry.Entry.{Entry}
use Rattle.item_core.specs.History.{held_by, is_kept}
use Rattle.item_core.specs.Log.{Log}
use Rattle.item_image.specs.Premise.{Pairs}
use Rattle.downloaders.specs.Orders.{no_one}
use Rattle.base_object.specs.Base.{Base, IsReady, facts_of}
use Rattle.base_object.specs.declared.state.BaseState.{BaseState}
use Rattle.base_object.specs.declared.state.BaseState.TheVariants.{Absent, Bound, Lost}

-- the times that were saved of the file when the epoch began, or 0
pub record Saved : Type 0 where
  pub mtime : ℕ
  pub atime : ℕ

-- A file: its number and its slot's; its history; the paths beside it and the fingerprints and bytes of the objects that
-- it was given, the newest first; the object behind it; the bytes that are in the slot's file; whether a write is saved
-- whose data isn't there yet; what the slot's file tells; and what was saved of it when the epoch began.
pub record Item : Type 0 where
  pub id : ItemId
  pub slot_id : SlotId
  pub log : Log
  pub names : List (List ℕ)
  pub pairs : Pairs
  pub base : Base
  pub here : List Span
  pub pending : Bool
  pub slot : Slot
  pub saved : Saved

-- the fingerprint of the object that is to stand behind a file: the one that it holds, where it is kept
abbrev pub backing : List Entry → Option Fingerprint
backing past = if is_kept past then held_by past else None

-- no byte below this end is absent
abbrev pub IsAllHere : List Span → ℕ → Type 0
IsAllHere here end = (p : ℕ) → p < end → has here p ≡ true

-- an absent byte below the base end can be asked for, or it is known why it can't; or none is absent
abbrev pub IsSupplied : BaseState → List Span → ℕ → Type 0
IsSupplied state here end = IsReady state ⊎ IsAllHere here end

-- no object stands behind the file
abbrev pub no_base : Base
no_base = record { state = Absent; object = None; crew = no_one false }

-- this object stands behind the file, with no downloader yet
abbrev pub base_with : {O : Type 0} → (O → Fingerprint) → (O → List ℕ) → (O → ℕ) → (O → ℕ) → (O → List (ℕ × ℕ)) → O → Base
base_with print bytes faults changes asked o = record {
  state = Bound (print o);
  object = Some (facts_of print bytes faults changes asked o);
  crew = no_one false;
}

-- the object can't be had any more, since this was found in its place
abbrev pub lost_base : Fingerprint → Found → Base → Base
lost_base held found old = record { state = Lost held found; object = old.object; crew = no_one false }
