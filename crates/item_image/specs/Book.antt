-- What the book of a file keeps.
use Rattle.std.specs.Prelude.{◌≡◌, ◌≤◌, ℕ, Bool, true, false, Option, Some, None, List, length}
use Rattle.byte_ranges.specs.Ranges.{has}
use Rattle.vfs_outside.specs.Image.{Image, data_in, meta_in}
use Rattle.vfs_outside.specs.Slot.{Slot, image}
use Rattle.item_core.specs.declared.entry.Entry.{Entry}
use Rattle.item_core.specs.Content.{Known, byte_at}
use Rattle.item_core.specs.History.{at_of, is_kept}
use Rattle.item_meta.specs.declared.meta.Intent.{Intent}
use Rattle.item_meta.specs.declared.meta.Meta.{Meta}
use Rattle.item_image.specs.Facts.{HasFacts, MetaFacts, facts_of}
use Rattle.item_image.specs.Premise.{Fits, IsOfImage, Pairs}
use Rattle.item_image.specs.Stands.{EachStands, IsSaved, laid}

-- a pending intent is the one that is saved
abbrev pub IsPending : Option Intent → Option Intent → Type 0
IsPending None saved = Unit {0}
IsPending (Some i) saved = saved ≡ Some i

-- Each present byte, a pending intent laid over, is the file's. The saved metadata tell the same ranges, and the pending
-- intent if there is one.
pub record Keeps (known : Known) (text : Option (List ℕ)) (stored : ℕ → Option ℕ) (facts : MetaFacts) (bytes : ℕ → ℕ) (meta : Meta) : Type 0 where
  pub present : (p : ℕ) → has meta.ranges p ≡ true → laid meta.intent stored p ≡ Some (bytes p)
  pub saved : IsSaved known text stored facts bytes
  pub ranges : saved.meta.ranges ≡ meta.ranges
  pub pending : IsPending meta.intent saved.meta.intent

-- the same, of a file's history and its image
abbrev pub KeepsFor : Known → ℕ → Image → List Entry → List (List ℕ) → Meta → Type 0
KeepsFor known saved image past names meta =
    Keeps known (meta_in image) (λ p. data_in image p) (facts_of saved past names) (λ p. byte_at known past p) meta

-- the image keeps the file whose metadata are in memory, and where there are none nothing is saved
abbrev pub HoldsFor : Known → ℕ → Image → List Entry → List (List ℕ) → Option Meta → Type 0
HoldsFor known saved image past names None = meta_in image ≡ None
HoldsFor known saved image past names (Some meta) = KeepsFor known saved image past names meta

-- there are metadata of a kept file alone, and they have its facts
abbrev pub HasMeta : Bool → MetaFacts → Option Meta → Type 0
HasMeta kept facts None = kept ≡ false
HasMeta kept facts (Some meta) = (kept ≡ true) × HasFacts facts meta

-- What a file's history, the paths beside it, the time that was saved when the epoch began, the objects that were given,
-- the metadata in memory and the slot's file say together. `tells` holds where the slot's file tells what was done to it,
-- and `shows` where the objects tell their bytes.
pub record Book (tells shows : Type 0) (past : List Entry) (names : List (List ℕ)) (saved : ℕ) (pairs : Pairs) (meta : Option Meta) (slot : Slot) : Type 0 where
  pub late : at_of past ≤ slot.calls
  pub kept : HasMeta (is_kept past) (facts_of saved past names) meta
  pub counted : tells → length slot.told.since ≡ slot.calls
  pub images : tells → (known : Known) → Fits shows known past pairs → IsOfImage known slot.told.first
      → EachStands known saved slot.told.first slot.told.since past names
  pub holds : tells → (known : Known) → Fits shows known past pairs → IsOfImage known slot.told.first
      → HoldsFor known saved (image slot.told) past names meta
