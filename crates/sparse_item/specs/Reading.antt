-- What a read shows and leaves.
use Rattle.std.specs.Prelude.{◌≡◌, ◌<◌, ◌≤◌, ℕ, ◌+◌, ◌-◌, ◌++◌, true, false, min, length, slice_index, Some, List, [], ◌∷◌}
use Rattle.byte_ranges.specs.Ranges.{has}
use Rattle.byte_ranges.specs.declared.Span.{Span}
use Rattle.vfs_names.specs.declared.refusal.Refusal.{Refusal}
use Rattle.vfs_names.specs.declared.refusal.Refusal.TheVariants as refusals
use Rattle.vfs_names.specs.declared.refusal.Verb.TheVariants as verbs
use Rattle.vfs_names.specs.declared.who.By.{By}
use Rattle.vfs_outside.specs.Image.{data_in}
use Rattle.vfs_outside.specs.Slot.{Slot, image}
use Rattle.item_core.specs.declared.entry.Entry.{Entry}
use Rattle.item_core.specs.declared.entry.FileKind.TheVariants.{Refused}
use Rattle.item_core.specs.Content.{bytes_at}
use Rattle.item_core.specs.History.{size_of}
use Rattle.item_image.specs.Entries.{made}
use Rattle.item_image.specs.Premise.{Fits, IsOfImage}
use Rattle.item_core.specs.Content.{Known}
use Rattle.sparse_item.specs.Fetching.{IsBringCause, Lacks, object_part}
use Rattle.sparse_item.specs.Item.{Item}

-- how many bytes a read shows: none from the size on
abbrev pub shown : List Entry → ℕ → ℕ → ℕ
shown past pos len = min len (size_of past - pos)

-- the bytes of a read that the object behind the file gives
abbrev pub needed : List Entry → ℕ → ℕ → Span
needed past pos len = object_part past (record { start = pos; end = pos + len })

-- a read that is refused for the object or the disk says so in the history; one for another cause adds nothing
abbrev pub refused_read : By → ℕ → Refusal → List Entry
refused_read by at refusals.RemoteFault = made by at (Refused verbs.Read refusals.RemoteFault) ∷ []
refused_read by at refusals.DiskFault = made by at (Refused verbs.Read refusals.DiskFault) ∷ []
refused_read by at (refusals.Stale held what) = made by at (Refused verbs.Read (refusals.Stale held what)) ∷ []
refused_read by at _ = []

abbrev pub EntersRefusedRead : By → Item → Item → Refusal → Type 0
EntersRefusedRead by old new why = new.log.past ≡ refused_read by new.slot.calls why ++ old.log.past

-- why a read is refused
abbrev pub IsReadCause : Item → Item → Span → Refusal → Type 0
IsReadCause old new part refusals.TooBig = Unit {0}
IsReadCause old new part refusals.HistoryFull = Unit {0}
IsReadCause old new part why = IsBringCause (Lacks old.here part) old.base new.base old.slot new.slot why

-- a refusal that stands before those for the object and the disk
abbrev pub IsEarlier : Refusal → Type 0
IsEarlier refusals.TooBig = Unit {0}
IsEarlier refusals.HistoryFull = Unit {0}
IsEarlier refusals.NoMemory = Unit {0}
IsEarlier _ = ⊥

-- Of the bytes from pos on, those before a place that are here are the data's, where it has them; each other is as it was.
pub record Fills (tells : Type 0) (slot : Slot) (here : List Span) (pos to : ℕ) (old new : List ℕ) : Type 0 where
  pub size : length new ≡ length old
  pub there : tells → (i b : ℕ) → i < length new → pos + i < to → has here (pos + i) ≡ true
      → data_in (image slot.told) (pos + i) ≡ Some b → slice_index new i ≡ b
  pub absent : (i : ℕ) → i < length new → has here (pos + i) ≡ false → slice_index new i ≡ slice_index old i
  pub later : (i : ℕ) → i < length new → to ≤ pos + i → slice_index new i ≡ slice_index old i

-- the data is what it was
abbrev pub SameData : Type 0 → Slot → Slot → Type 0
SameData tells old new = tells → (p : ℕ) → data_in (image new.told) p ≡ data_in (image old.told) p

-- the bytes that a read shows are those of the history, wherever the file and the objects tell
abbrev pub Shows : Type 0 → Type 0 → Item → ℕ → ℕ → List ℕ → Type 0
Shows tells shows item pos len bytes = tells → (known : Known) → Fits shows known item.log.past item.pairs
    → IsOfImage known item.slot.told.first → bytes ≡ bytes_at known item.log.past pos (shown item.log.past pos len)
