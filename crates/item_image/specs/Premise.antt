-- What is to be known of contents, before anything can be said of a file's bytes.
use Rattle.std.specs.Prelude.{◌≡◌, ◌<◌, ℕ, ◌+◌, if◌then◌else◌, true, Option, Some, None, IsSome, List, length, slice_index}
use Rattle.std.specs.List.{AllByRecursion}
use Rattle.byte_ranges.specs.Ranges.{has}
use Rattle.vfs_names.specs.declared.fingerprint.Fingerprint.{Fingerprint}
use Rattle.vfs_outside.specs.Image.{Image, data_in, meta_in}
use Rattle.item_core.specs.declared.entry.Entry.{Entry}
use Rattle.item_core.specs.Content.{Known, IsSavedWhole, base_byte}
use Rattle.item_core.specs.History.{base_end_of, held_by}
use Rattle.item_meta.specs.declared.meta.Meta.{Meta}
use Rattle.item_image.specs.Stands.{Means, laid}

-- fingerprints and bytes of objects that were given
abbrev pub Pairs : Type 0
Pairs = List (Fingerprint × List ℕ)

-- the contents are those of these objects, which tell them; where none was given there is nothing to ask
abbrev pub Holds : Type 0 → Pairs → Known → Type 0
Holds shows pairs known = AllByRecursion (λ (pair : Fingerprint × List ℕ). shows × (known.content pair.0 ≡ pair.1)) pairs

-- what is known fits what the file was given, and what was uploaded of it
pub record Fits (shows : Type 0) (known : Known) (past : List Entry) (pairs : Pairs) : Type 0 where
  pub given : Holds shows pairs known
  pub saved : IsSavedWhole known past

-- the byte at p that an image has saved
abbrev pub saved_by : Meta → (ℕ → Option ℕ) → ℕ → Option ℕ
saved_by meta stored p = if has meta.ranges p then laid meta.intent stored p else None

-- Each byte that metadata say to be there is, and these are the bytes that they say so of.
pub record IsWholeAs (meta : Meta) (stored saved : ℕ → Option ℕ) : Type 0 where
  pub whole : (p : ℕ) → has meta.ranges p ≡ true → IsSome (laid meta.intent stored p)
  pub same : (p : ℕ) → saved p ≡ saved_by meta stored p

-- what is known as saved when the epoch began is what this image has saved
abbrev pub IsOfImage : Known → Image → Type 0
IsOfImage known first = (text : List ℕ) (meta : Meta) → meta_in first ≡ Some text → Means text meta
    → IsWholeAs meta (λ p. data_in first p) known.saved

-- a history whose uploads are shown to be whole, of contents that are known from all that a store handed out
abbrev pub IsHanded : Type 0 → Pairs → Image → List Entry → Pairs → Type 0
IsHanded shows handed first past pairs =
    (known : Known) → Holds shows handed known → IsOfImage known first → Fits shows known past pairs

-- these are bytes that no write gave: the held object's below the base end, and 0 from there on
pub record IsBase (shows : Type 0) (past : List Entry) (pairs : Pairs) (pos : ℕ) (bytes : List ℕ) : Type 0 where
  pub each : (known : Known) → Fits shows known past pairs
      → (i : ℕ) → i < length bytes → slice_index bytes i ≡ base_byte known (base_end_of past) (held_by past) (pos + i)
