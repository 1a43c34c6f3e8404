-- Which histories an image of a slot stands for.
use Rattle.std.specs.Prelude.{◌≡◌, ℕ, suc, ◌-◌, ◌++◌, if◌then◌else◌, Bool, true, false, Option, Some, None, List, [], ◌∷◌, length, slice_index}
use Rattle.byte_ranges.specs.Ranges.{has}
use Rattle.vfs_outside.specs.Image.{Image, data_in, is_within, meta_in}
use Rattle.vfs_outside.specs.declared.file_call.FileCall.{FileCall}
use Rattle.item_core.specs.declared.entry.Entry.{Entry}
use Rattle.item_core.specs.Content.{Known, base_byte, byte_at}
use Rattle.item_core.specs.History.{is_kept, place}
use Rattle.item_core.specs.Names.{names_at}
use Rattle.item_meta.specs.Grammar.{IsTextOf}
use Rattle.item_meta.specs.declared.meta.Intent.{Intent}
use Rattle.item_meta.specs.declared.meta.Meta.{Meta}
use Rattle.item_image.specs.Facts.{HasFacts, MetaFacts, facts_of}

-- a saved text that says these metadata: the one text of them, which are in range
abbrev pub Means : List ℕ → Meta → Type 0
Means text meta = IsTextOf meta text

-- the byte at p of data, an intent laid over it
abbrev pub laid : Option Intent → (ℕ → Option ℕ) → ℕ → Option ℕ
laid None stored p = stored p
laid (Some i) stored p = if is_within i.pos (length i.bytes) p then Some (slice_index i.bytes (p - i.pos)) else stored p

-- The metadata tell these facts. Each byte in their ranges is there, an intent laid over the data, and is the file's;
-- each other is the held object's below the base end, and 0 from there on.
pub record Tells (known : Known) (facts : MetaFacts) (bytes : ℕ → ℕ) (meta : Meta) (stored : ℕ → Option ℕ) : Type 0 where
  pub same : HasFacts facts meta
  pub present : (p : ℕ) → has meta.ranges p ≡ true → laid meta.intent stored p ≡ Some (bytes p)
  pub absent : (p : ℕ) → has meta.ranges p ≡ false → bytes p ≡ base_byte known facts.base_end facts.held p

-- metadata are saved, and tell these facts
pub record IsSaved (known : Known) (text : Option (List ℕ)) (stored : ℕ → Option ℕ) (facts : MetaFacts) (bytes : ℕ → ℕ) : Type 0 where
  pub words : List ℕ
  pub meta : Meta
  pub there : text ≡ Some words
  pub means : Means words meta
  pub tells : Tells known facts bytes meta stored

-- a kept file has its metadata saved, and one that isn't kept has none
pub record Stands (known : Known) (text : Option (List ℕ)) (stored : ℕ → Option ℕ) (kept : Bool) (facts : MetaFacts) (bytes : ℕ → ℕ) : Type 0 where
  pub here : kept ≡ true → IsSaved known text stored facts bytes
  pub gone : kept ≡ false → text ≡ None

-- the image stands for the history with the paths beside it
abbrev pub StandsFor : Known → ℕ → Image → List Entry → List (List ℕ) → Type 0
StandsFor known saved image past names =
    Stands known (meta_in image) (λ p. data_in image p) (is_kept past) (facts_of saved past names) (λ p. byte_at known past p)

-- after each of these calls, and before the first, the image stands for the part of the history that was made by then
abbrev pub EachStands : Known → ℕ → Image → List FileCall → List Entry → List (List ℕ) → Type 0
EachStands known saved first [] past names = StandsFor known saved first (place past 0) (names_at past 0 names)
EachStands known saved first (c ∷ older) past names =
    StandsFor known saved ((c ∷ older) ++ first) (place past (suc (length older))) (names_at past (suc (length older)) names)
    × EachStands known saved first older past names
