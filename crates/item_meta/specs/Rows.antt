-- When each field of a text is right, and which is the first that is wrong.
use Rattle.std.specs.Prelude.{◌≡◌, ℕ, Bool, true, List, [], ◌∷◌, Option, Some, option_and_then, codes, IsUtf8, IsSome}
use Rattle.serde_json.specs.Data.{Data}
use Rattle.serde_json.specs.Find.{as_object}
use Rattle.serde_json.specs.Read.{read}
use Rattle.byte_ranges.specs.declared.Span.{Span}
use Rattle.vfs_names.specs.declared.fingerprint.Fingerprint.{Fingerprint}
use Rattle.item_meta.specs.declared.field.Field.{Field}
use Rattle.item_meta.specs.declared.field.Field.TheVariants.{Shape, Extra, V, Path, Size, Base, BaseEnd, Ranges, Dirty, Intent, Mtime, Atime, Spelling}
use Rattle.item_meta.specs.declared.meta.Meta.{Meta}
use Rattle.item_meta.specs.declared.meta.Intent as intents
use Rattle.item_meta.specs.Field.{fields_before}
use Rattle.item_meta.specs.InRange.{IsFile, IsSize, base_size, IsBaseEnd, ArePresent, IsMark, IsPending}
use Rattle.item_meta.specs.Object.{value_at, number_in, text_in, truth_in, has_only, spans_in, IsBaseIn, IsIntentIn}
use Rattle.item_meta.specs.Text.{meta_text}

-- the keys of metadata
abbrev pub own_keys : List (List ℕ)
own_keys = codes "atime" ∷ codes "base" ∷ codes "base_end" ∷ codes "dirty" ∷ codes "intent"
    ∷ codes "mtime" ∷ codes "path" ∷ codes "ranges" ∷ codes "size" ∷ codes "v" ∷ []

-- ---- one row each: what stands there is of its kind and in range, and this is its value

abbrev pub IsShapeRow : List ℕ → Option Data → Type 0
IsShapeRow text o = IsUtf8 text × IsSome (option_and_then as_object o)

abbrev pub IsPathRow : Option Data → List ℕ → Type 0
IsPathRow o path = (text_in (value_at (codes "path") o) ≡ Some path) × IsFile path

abbrev pub IsSizeRow : Option Data → ℕ → Type 0
IsSizeRow o size = (number_in (value_at (codes "size") o) ≡ Some size) × IsSize size

abbrev pub IsBaseRow : Option Data → Option Fingerprint → Type 0
IsBaseRow o base = IsBaseIn (value_at (codes "base") o) base × IsSize (base_size base)

abbrev pub IsBaseEndRow : Option Data → ℕ → Option Fingerprint → ℕ → Type 0
IsBaseEndRow o size base base_end =
    (number_in (value_at (codes "base_end") o) ≡ Some base_end) × IsBaseEnd size base base_end

abbrev pub IsRangesRow : Option Data → ℕ → List Span → Type 0
IsRangesRow o size ranges =
    (spans_in (value_at (codes "ranges") o) ≡ Some ranges) × ArePresent size ranges

abbrev pub IsDirtyRow : Option Data → ℕ → Option Fingerprint → ℕ → Bool → Type 0
IsDirtyRow o size base base_end dirty =
    (truth_in (value_at (codes "dirty") o) ≡ Some dirty) × IsMark size base base_end dirty

abbrev pub IsIntentRow : Option Data → ℕ → List Span → Bool → Option intents.Intent → Type 0
IsIntentRow o size ranges dirty intent =
    IsIntentIn (value_at (codes "intent") o) intent × IsPending size ranges dirty intent

-- The field is right in the text, whose JSON value is o, and these metadata have its value.
abbrev pub IsRightIn : List ℕ → Option Data → Meta → Field → Type 0
IsRightIn text o meta Shape = IsShapeRow text o
IsRightIn text o meta Extra = has_only own_keys o ≡ true
IsRightIn text o meta V = number_in (value_at (codes "v") o) ≡ Some 1
IsRightIn text o meta Path = IsPathRow o meta.path
IsRightIn text o meta Size = IsSizeRow o meta.size
IsRightIn text o meta Base = IsBaseRow o meta.base
IsRightIn text o meta BaseEnd = IsBaseEndRow o meta.size meta.base meta.base_end
IsRightIn text o meta Ranges = IsRangesRow o meta.size meta.ranges
IsRightIn text o meta Dirty = IsDirtyRow o meta.size meta.base meta.base_end meta.dirty
IsRightIn text o meta Intent = IsIntentRow o meta.size meta.ranges meta.dirty meta.intent
IsRightIn text o meta Mtime = number_in (value_at (codes "mtime") o) ≡ Some meta.mtime
IsRightIn text o meta Atime = number_in (value_at (codes "atime") o) ≡ Some meta.atime
IsRightIn text o meta Spelling = text ≡ meta_text meta

abbrev pub AreRightIn : List ℕ → Option Data → Meta → List Field → Type 0
AreRightIn text o meta [] = Unit {0}
AreRightIn text o meta (field ∷ rest) = IsRightIn text o meta field × AreRightIn text o meta rest

-- Some metadata have the values of all fields before this one, and none of them has its value too.
pub record IsFirstWrongIn (text : List ℕ) (o : Option Data) (field : Field) : Type 0 where
  pub until : (meta : Meta) × AreRightIn text o meta (fields_before field)
  pub wrong : (meta : Meta) → AreRightIn text o meta (fields_before field)
      → ¬ IsRightIn text o meta field

abbrev pub IsFirstWrong : List ℕ → Field → Type 0
IsFirstWrong text field = IsFirstWrongIn text (read text) field
