-- The JSON value of metadata, and how a step of reading ends; for private clauses.
use Rattle.std.specs.Prelude.{◌≡◌, ℕ, true, List, [], ◌∷◌, Option, Some, None, codes, Result, Ok, Err}
use Rattle.item_meta.specs.Field.{fields_before}
use Rattle.item_meta.specs.Object.{value_at, number_in, has_only}
use Rattle.item_meta.specs.Rows.{own_keys, IsShapeRow, AreRightIn, IsFirstWrongIn}
use Rattle.item_meta.specs.declared.field.Field.TheVariants.{Spelling}
use Rattle.byte_ranges.specs.declared.Span.{Span}
use Rattle.hex.specs.Hex.{encode_lower}
use Rattle.serde_json.specs.Data.{Data, null, boolean, number, unsigned, string, array, object, Items, no_items, item, no_members, member}
use Rattle.vfs_names.specs.declared.fingerprint.Fingerprint.{Fingerprint}
use Rattle.item_meta.specs.declared.field.Field.{Field}
use Rattle.item_meta.specs.declared.field.MetaError.{MetaError}
use Rattle.item_meta.specs.declared.field.MetaError.TheVariants.{BadMeta, NoMemory}
use Rattle.item_meta.specs.declared.meta.Intent.{Intent}
use Rattle.item_meta.specs.declared.meta.Meta.{Meta}

abbrev pub whole : ℕ → Data
whole n = number (unsigned n)

abbrev pub span_data : Span → Data
span_data span = array (item (whole span.start) (item (whole span.end) no_items))

abbrev pub spans_items : List Span → Items
spans_items [] = no_items
spans_items (span ∷ rest) = item (span_data span) (spans_items rest)

abbrev pub base_data : Option Fingerprint → Data
base_data None = null
base_data (Some print) = object
    (member (codes "mtime") (whole print.mtime)
    (member (codes "rev") (whole print.rev)
    (member (codes "size") (whole print.size)
    no_members)))

abbrev pub intent_data : Option Intent → Data
intent_data None = null
intent_data (Some intent) = object
    (member (codes "bytes") (string (encode_lower intent.bytes))
    (member (codes "pos") (whole intent.pos)
    no_members))

abbrev pub meta_data : Meta → Data
meta_data meta = object
    (member (codes "atime") (whole meta.atime)
    (member (codes "base") (base_data meta.base)
    (member (codes "base_end") (whole meta.base_end)
    (member (codes "dirty") (boolean meta.dirty)
    (member (codes "intent") (intent_data meta.intent)
    (member (codes "mtime") (whole meta.mtime)
    (member (codes "path") (string meta.path)
    (member (codes "ranges") (array (spans_items meta.ranges))
    (member (codes "size") (whole meta.size)
    (member (codes "v") (whole 1)
    no_members))))))))))

-- A value with this fact was read, or there is none and this field is wrong. Memory may be wanting.
abbrev pub IsRead : {T : Type 0} → Field → (T → Type 0) → Result T MetaError → Type 0
IsRead field P (Ok x) = P x
IsRead {T} field P (Err (BadMeta wrong)) = (wrong ≡ field) × ((x : T) → ¬ P x)
IsRead field P (Err NoMemory) = Unit {0}

-- The text is UTF-8 and its value an object of metadata's keys and version.
pub record IsHead (text : List ℕ) (o : Option Data) : Type 0 where
  pub shape : IsShapeRow text o
  pub keys : has_only own_keys o ≡ true
  pub version : number_in (value_at (codes "v") o) ≡ Some 1

-- All fields but the spelling are right, or the first wrong one was found. Memory may be wanting.
abbrev pub IsReadFrom : List ℕ → Option Data → Result Meta MetaError → Type 0
IsReadFrom text o (Ok meta) = AreRightIn text o meta (fields_before Spelling)
IsReadFrom text o (Err (BadMeta field)) = IsFirstWrongIn text o field
IsReadFrom text o (Err NoMemory) = Unit {0}
