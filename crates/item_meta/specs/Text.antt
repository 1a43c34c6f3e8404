-- The text of metadata: JSON with no spaces, the keys of each object in rising order.
use Rattle.std.specs.Prelude.{ℕ, Bool, true, false, List, [], ◌∷◌, ◌++◌, map, Option, Some, None, codes, decimal}
use Rattle.std.specs.List.{join_with_byte}
use Rattle.byte_ranges.specs.declared.Span.{Span}
use Rattle.hex.specs.Hex.{encode_lower}
use Rattle.json.specs.Print.{quoted}
use Rattle.vfs_names.specs.declared.fingerprint.Fingerprint.{Fingerprint}
use Rattle.item_meta.specs.declared.meta.Intent.{Intent}
use Rattle.item_meta.specs.declared.meta.Meta.{Meta}

abbrev pub commas : List (List ℕ) → List ℕ
commas parts = join_with_byte 44 parts

-- a key, which needs no escape, and the text of its value
abbrev pub member_text : List ℕ × List ℕ → List ℕ
member_text m = codes "\"" ++ m.0 ++ codes "\":" ++ m.1

abbrev pub object_text : List (List ℕ × List ℕ) → List ℕ
object_text members = codes "{" ++ commas (map member_text members) ++ codes "}"

abbrev pub list_text : List (List ℕ) → List ℕ
list_text items = codes "[" ++ commas items ++ codes "]"

abbrev pub truth_text : Bool → List ℕ
truth_text true = codes "true"
truth_text false = codes "false"

abbrev pub base_text : Option Fingerprint → List ℕ
base_text None = codes "null"
base_text (Some print) = object_text
    ((codes "mtime", decimal print.mtime)
    ∷ (codes "rev", decimal print.rev)
    ∷ (codes "size", decimal print.size)
    ∷ [])

abbrev pub intent_text : Option Intent → List ℕ
intent_text None = codes "null"
intent_text (Some intent) = object_text
    ((codes "bytes", quoted (encode_lower intent.bytes))
    ∷ (codes "pos", decimal intent.pos)
    ∷ [])

abbrev pub span_text : Span → List ℕ
span_text span = list_text (decimal span.start ∷ decimal span.end ∷ [])

-- opaque to callers, which compare whole texts
unfoldable pub meta_text : Meta → List ℕ
meta_text meta = object_text
    ((codes "atime", decimal meta.atime)
    ∷ (codes "base", base_text meta.base)
    ∷ (codes "base_end", decimal meta.base_end)
    ∷ (codes "dirty", truth_text meta.dirty)
    ∷ (codes "intent", intent_text meta.intent)
    ∷ (codes "mtime", decimal meta.mtime)
    ∷ (codes "path", quoted meta.path)
    ∷ (codes "ranges", list_text (map span_text meta.ranges))
    ∷ (codes "size", decimal meta.size)
    ∷ (codes "v", decimal 1)
    ∷ [])
