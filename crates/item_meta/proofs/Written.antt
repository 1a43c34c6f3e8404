-- What is written for the JSON value of metadata is their text.
use Rattle.std.proofs.Common.{◌≡◌, ℕ, ◌≤◌, List, [], ◌∷◌, ◌++◌, Bool, true, false, Option, Some, None, map, codes, decimal, refl, sym, ap, ◌∙◌, arith, append_assoc}
use Rattle.byte_ranges.specs.declared.Span.{Span}
use Rattle.hex.specs.Hex.{encode_lower}
use Rattle.json.specs.Print.{escape_byte, escape, quoted}
use Rattle.serde_json.specs.Data.{Data, boolean, string, array, object, Members, no_members, member, depth, items_depth}
use Rattle.serde_json.specs.Read.{max_depth, read}
use Rattle.serde_json.specs.Written.{has_float, items_have_float, compact_text, items_text, members_text}
use Rattle.vfs_names.specs.declared.fingerprint.Fingerprint.{Fingerprint}
use Rattle.item_meta.specs.declared.meta.Intent.{Intent}
use Rattle.item_meta.specs.declared.meta.Meta.{Meta}
use Rattle.item_meta.specs.Text.{commas, member_text, object_text, truth_text, base_text, intent_text, span_text, list_text, meta_text}
use Rattle.item_meta.specs.Value.{whole, span_data, spans_items, base_data, intent_data, meta_data}

-- ---- no floats, and four levels at most

spans_whole : (spans : List Span) → items_have_float (spans_items spans) ≡ false
spans_whole [] = refl
spans_whole (span ∷ rest) = spans_whole rest

base_whole : (base : Option Fingerprint) → has_float (base_data base) ≡ false
base_whole None = refl
base_whole (Some print) = refl

intent_whole : (intent : Option Intent) → has_float (intent_data intent) ≡ false
intent_whole None = refl
intent_whole (Some intent) = refl

pub meta_whole : (meta : Meta) → has_float (meta_data meta) ≡ false
meta_whole meta = rw (base_whole meta.base, intent_whole meta.intent, spans_whole meta.ranges)

spans_depth : (spans : List Span) → items_depth (spans_items spans) ≤ 1
spans_depth [] = omega arith
spans_depth (span ∷ rest) = omega (arith, spans_depth rest)

base_depth : (base : Option Fingerprint) → depth (base_data base) ≤ 1
base_depth None = omega arith
base_depth (Some print) = omega arith

intent_depth : (intent : Option Intent) → depth (intent_data intent) ≤ 1
intent_depth None = omega arith
intent_depth (Some intent) = omega arith

pub meta_depth : (meta : Meta) → depth (meta_data meta) ≤ max_depth
meta_depth meta = omega (arith, base_depth meta.base, intent_depth meta.intent, spans_depth meta.ranges)

-- ---- the text

span_same : (span : Span) → compact_text (span_data span) ≡ span_text span
span_same span = simp append_assoc

list_rest : (span : Span) (rest : List Span) → compact_text (span_data span) ++ items_text true (spans_items rest) ≡ commas (map span_text (span ∷ rest)) ++ 93 ∷ []
list_rest span [] = ap (λ t. t ++ 93 ∷ []) (span_same span)
list_rest span (next ∷ rest) =
    ap (λ t. t ++ (44 ∷ (compact_text (span_data next) ++ items_text true (spans_items rest)))) (span_same span)
    ∙ ap (λ t. span_text span ++ (44 ∷ t)) (list_rest next rest)
    ∙ sym (append_assoc (span_text span) (44 ∷ commas (map span_text (next ∷ rest))) (93 ∷ []))

spans_same : (spans : List Span) → compact_text (array (spans_items spans)) ≡ list_text (map span_text spans)
spans_same [] = refl
spans_same (span ∷ rest) = ap (λ t. 91 ∷ t) (list_rest span rest)

-- an object of these keys and values
abbrev members_of : List (List ℕ × Data) → Members
members_of [] = no_members
members_of (p ∷ rest) = member p.0 p.1 (members_of rest)

abbrev texts_of : List (List ℕ × Data) → List (List ℕ × List ℕ)
texts_of ps = map (λ p. (p.0, compact_text p.1)) ps

-- no key needs an escape
abbrev ArePlain : List (List ℕ × Data) → Type 0
ArePlain [] = Unit {0}
ArePlain (p ∷ rest) = (escape p.0 ≡ p.0) × ArePlain rest

glued : (key text : List ℕ) → (34 ∷ (key ++ 34 ∷ [])) ++ 58 ∷ text ≡ member_text (key, text)
glued key text = simp append_assoc

member_same : (key text : List ℕ) → escape key ≡ key → quoted key ++ 58 ∷ text ≡ member_text (key, text)
member_same key text plain = ap (λ k. (34 ∷ (k ++ 34 ∷ [])) ++ 58 ∷ text) plain ∙ glued key text

more : (q a b : List ℕ) → q ++ 58 ∷ (a ++ b) ≡ (q ++ 58 ∷ a) ++ b
more q a b = simp append_assoc

members_rest : (p : List ℕ × Data) (rest : List (List ℕ × Data)) → ArePlain (p ∷ rest)
    → quoted p.0 ++ 58 ∷ (compact_text p.1 ++ members_text true (members_of rest)) ≡ commas (map member_text (texts_of (p ∷ rest))) ++ 125 ∷ []
members_rest p [] plain = more (quoted p.0) (compact_text p.1) (125 ∷ []) ∙ ap (λ t. t ++ 125 ∷ []) (member_same p.0 (compact_text p.1) plain.0)
members_rest p (next ∷ rest) plain =
    more (quoted p.0) (compact_text p.1) (members_text true (members_of (next ∷ rest)))
    ∙ ap (λ t. t ++ members_text true (members_of (next ∷ rest))) (member_same p.0 (compact_text p.1) plain.0)
    ∙ ap (λ t. member_text (p.0, compact_text p.1) ++ (44 ∷ t)) (members_rest next rest plain.1)
    ∙ sym (append_assoc (member_text (p.0, compact_text p.1)) (44 ∷ commas (map member_text (texts_of (next ∷ rest)))) (125 ∷ []))

object_same : (p : List ℕ × Data) (rest : List (List ℕ × Data)) → ArePlain (p ∷ rest) → compact_text (object (members_of (p ∷ rest))) ≡ object_text (texts_of (p ∷ rest))
object_same p rest plain = ap (λ t. 123 ∷ t) (members_rest p rest plain)

base_same : (base : Option Fingerprint) → compact_text (base_data base) ≡ base_text base
unfolding escape_byte
base_same None = refl
base_same (Some print) = object_same (codes "mtime", whole print.mtime) ((codes "rev", whole print.rev) ∷ (codes "size", whole print.size) ∷ []) (refl, (refl, (refl, tt)))

intent_same : (intent : Option Intent) → compact_text (intent_data intent) ≡ intent_text intent
unfolding escape_byte
intent_same None = refl
intent_same (Some intent) = object_same (codes "bytes", string (encode_lower intent.bytes)) ((codes "pos", whole intent.pos) ∷ []) (refl, (refl, tt))

truth_same : (b : Bool) → compact_text (boolean b) ≡ truth_text b
truth_same true = refl
truth_same false = refl

-- the text, of the texts of the values that are no numbers
abbrev text_of : Meta → List ℕ → List ℕ → List ℕ → List ℕ → List ℕ
text_of meta base dirty intent ranges = object_text
    ((codes "atime", decimal meta.atime)
    ∷ (codes "base", base)
    ∷ (codes "base_end", decimal meta.base_end)
    ∷ (codes "dirty", dirty)
    ∷ (codes "intent", intent)
    ∷ (codes "mtime", decimal meta.mtime)
    ∷ (codes "path", quoted meta.path)
    ∷ (codes "ranges", ranges)
    ∷ (codes "size", decimal meta.size)
    ∷ (codes "v", decimal 1)
    ∷ [])

whole_same : (meta : Meta) → compact_text (meta_data meta) ≡ text_of meta (compact_text (base_data meta.base)) (compact_text (boolean meta.dirty)) (compact_text (intent_data meta.intent)) (compact_text (array (spans_items meta.ranges)))
unfolding escape_byte
whole_same meta = object_same (codes "atime", whole meta.atime)
    ((codes "base", base_data meta.base)
    ∷ (codes "base_end", whole meta.base_end)
    ∷ (codes "dirty", boolean meta.dirty)
    ∷ (codes "intent", intent_data meta.intent)
    ∷ (codes "mtime", whole meta.mtime)
    ∷ (codes "path", string meta.path)
    ∷ (codes "ranges", array (spans_items meta.ranges))
    ∷ (codes "size", whole meta.size)
    ∷ (codes "v", whole 1)
    ∷ [])
    (refl, (refl, (refl, (refl, (refl, (refl, (refl, (refl, (refl, (refl, tt))))))))))

pub meta_same : (meta : Meta) → compact_text (meta_data meta) ≡ meta_text meta
unfolding meta_text
meta_same meta =
    let base = base_same meta.base in
    let dirty = truth_same meta.dirty in
    let intent = intent_same meta.intent in
    let ranges = spans_same meta.ranges in
    whole_same meta
    ∙ ap (λ t. text_of meta t (compact_text (boolean meta.dirty)) (compact_text (intent_data meta.intent)) (compact_text (array (spans_items meta.ranges)))) base
    ∙ ap (λ t. text_of meta (base_text meta.base) t (compact_text (intent_data meta.intent)) (compact_text (array (spans_items meta.ranges)))) dirty
    ∙ ap (λ t. text_of meta (base_text meta.base) (truth_text meta.dirty) t (compact_text (array (spans_items meta.ranges)))) intent
    ∙ ap (λ t. text_of meta (base_text meta.base) (truth_text meta.dirty) (intent_text meta.intent) t) ranges

pub text_from : (meta : Meta) (d : Data) (bytes : List ℕ) → d ≡ meta_data meta → (has_float d ≡ false → bytes ≡ compact_text d) → bytes ≡ meta_text meta
text_from meta d bytes is text = text (ap has_float is ∙ meta_whole meta) ∙ ap compact_text is ∙ meta_same meta

pub reads_from : (meta : Meta) (d : Data) (bytes : List ℕ) → d ≡ meta_data meta → (depth d ≤ max_depth → read bytes ≡ Some d) → read bytes ≡ Some (meta_data meta)
reads_from meta d bytes is reads = reads (omega (arith, ap depth is, meta_depth meta)) ∙ ap Some is
