-- A text of the grammar reads as the value of its metadata, and all of its fields are right.
use Rattle.std.proofs.Common.{◌≡◌, ◌⊎◌, inl, inr, ℕ, zero, suc, take, get_or, ◌+◌, ◌<◌, ◌≤◌, ◌^◌, Bool, List, [], ◌∷◌, ◌++◌, length, Option, Some, None, option_map, option_and_then, IsUtf8, refl, sym, ap, ◌∙◌, subst, arith, rules, append-nil}
use Rattle.std.proofs.lemmas.Bool.{cases_lt}
use Rattle.std.proofs.lemmas.List.Elements.{All-head, All-tail}
use Rattle.std.specs.List.{All}
use Rattle.byte_ranges.specs.declared.Span.{Span}
use Rattle.byte_ranges.specs.Ranges.{IsApartFrom}
use Rattle.json.specs.Json as json
use Rattle.json.specs.Lex.{tokens}
use Rattle.json.specs.Print.{print}
use Rattle.json.specs.Token.{Token}
use Rattle.json.specs.Tree as tree
use Rattle.json.proofs.Printed.Decimals.{IsNumber-decimal}
use Rattle.json.proofs.Printed.Tokens.{tokens-print}
use Rattle.json.proofs.Printed.Trees.{value-json_tokens, ArePrintable-json_tokens}
use Rattle.serde_json.specs.Data.{Data, number}
use Rattle.serde_json.specs.Read.{of_json, of_items, max_depth, read}
use Rattle.serde_json.specs.Written.{outline, items_outline, compact_text}
use Rattle.serde_json.proofs.Numbers.{number_of-decimal}
use Rattle.serde_json.proofs.Texts.{print-outline}
use Rattle.vfs_names.specs.declared.fingerprint.Fingerprint.{Fingerprint}
use Rattle.item_meta.specs.declared.field.Field.{Field}
use Rattle.item_meta.specs.declared.field.Field.TheVariants.{Shape, Extra, V, Path, Size, Base, BaseEnd, Ranges, Dirty, Intent, Mtime, Atime, Spelling}
use Rattle.item_meta.specs.declared.field.MetaError.{MetaError}
use Rattle.item_meta.specs.declared.field.MetaError.TheVariants.{BadMeta, NoMemory}
use Rattle.item_meta.specs.declared.meta.Intent as intents
use Rattle.item_meta.specs.declared.meta.Meta.{Meta}
use Rattle.item_meta.specs.Field.{fields, place, fields_before}
use Rattle.item_meta.specs.Grammar.{IsTextOf}
use Rattle.item_meta.specs.InRange.{IsMeta, FitsTypes, FitsBase, FitsIntent, IsSize, base_size, IsPending}
use Rattle.item_meta.specs.Object.{all_spans, IsBaseIn, IsIntentIn}
use Rattle.item_meta.specs.Rows.{IsRightIn, AreRightIn, IsFirstWrongIn}
use Rattle.item_meta.specs.Text.{meta_text}
use Rattle.item_meta.specs.Value.{whole, span_data, spans_items, base_data, intent_data, meta_data}
use Rattle.item_meta.proofs.Unique.{one_meta}
use Rattle.item_meta.proofs.Within.{EndsBy, ends_from_below}
use Rattle.item_meta.proofs.Written.{meta_same}

-- ---- one kind of value after the other reads back

whole_back : (n : ℕ) → n < 2 ^ 64 → of_json (outline (whole n)) ≡ Some (whole n)
whole_back n small = ap (option_map number) (number_of-decimal n small)

abbrev IsSmall : Span → Type 0
IsSmall span = (span.start < 2 ^ 64) × (span.end < 2 ^ 64)

abbrev AreSmall : List Span → Type 0
AreSmall [] = Unit {0}
AreSmall (span ∷ rest) = IsSmall span × AreSmall rest

span_back : (span : Span) → IsSmall span → of_json (outline (span_data span)) ≡ Some (span_data span)
span_back span small = rw (whole_back span.start small.0, whole_back span.end small.1)

spans_back : (spans : List Span) → AreSmall spans → of_items (items_outline (spans_items spans)) ≡ Some (spans_items spans)
spans_back [] small = refl
spans_back (span ∷ rest) small = rw (span_back span small.0, spans_back rest small.1)

small_spans : (low size : ℕ) (spans : List Span) → size ≤ 2 ^ 40 → IsApartFrom low spans → All (EndsBy size) spans → AreSmall spans
small_spans low size [] most apart ends = tt
small_spans low size (span ∷ rest) most apart ends =
    let last : span.end ≤ size = All-head (EndsBy size) span rest ends in
    ((omega arith, omega arith), small_spans (span.end + 1) size rest most apart.2 (All-tail (EndsBy size) span rest ends))

base_back : (base : Option Fingerprint) → IsSize (base_size base) → FitsBase base → of_json (outline (base_data base)) ≡ Some (base_data base)
base_back None size fits = refl
base_back (Some print) size fits = rw (whole_back print.mtime fits.0, whole_back print.rev fits.1, whole_back print.size (omega arith))

intent_back : (intent : Option intents.Intent) (size : ℕ) (ranges : List Span) (dirty : Bool) → size ≤ 2 ^ 40 → IsPending size ranges dirty intent → of_json (outline (intent_data intent)) ≡ Some (intent_data intent)
intent_back None size ranges dirty most fits = refl
intent_back (Some intent) size ranges dirty most fits = rw (whole_back intent.pos (omega (arith, fits.within)))

-- ---- each number is one of JSON, and the levels are few

spans_numbers : (spans : List Span) → AreSmall spans → tree.ItemsHaveNumbers (items_outline (spans_items spans))
spans_numbers [] small = tt
spans_numbers (span ∷ rest) small = ((IsNumber-decimal span.start small.0.0, (IsNumber-decimal span.end small.0.1, tt)), spans_numbers rest small.1)

base_numbers : (base : Option Fingerprint) → IsSize (base_size base) → FitsBase base → tree.HasNumbers (outline (base_data base))
base_numbers None size fits = tt
base_numbers (Some print) size fits = (IsNumber-decimal print.mtime fits.0, (IsNumber-decimal print.rev fits.1, (IsNumber-decimal print.size (omega arith), tt)))

intent_numbers : (intent : Option intents.Intent) (size : ℕ) (ranges : List Span) (dirty : Bool) → size ≤ 2 ^ 40 → IsPending size ranges dirty intent → tree.HasNumbers (outline (intent_data intent))
intent_numbers None size ranges dirty most fits = tt
intent_numbers (Some intent) size ranges dirty most fits = (tt, (IsNumber-decimal intent.pos (omega (arith, fits.within)), tt))

spans_levels : (spans : List Span) → tree.items_depth (items_outline (spans_items spans)) ≤ 1
spans_levels [] = omega arith
spans_levels (span ∷ rest) = omega (arith, spans_levels rest)

base_levels : (base : Option Fingerprint) → tree.depth (outline (base_data base)) ≤ 1
base_levels None = omega arith
base_levels (Some print) = omega arith

intent_levels : (intent : Option intents.Intent) → tree.depth (outline (intent_data intent)) ≤ 1
intent_levels None = omega arith
intent_levels (Some intent) = omega arith

meta_levels : (meta : Meta) → tree.depth (outline (meta_data meta)) ≤ max_depth
meta_levels meta = omega (arith, base_levels meta.base, intent_levels meta.intent, spans_levels meta.ranges)

-- ---- the whole

after_value : Option (json.Json × List Token) → Option Data
after_value p = option_and_then of_json (option_and_then (λ q. json.if_last q.0 q.1) p)

-- a value that was written reads back, where its numbers and levels do
written_back : (d : Data) → tree.HasNumbers (outline d) → tree.depth (outline d) ≤ max_depth → of_json (outline d) ≡ Some d → read (compact_text d) ≡ Some d
unfolding after_value
written_back d numbers levels back =
    let ts = tree.json_tokens (outline d) in
    let found : tokens (compact_text d) ≡ ts ++ [] = ap tokens (sym (print-outline d)) ∙ tokens-print ts (ArePrintable-json_tokens (outline d) numbers) ∙ sym (append-nil ts) in
    ap (λ us. after_value (json.value max_depth us)) found ∙ ap after_value (value-json_tokens (outline d) max_depth [] levels) ∙ back

module _ (meta : Meta) (fits : FitsTypes meta) (range : IsMeta meta) where
  spans_small : AreSmall meta.ranges
  spans_small = small_spans 0 meta.size meta.ranges range.size range.ranges.0 (ends_from_below meta.size meta.ranges range.ranges.0 range.ranges.1)

  meta_back : of_json (outline (meta_data meta)) ≡ Some (meta_data meta)
  meta_back = rw (whole_back meta.atime fits.atime, base_back meta.base range.base fits.base, whole_back meta.base_end (omega (arith, range.base_end.0, range.size)), intent_back meta.intent meta.size meta.ranges meta.dirty range.size range.intent, whole_back meta.mtime fits.mtime, spans_back meta.ranges spans_small, whole_back meta.size (omega (arith, range.size)), whole_back 1 (omega arith))

  meta_numbers : tree.HasNumbers (outline (meta_data meta))
  meta_numbers = (
    IsNumber-decimal meta.atime fits.atime,
    (
      base_numbers meta.base range.base fits.base,
      (
        IsNumber-decimal meta.base_end (omega (arith, range.base_end.0, range.size)),
        (
          tt,
          (
            intent_numbers meta.intent meta.size meta.ranges meta.dirty range.size range.intent,
            (
              IsNumber-decimal meta.mtime fits.mtime,
              (
                tt,
                (
                  spans_numbers meta.ranges spans_small,
                  (
                    IsNumber-decimal meta.size (omega (arith, range.size)),
                    (IsNumber-decimal 1 (omega arith), tt),
                  ),
                ),
              ),
            ),
          ),
        ),
      ),
    ),
  )

  meta_reads : (text : List ℕ) → text ≡ meta_text meta → read text ≡ Some (meta_data meta)
  meta_reads text spelled = ap read (spelled ∙ sym (meta_same meta)) ∙ written_back (meta_data meta) meta_numbers (meta_levels meta) meta_back

-- ---- what was read back is right

spans_right : (spans : List Span) → all_spans (spans_items spans) ≡ Some spans
spans_right [] = refl
spans_right (span ∷ rest) = rw (spans_right rest)

base_right : (base : Option Fingerprint) → IsBaseIn (Some (base_data base)) base
base_right None = refl
base_right (Some print) = record { only = refl; mtime = refl; rev = refl; size = refl }

intent_right : (intent : Option intents.Intent) → FitsIntent intent → IsIntentIn (Some (intent_data intent)) intent
intent_right None fits = refl
intent_right (Some intent) fits = record { only = refl; bytes = refl; are_bytes = fits; pos = refl }

right_in : (text : List ℕ) (meta : Meta) → IsUtf8 text → FitsTypes meta → IsMeta meta → text ≡ meta_text meta → (field : Field) → IsRightIn text (Some (meta_data meta)) meta field
right_in text meta utf8 fits range spelled Shape = (utf8, search rules)
right_in text meta utf8 fits range spelled Extra = refl
right_in text meta utf8 fits range spelled V = refl
right_in text meta utf8 fits range spelled Path = (refl, range.path)
right_in text meta utf8 fits range spelled Size = (refl, range.size)
right_in text meta utf8 fits range spelled Base = (base_right meta.base, range.base)
right_in text meta utf8 fits range spelled BaseEnd = (refl, range.base_end)
right_in text meta utf8 fits range spelled Ranges = (spans_right meta.ranges, range.ranges)
right_in text meta utf8 fits range spelled Dirty = (refl, range.dirty)
right_in text meta utf8 fits range spelled Intent = (intent_right meta.intent fits.intent, range.intent)
right_in text meta utf8 fits range spelled Mtime = refl
right_in text meta utf8 fits range spelled Atime = refl
right_in text meta utf8 fits range spelled Spelling = spelled

all_right_in : (text : List ℕ) (o : Option Data) (meta : Meta) → ((field : Field) → IsRightIn text o meta field) → (fields : List Field) → AreRightIn text o meta fields
all_right_in text o meta right [] = tt
all_right_in text o meta right (field ∷ rest) = (right field, all_right_in text o meta right rest)

module _ (text : List ℕ) (meta : Meta) (t : IsTextOf meta text) where
  all_right : (field : Field) → IsRightIn text (read text) meta field
  all_right = subst (λ o. (f : Field) → IsRightIn text o meta f) (sym (meta_reads meta t.fits t.in_range text t.spelled)) (right_in text meta t.utf8 t.fits t.in_range t.spelled)

  -- no field of a text of the grammar is wrong
  pub none_wrong : (field : Field) → IsFirstWrongIn text (read text) field → ⊥
  none_wrong field first = first.wrong meta (all_right_in text (read text) meta all_right (fields_before field)) (all_right field)

  pub only_memory : (e : MetaError) → ((field : Field) → e ≡ BadMeta field → IsFirstWrongIn text (read text) field) → e ≡ NoMemory
  only_memory (BadMeta field) first = absurd (none_wrong field (first field refl))
  only_memory NoMemory first = refl

-- a text is of one metadata
pub text_of_one : (text : List ℕ) (a b : Meta) → IsTextOf a text → IsTextOf b text → a ≡ b
text_of_one text a b p q =
    one_meta text (read text) a b (all_right_in text (read text) a (all_right text a p) (fields_before Spelling)) (all_right_in text (read text) b (all_right text b q) (fields_before Spelling))

-- ---- the first wrong field is one

field_at : (field : Field) → get_or fields (place field) Shape ≡ field
field_at Shape = refl
field_at Extra = refl
field_at V = refl
field_at Path = refl
field_at Size = refl
field_at Base = refl
field_at BaseEnd = refl
field_at Ranges = refl
field_at Dirty = refl
field_at Intent = refl
field_at Mtime = refl
field_at Atime = refl
field_at Spelling = refl

within : (field : Field) → place field < length fields
within Shape = omega arith
within Extra = omega arith
within V = omega arith
within Path = omega arith
within Size = omega arith
within Base = omega arith
within BaseEnd = omega arith
within Ranges = omega arith
within Dirty = omega arith
within Intent = omega arith
within Mtime = omega arith
within Atime = omega arith
within Spelling = omega arith

-- the front of a list of right fields, and the field behind that front
front_right : (text : List ℕ) (o : Option Data) (meta : Meta) (list : List Field) (i n : ℕ) → i < n → i < length list → AreRightIn text o meta (take n list) → AreRightIn text o meta (take i list) × IsRightIn text o meta (get_or list i Shape)
front_right text o meta [] i n less inside right = absurd (omega arith)
front_right text o meta (f ∷ rest) zero zero less inside right = absurd (omega arith)
front_right text o meta (f ∷ rest) zero (suc n) less inside right = (tt, right.0)
front_right text o meta (f ∷ rest) (suc i) zero less inside right = absurd (omega arith)
front_right text o meta (f ∷ rest) (suc i) (suc n) less inside right = let more = front_right text o meta rest i n (omega arith) (omega arith) right.1 in ((right.0, more.0), more.1)

none_before : (text : List ℕ) (o : Option Data) (f g : Field) → IsFirstWrongIn text o f → IsFirstWrongIn text o g → place f < place g → ⊥
none_before text o f g first later less =
    let meta = later.until.0 in
    let both = front_right text o meta fields (place f) (place g) less (within f) later.until.1 in
    first.wrong meta both.0 (subst (IsRightIn text o meta) (field_at f) both.1)

pub one_first : (text : List ℕ) (o : Option Data) (f g : Field) → IsFirstWrongIn text o f → IsFirstWrongIn text o g → f ≡ g
one_first text o f g a b =
    elim (cases_lt (place f) (place g)) [
      | inl less ↦ absurd (none_before text o f g a b less)
      | inr more ↦ elim (cases_lt (place g) (place f)) [
        | inl less ↦ absurd (none_before text o g f b a less)
        | inr same ↦ let e : place f ≡ place g = omega arith in sym (field_at f) ∙ ap (λ k. get_or fields k Shape) e ∙ field_at g
      ]
    ]

-- what a reading that failed says of the first wrong field
pub told_first : (text : List ℕ) (e : MetaError) (field : Field) → ((found : Field) → e ≡ BadMeta found → IsFirstWrongIn text (read text) found) → IsFirstWrongIn text (read text) field → (e ≡ BadMeta field) ⊎ (e ≡ NoMemory)
told_first text (BadMeta found) field bad first = inl (ap BadMeta (one_first text (read text) found field (bad found refl) first))
told_first text NoMemory field bad first = inr refl
