-- What stands at the keys of an object that was read, and of what kind it is. There may be no value.
use Rattle.std.specs.Prelude.{◌≡◌, ℕ, Bool, true, List, [], ◌∷◌, Option, Some, None, option_map, option_and_then, unwrap_or, is_some, if◌then◌else◌, codes}
use Rattle.std.specs.List.{list_all, list_any}
use Rattle.byte_ranges.specs.declared.Span.{Span}
use Rattle.hex.specs.Hex.{encode_lower, IsBytes}
use Rattle.serde_json.specs.Data.{Data, Items, no_items, item, Members, no_members, member}
use Rattle.serde_json.specs.Find.{get, at, as_null, as_number, as_u64, as_str, as_bool, as_array, as_object}
use Rattle.vfs_names.specs.Path.{same_text}
use Rattle.vfs_names.specs.declared.fingerprint.Fingerprint.{Fingerprint}
use Rattle.item_meta.specs.declared.meta.Intent.{Intent}

-- the value at the key
abbrev pub value_at : List ℕ → Option Data → Option Data
value_at key o = option_and_then (get key) o

-- the unsigned whole number, below 2^64
abbrev pub number_in : Option Data → Option ℕ
number_in o = option_and_then as_u64 (option_and_then as_number o)

abbrev pub text_in : Option Data → Option (List ℕ)
text_in o = option_and_then as_str o

abbrev pub truth_in : Option Data → Option Bool
truth_in o = option_and_then as_bool o

abbrev pub keys_of : Members → List (List ℕ)
keys_of no_members = []
keys_of (member key d rest) = key ∷ keys_of rest

abbrev pub keys_in : Option Data → List (List ℕ)
keys_in o = keys_of (unwrap_or (option_and_then as_object o) no_members)

-- the object has no other keys than these
abbrev pub has_only : List (List ℕ) → Option Data → Bool
has_only names o = list_all (λ key. list_any (same_text key) names) (keys_in o)

-- the span that a list of just two numbers is
abbrev pub span_in : Data → Option Span
span_in d = if is_some (at 2 d) then None else
    option_and_then (λ start. option_map (λ end. record { start = start; end = end })
    (number_in (at 1 d))) (number_in (at 0 d))

abbrev pub all_spans : Items → Option (List Span)
all_spans no_items = Some []
all_spans (item d rest) =
    option_and_then (λ span. option_map (λ spans. span ∷ spans) (all_spans rest)) (span_in d)

abbrev pub spans_in : Option Data → Option (List Span)
spans_in o = option_and_then all_spans (option_and_then as_array o)

abbrev pub is_null : Option Data → Bool
is_null o = is_some (option_and_then as_null o)

-- an object with just these three numbers
pub record IsPrintIn (o : Option Data) (print : Fingerprint) : Type 0 where
  pub only : has_only (codes "mtime" ∷ codes "rev" ∷ codes "size" ∷ []) o ≡ true
  pub mtime : number_in (value_at (codes "mtime") o) ≡ Some print.mtime
  pub rev : number_in (value_at (codes "rev") o) ≡ Some print.rev
  pub size : number_in (value_at (codes "size") o) ≡ Some print.size

-- such an object, or null where there is no base
abbrev pub IsBaseIn : Option Data → Option Fingerprint → Type 0
IsBaseIn o None = is_null o ≡ true
IsBaseIn o (Some print) = IsPrintIn o print

-- an object with just a position and bytes in small hexadecimal digits
pub record IsWriteIn (o : Option Data) (intent : Intent) : Type 0 where
  pub only : has_only (codes "bytes" ∷ codes "pos" ∷ []) o ≡ true
  pub bytes : text_in (value_at (codes "bytes") o) ≡ Some (encode_lower intent.bytes)
  pub are_bytes : IsBytes intent.bytes
  pub pos : number_in (value_at (codes "pos") o) ≡ Some intent.pos

-- such an object, or null where there is no intent
abbrev pub IsIntentIn : Option Data → Option Intent → Type 0
IsIntentIn o None = is_null o ≡ true
IsIntentIn o (Some intent) = IsWriteIn o intent
