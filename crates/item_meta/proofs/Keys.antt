-- The keys of an object, beside those of the map that holds it.
use Rattle.std.proofs.Common.{◌≡◌, ℕ, Bool, List, [], ◌∷◌, map, ◌||◌, String, Global, string_bytes, false, ◌&&◌, refl, sym, ap, ◌∙◌}
use Rattle.std.specs.List.{list_all, list_any}
use Rattle.std.specs.Map.{keys_of as map_keys}
use Rattle.serde_json.specs.View.{members_view}
use Rattle.serde_json.specs.declared.value.Value.{Value}
use Rattle.item_meta.specs.Object.{keys_of}

pub list_any-map : {A B : Type 0} (p : B → Bool) (f : A → B) (xs : List A) → list_any p (map f xs) ≡ list_any (λ x. p (f x)) xs
list_any-map p f [] = refl
list_any-map p f (x ∷ xs) = ap (λ b. p (f x) || b) (list_any-map p f xs)

pub keys_of-members_view : (es : List (String Global × Value)) → keys_of (members_view es) ≡ map string_bytes (map_keys es)
keys_of-members_view [] = refl
keys_of-members_view (e ∷ es) = ap (λ ks. string_bytes e.0 ∷ ks) (keys_of-members_view es)

-- a walk over the map's keys: what is left decides
pub all_left : (test : List ℕ → Bool) (es : List (String Global × Value)) (left : List (String Global)) → list_all test (map string_bytes (map_keys es)) ≡ list_all test (map string_bytes left)
    → list_all test (keys_of (members_view es)) ≡ list_all test (map string_bytes left)
all_left test es left same = ap (list_all test) (keys_of-members_view es) ∙ same

pub first_fails : (test : List ℕ → Bool) (left rest : List (String Global)) (key : String Global) (text : List ℕ) → left ≡ key ∷ rest → text ≡ string_bytes key → test text ≡ false → list_all test (map string_bytes left) ≡ false
first_fails test left rest key text first same bad = ap (λ ks. list_all test (map string_bytes ks)) first ∙ ap (λ b. b && list_all test (map string_bytes rest)) (ap test (sym same) ∙ bad)
