-- Texts that differ.
use Rattle.std.proofs.Common.{◌≡◌, ℕ, Bool, true, false, List, ◌∷◌, not, sym, ◌∙◌, ap, refl}
use Rattle.std.specs.Str.{bytes_eq}
use Rattle.std.proofs.lemmas.Slice.Eq.{bytes_eq-Decides}
use Rattle.session_script.proofs.Numbers.{not_true_and_false}
use Rattle.session_script.proofs.Counts.{heads}

pub texts_differ : (a b : List ℕ) → bytes_eq a b ≡ false → a ≡ b → ⊥
texts_differ a b h e = not_true_and_false (bytes_eq a b) ((bytes_eq-Decides a b).1 e) h

pub words_differ : (a b : List ℕ) (x y : List (List ℕ)) → bytes_eq a b ≡ false → a ∷ x ≡ b ∷ y → ⊥
words_differ a b x y h e = texts_differ a b h (heads a b x y e)

not_false : (b : Bool) → false ≡ not b → b ≡ true
not_false true h = refl
not_false false h = cc

not_true : (b : Bool) → true ≡ not b → b ≡ false
not_true true h = cc
not_true false h = refl

-- the first of these words is another
pub another_word : (words ws : List (List ℕ)) (word expected : List ℕ) → words ≡ word ∷ ws → true ≡ not (bytes_eq word expected) → (rest : List (List ℕ)) → words ≡ expected ∷ rest → ⊥
another_word words ws word expected e h rest f = words_differ word expected ws rest (not_true (bytes_eq word expected) h) (sym e ∙ f)

-- the first of these words is this one
pub this_word : (words ws : List (List ℕ)) (word expected : List ℕ) → words ≡ word ∷ ws → false ≡ not (bytes_eq word expected) → words ≡ expected ∷ ws
this_word words ws word expected e h = e ∙ ap (λ w. w ∷ ws) ((bytes_eq-Decides word expected).0 (not_false (bytes_eq word expected) h))
