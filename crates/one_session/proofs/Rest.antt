-- The rows of a list's elements, from a place on.
use Rattle.std.proofs.Common.{◌≡◌, ◌∙◌, ◌<◌, ◌≤◌, ℕ, zero, suc, ◌+◌, ◌++◌, ap, sym, refl, arith, Bool, true, false, cond, List, [], ◌∷◌, get_or, length, drop, drop-cons, add-one, map, filter}
use Rattle.std.proofs.Math.ListN.{drop_of_length-le}
use Rattle.std.specs.List.{enumerate_from}

module _ {A B : Type 0} (p : ℕ × A → Bool) (f : ℕ × A → B) where
  abbrev pub rest : ℕ → List A → List B
  rest i xs = map f (filter p (enumerate_from i (drop i xs)))

  turned : (b : Bool) (y : ℕ × A) (ys : List (ℕ × A)) → p y ≡ b → map f (filter p (y ∷ ys)) ≡ cond b (f y ∷ []) [] ++ map f (filter p ys)
  turned true y ys e = ap (λ b. map f (cond b (y ∷ filter p ys) (filter p ys))) e
  turned false y ys e = ap (λ b. map f (cond b (y ∷ filter p ys) (filter p ys))) e

  pub rest_more : (xs : List A) (i : ℕ) (x : A) → i < length xs → x ≡ get_or xs i x → rest i xs ≡ cond (p (i, x)) (f (i, x) ∷ []) [] ++ rest (i + 1) xs
  rest_more xs i x lt is = ap (λ l. map f (filter p (enumerate_from i l))) at ∙ turned (p (i, x)) (i, x) (enumerate_from (i + 1) (drop (i + 1) xs)) refl where
    at : drop i xs ≡ x ∷ drop (i + 1) xs
    at = rw (add-one, drop-cons xs i x) (ap (λ y. y ∷ drop (suc i) xs) (sym is))

  pub rest_end : (xs : List A) (i : ℕ) → length xs ≤ i → rest i xs ≡ []
  rest_end xs i le = ap (λ l. map f (filter p (enumerate_from i l))) (drop_of_length-le xs le)

-- the same rows are those of what the elements are seen as
module _ {A B C : Type 0} (p : ℕ × A → Bool) (f : ℕ × A → B) (s : A → C) (p' : ℕ × C → Bool) (f' : ℕ × C → B) (so : (n : ℕ) (x : A) → p' (n, s x) ≡ p (n, x)) (row : (n : ℕ) (x : A) → f' (n, s x) ≡ f (n, x)) where
  pub rows_seen : (n : ℕ) (xs : List A) → map f (filter p (enumerate_from n xs)) ≡ map f' (filter p' (enumerate_from n (map s xs)))
  rows_seen n [] = refl
  rows_seen n (x ∷ xs) = turned p f (p (n, x)) (n, x) (enumerate_from (n + 1) xs) refl
      ∙ ap (λ l. cond (p (n, x)) (f (n, x) ∷ []) [] ++ l) (rows_seen (n + 1) xs)
      ∙ ap (λ y. cond (p (n, x)) (y ∷ []) [] ++ map f' (filter p' (enumerate_from (n + 1) (map s xs)))) (sym (row n x))
      ∙ sym (turned p' f' (p (n, x)) (n, s x) (enumerate_from (n + 1) (map s xs)) (so n x))
