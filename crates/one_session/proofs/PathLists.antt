-- Texts in a set are found by their bytes.
use Rattle.std.proofs.Common.{◌≡◌, ◌∙◌, ap, refl, sym, arith, ℕ, suc, ◌+◌, ◌++◌, ◌<◌, ◌||◌, Bool, true, false, not, Option, None, Some, List, [], ◌∷◌, length, map, cond, nat_lt}
use Rattle.std.specs.List.{position, list_any, prefix_len, position_or_len}
use Rattle.std.proofs.lemmas.Grind.{common_steps}
use Rattle.std.proofs.lemmas.Option.{none-some}

length_map : {X Y : Type 0} (f : X → Y) (xs : List X) → length (map f xs) ≡ length xs
length_map f [] = refl
length_map f (x ∷ xs) = ap suc (length_map f xs)

prefix_map : {X Y : Type 0} (f : X → Y) (test : Y → Bool) (xs : List X) → prefix_len test (map f xs) ≡ prefix_len (λ x. test (f x)) xs
prefix_map f test [] = refl
prefix_map f test (x ∷ xs) = ap (λ n. cond (test (f x)) (1 + n) 0) (prefix_map f test xs)

-- the first text that passes, among texts and among what they are seen as
pub position-map : {X Y : Type 0} (f : X → Y) (test : Y → Bool) (xs : List X) → position test (map f xs) ≡ position (λ x. test (f x)) xs
position-map f test xs = ap (λ n. cond (nat_lt n (length (map f xs))) (Some n) None) (prefix_map f (λ y. not (test y)) xs)
    ∙ ap (λ n. cond (nat_lt (position_or_len (λ x. test (f x)) xs) n) (Some (position_or_len (λ x. test (f x)) xs)) None) (length_map f xs)

any_by : (b any : Bool) (n len : ℕ) → any ≡ nat_lt n len → (b || any) ≡ nat_lt (cond (not b) (1 + n) 0) (suc len)
any_by true any n len h = grind (arith, common_steps)
any_by false any n len h = grind (arith, common_steps, h)

-- an element passes where the first that does is inside
any_is : {X : Type 0} (test : X → Bool) (xs : List X) → list_any test xs ≡ nat_lt (position_or_len test xs) (length xs)
any_is test [] = refl
any_is test (x ∷ xs) = any_by (test x) (list_any test xs) (position_or_len test xs) (length xs) (any_is test xs)

none_by : (b : Bool) (n : ℕ) → cond b (Some n) None ≡ None → b ≡ false
none_by true n h = absurd (none-some n (sym h))
none_by false n h = refl

-- where no text passes, none is there
pub absent_any : {X Y : Type 0} (f : X → Y) (test : Y → Bool) (xs : List X) → position test (map f xs) ≡ None → list_any (λ x. test (f x)) xs ≡ false
absent_any f test xs h = any_is (λ x. test (f x)) xs ∙ none_by _ _ (sym (position-map f test xs) ∙ h)

-- the next place
abbrev up : Option ℕ → Option ℕ
up None = None
up (Some i) = Some (suc i)

first_is : (n : ℕ) → cond {A = Option ℕ} (nat_lt 0 (suc n)) (Some 0) None ≡ Some 0
first_is n = ap (λ b. cond {A = Option ℕ} b (Some 0) None) (yes n) where
  yes : (n : ℕ) → nat_lt 0 (suc n) ≡ true
  yes n = grind arith

cons_by : (b : Bool) (m n : ℕ) → cond {A = Option ℕ} (nat_lt (cond (not b) (1 + m) 0) (suc n)) (Some (cond (not b) (1 + m) 0)) None ≡ cond b (Some 0) (up (cond (nat_lt m n) (Some m) None))
cons_by true m n = first_is n
cons_by false m n = ap (λ k. cond (nat_lt k (suc n)) (Some k) None) one ∙ ap (λ b. cond b (Some (suc m)) None) below ∙ next (nat_lt m n) where
  one : 1 + m ≡ suc m
  one = omega arith

  below : nat_lt (suc m) (suc n) ≡ nat_lt m n
  below = grind arith

  next : (b : Bool) → cond b (Some (suc m)) None ≡ up (cond b (Some m) None)
  next true = refl
  next false = refl

position-cons : {X : Type 0} (test : X → Bool) (x : X) (xs : List X) → position test (x ∷ xs) ≡ cond (test x) (Some 0) (up (position test xs))
position-cons test x xs = cons_by (test x) (position_or_len test xs) (length xs)

-- the first that passes, where one more stands at the end that doesn't pass
pub end_no : {X : Type 0} (test : X → Bool) (xs : List X) (y : X) → test y ≡ false → position test (xs ++ y ∷ []) ≡ position test xs
end_no test [] y h = position-cons test y [] ∙ ap (λ b. cond b (Some 0) None) h
end_no test (x ∷ xs) y h = position-cons test x (xs ++ y ∷ []) ∙ ap (λ o. cond (test x) (Some 0) (up o)) (end_no test xs y h) ∙ sym (position-cons test x xs)

end_by : (b : Bool) (o o' : Option ℕ) (n : ℕ) → cond b (Some 0) (up o) ≡ None → (o ≡ None → o' ≡ Some n) → cond b (Some 0) (up o') ≡ Some (suc n)
end_by true o o' n h f = absurd (none-some 0 (sym h))
end_by false None o' n h f = ap up (f refl)
end_by false (Some i) o' n h f = absurd (none-some (suc i) (sym h))

-- and where it does
pub end_yes : {X : Type 0} (test : X → Bool) (xs : List X) (y : X) → position test xs ≡ None → test y ≡ true → position test (xs ++ y ∷ []) ≡ Some (length xs)
end_yes test [] y none h = position-cons test y [] ∙ ap (λ b. cond b (Some 0) None) h
end_yes test (x ∷ xs) y none h = position-cons test x (xs ++ y ∷ []) ∙ end_by (test x) (position test xs) (position test (xs ++ y ∷ [])) (length xs) (sym (position-cons test x xs) ∙ none) (λ e. end_yes test xs y e h)

-- a place among them is inside
inside_by : (b : Bool) (m n i : ℕ) → nat_lt m n ≡ b → cond b (Some m) None ≡ Some i → i < n
inside_by true m n i lt e = let same : m ≡ i = cc in grind (arith, lt, same)
inside_by false m n i lt e = absurd (none-some i e)

pub position_inside : {X : Type 0} (test : X → Bool) (xs : List X) (i : ℕ) → position test xs ≡ Some i → i < length xs
position_inside test xs i e = inside_by (nat_lt (position_or_len test xs) (length xs)) (position_or_len test xs) (length xs) i refl e
