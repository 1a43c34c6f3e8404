-- Membership and order in lists of spans, joined and cut.
use Rattle.std.proofs.Common.{◌≡◌, ℕ, ◌+◌, ◌<◌, ◌≤◌, Bool, true, false, ◌||◌, max, List, [], ◌∷◌, ◌++◌, length, take, get_or, zero, suc, refl, sym, ◌∙◌, ap, arith}
use Rattle.std.specs.List.{AllByRecursion}
use Rattle.std.proofs.lemmas.Bool.Decides.{nat_tests}
use Rattle.byte_ranges.specs.declared.Span.{Span}
use Rattle.byte_ranges.specs.Ranges.{is_in, has, IsApartFrom}

-- one test is true exactly where the other is
pub same_tests : (a b : Bool) → (a ≡ true → b ≡ true) → (b ≡ true → a ≡ true) → a ≡ b
same_tests true true f g = refl
same_tests true false f g = sym (f refl)
same_tests false true f g = g refl
same_tests false false f g = refl

pub in_from : (s : Span) (p : ℕ) → s.start ≤ p → p < s.end → is_in s p ≡ true
in_from s p l h = grind (arith, nat_tests)

pub in_bounds : (s : Span) (p : ℕ) → is_in s p ≡ true → (s.start ≤ p) × (p < s.end)
in_bounds s p h = grind (arith, nat_tests)

pub out_low : (s : Span) (p : ℕ) → p < s.start → is_in s p ≡ false
out_low s p h = grind (arith, nat_tests)

pub out_high : (s : Span) (p : ℕ) → s.end ≤ p → is_in s p ≡ false
out_high s p h = grind (arith, nat_tests)

pub or_assoc : (a b c : Bool) → (a || (b || c)) ≡ ((a || b) || c)
or_assoc true b c = refl
or_assoc false b c = refl

pub has-append : (xs ys : List Span) (p : ℕ) → has (xs ++ ys) p ≡ (has xs p || has ys p)
has-append [] ys p = refl
has-append (x ∷ xs) ys p = ap (λ b. is_in x p || b) (has-append xs ys p) ∙ or_assoc (is_in x p) (has xs p) (has ys p)

-- no byte stands below the first span
pub has_not_low : (low : ℕ) (xs : List Span) (p : ℕ) → IsApartFrom low xs → p < low → has xs p ≡ false
has_not_low low [] p a h = refl
has_not_low low (x ∷ xs) p a h =
    let here : is_in x p ≡ false = out_low x p (omega arith) in
    let rest : has xs p ≡ false = has_not_low (x.end + 1) xs p a.2 (omega arith) in
    cc

-- where the spans after these may start
abbrev pub after : ℕ → List Span → ℕ
after low [] = low
after low (x ∷ xs) = after (x.end + 1) xs

pub apart_append : (low : ℕ) (xs ys : List Span) → IsApartFrom low xs → IsApartFrom (after low xs) ys → IsApartFrom low (xs ++ ys)
apart_append low [] ys a b = b
apart_append low (x ∷ xs) ys a b = (a.0, a.1, apart_append (x.end + 1) xs ys a.2 b)

pub apart_left : (low : ℕ) (xs ys : List Span) → IsApartFrom low (xs ++ ys) → IsApartFrom low xs
apart_left low [] ys a = tt
apart_left low (x ∷ xs) ys a = (a.0, a.1, apart_left (x.end + 1) xs ys a.2)

pub apart_right : (low : ℕ) (xs ys : List Span) → IsApartFrom low (xs ++ ys) → IsApartFrom (after low xs) ys
apart_right low [] ys a = a
apart_right low (x ∷ xs) ys a = apart_right (x.end + 1) xs ys a.2

pub after_grows : (low : ℕ) (xs : List Span) → IsApartFrom low xs → low ≤ after low xs
after_grows low [] a = omega arith
after_grows low (x ∷ xs) a = omega (arith, after_grows (x.end + 1) xs a.2)

-- spans that end below n leave n free
pub after_below : (low n : ℕ) (xs : List Span) → AllByRecursion (λ s. s.end < n) xs → low ≤ n → after low xs ≤ n
after_below low n [] all h = h
after_below low n (x ∷ xs) all h = after_below (x.end + 1) n xs all.1 (omega (arith, all.0))

-- a list may start from another place, by where its spans start
pub apart_from : (low n m : ℕ) (xs : List Span) → IsApartFrom low xs → AllByRecursion (λ s. n ≤ s.start) xs → m ≤ max low n → IsApartFrom m xs
apart_from low n m [] a all h = tt
apart_from low n m (x ∷ xs) a all h = (omega (arith, all.0), a.1, a.2)

-- the end of the last of these spans
abbrev pub last_end : ℕ → List Span → ℕ
last_end e [] = e
last_end e (x ∷ xs) = last_end x.end xs

pub after_last : (e : ℕ) (xs : List Span) → after (e + 1) xs ≡ last_end e xs + 1
after_last e [] = refl
after_last e (x ∷ xs) = after_last x.end xs

pub last_end_grows : (e : ℕ) (xs : List Span) → IsApartFrom (e + 1) xs → e ≤ last_end e xs
last_end_grows e [] a = omega arith
last_end_grows e (x ∷ xs) a = omega (arith, last_end_grows x.end xs a.2)

pub last_end-take : (k e : ℕ) (xs : List Span) (d : Span) → k < length xs → last_end e (take (suc k) xs) ≡ (get_or xs k d).end
last_end-take k e [] d h = absurd (omega arith)
last_end-take zero e (x ∷ xs) d h = refl
last_end-take (suc k) e (x ∷ xs) d h = last_end-take k x.end xs d (omega arith)
