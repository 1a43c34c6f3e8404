-- The lengths of sorted spans add up to the number of their bytes.
use Rattle.std.proofs.Common.{◌≡◌, ℕ, ◌+◌, ◌-◌, ◌<◌, ◌≤◌, Bool, true, false, ◌||◌, if◌then◌else◌, min, List, [], ◌∷◌, length, take, get_or, zero, suc, refl, sym, arith, inl, inr}
use Rattle.std.proofs.lemmas.Bool.{cases_Bool}
use Rattle.std.proofs.lemmas.Bool.Decides.{nat_tests}
use Rattle.byte_ranges.specs.declared.Span.{Span}
use Rattle.byte_ranges.specs.Ranges.{is_in, has, IsApartFrom, total_length, count_below, IsBelow}
use Rattle.byte_ranges.proofs.Spans.{in_from, in_bounds, has_not_low}

-- how many of the bytes below n are x's
abbrev pub part_below : Span → ℕ → ℕ
part_below x n = min n x.end - min n x.start

pub part_step : (x : Span) (n : ℕ) → x.start < x.end → part_below x (suc n) ≡ (if is_in x n then 1 else 0) + part_below x n
part_step x n h = grind (arith, nat_tests)

-- spans that share no byte add their counts
pub count_first : (x : Span) (xs : List Span) (n : ℕ) → x.start < x.end → IsApartFrom (x.end + 1) xs → count_below (x ∷ xs) n ≡ part_below x n + count_below xs n
count_first x xs zero h a = omega arith
count_first x xs (suc n) h a =
    let rest = count_first x xs n h a in
    let step = part_step x n h in
    elim (cases_Bool (is_in x n)) [
      | inl here ↦
          let none : has xs n ≡ false = has_not_low (x.end + 1) xs n a (omega (arith, (in_bounds x n here).1)) in
          let one : part_below x (suc n) ≡ 1 + part_below x n = rw here at step in
          rw (here, none) (omega (arith, rest, one))
      | inr there ↦
          let same : part_below x (suc n) ≡ 0 + part_below x n = rw there at step in
          rw there (omega (arith, rest, same))
    ]

pub count_none : (n : ℕ) → count_below [] n ≡ 0
count_none zero = refl
count_none (suc n) = omega (arith, count_none n)

pub total_is_count : (low : ℕ) (xs : List Span) (n : ℕ) → IsApartFrom low xs → IsBelow n xs → total_length xs ≡ count_below xs n
total_is_count low [] n a b = sym (count_none n)
total_is_count low (x ∷ xs) n a b =
    let in' : is_in x (x.end - 1) ≡ true = in_from x (x.end - 1) (omega (arith, a.1)) (omega (arith, a.1)) in
    let end : x.end - 1 < n = b (x.end - 1) (rw in' refl) in
    let later : IsBelow n xs = λ p h. b p (or_right (is_in x p) (has xs p) h) in
    let rest = total_is_count (x.end + 1) xs n a.2 later in
    let first = count_first x xs n a.1 a.2 in
    omega (arith, rest, first, end, a.1)
  where
    or_right : (a b : Bool) → b ≡ true → (a || b) ≡ true
    or_right true b h = refl
    or_right false b h = h

-- the sum so far is at most the end of the last span
pub total-take : (xs : List Span) (i : ℕ) (d : Span) → i < length xs → total_length (take (i + 1) xs) ≡ total_length (take i xs) + ((get_or xs i d).end - (get_or xs i d).start)
total-take [] i d h = absurd (omega arith)
total-take (x ∷ xs) zero d h = omega arith
total-take (x ∷ xs) (suc i) d h =
    let one : suc i + 1 ≡ suc (i + 1) = omega arith in
    rw one (omega (arith, total-take xs i d (omega arith)))

pub total_front : (low : ℕ) (xs : List Span) (i : ℕ) (d : Span) → IsApartFrom low xs → i < length xs → total_length (take i xs) + low ≤ (get_or xs i d).start
total_front low [] i d a h = absurd (omega arith)
total_front low (x ∷ xs) zero d a h = omega (arith, a.0)
total_front low (x ∷ xs) (suc i) d a h = omega (arith, total_front (x.end + 1) xs i d a.2 (omega arith), a.0, a.1)
