-- Binary searches see sorted spans.
use Rattle.std.proofs.Common.{ℕ, ◌+◌, ◌<◌, ◌≤◌, List, [], ◌∷◌, length, take, drop, get_or, subst, sym, zero, suc, arith}
use Rattle.std.specs.List.{All, AllWithin}
use Rattle.std.specs.List.Sorted.{IsNonDecreasingBy}
use Rattle.std.proofs.lemmas.List.{length-take, length-drop, get_or-take, get_or-drop}
use Rattle.byte_ranges.specs.declared.Span.{Span}
use Rattle.byte_ranges.specs.Ranges.{IsApartFrom}

-- each span starts at low or later, and isn't empty
pub each_from : (low : ℕ) (xs : List Span) (k : ℕ) (d : Span) → IsApartFrom low xs → k < length xs → (low ≤ (get_or xs k d).start) × ((get_or xs k d).start < (get_or xs k d).end)
each_from low [] k d a h = absurd (omega arith)
each_from low (x ∷ xs) zero d a h = (a.0, a.1)
each_from low (x ∷ xs) (suc k) d a h =
    let rest = each_from (x.end + 1) xs k d a.2 (omega arith) in
    (omega (arith, rest.0, a.0, a.1), rest.1)

pub ends_rise : (low : ℕ) (xs : List Span) → IsApartFrom low xs → IsNonDecreasingBy (λ s. s.end) xs
ends_rise low [] a i j d l h = absurd (omega arith)
ends_rise low (x ∷ xs) a zero zero d l h = omega arith
ends_rise low (x ∷ xs) a zero (suc j) d l h =
    let far = each_from (x.end + 1) xs j d a.2 (omega arith) in
    omega (arith, far.0, far.1)
ends_rise low (x ∷ xs) a (suc i) zero d l h = absurd (omega arith)
ends_rise low (x ∷ xs) a (suc i) (suc j) d l h = ends_rise (x.end + 1) xs a.2 i j d (omega arith) (omega arith)

pub starts_rise : (low : ℕ) (xs : List Span) → IsApartFrom low xs → IsNonDecreasingBy (λ s. s.start) xs
starts_rise low [] a i j d l h = absurd (omega arith)
starts_rise low (x ∷ xs) a zero zero d l h = omega arith
starts_rise low (x ∷ xs) a zero (suc j) d l h =
    let far = each_from (x.end + 1) xs j d a.2 (omega arith) in
    omega (arith, far.0, a.1)
starts_rise low (x ∷ xs) a (suc i) zero d l h = absurd (omega arith)
starts_rise low (x ∷ xs) a (suc i) (suc j) d l h = starts_rise (x.end + 1) xs a.2 i j d (omega arith) (omega arith)

pub all_in_front : (P : Span → Type 0) (i : ℕ) (xs : List Span) → AllWithin P xs 0 i → All P (take i xs)
all_in_front P i xs all k d h =
    let low : k < i = omega (arith, length-take i xs) in
    subst P (sym (get_or-take i xs k d low)) (all k d (omega arith) low)

pub all_in_back : (P : Span → Type 0) (i : ℕ) (xs : List Span) → AllWithin P xs i (length xs) → All P (drop i xs)
all_in_back P i xs all k d h =
    let in' : i + k < length xs = omega (arith, length-drop i xs) in
    subst P (sym (get_or-drop i xs k d)) (all (i + k) d (omega arith) in')
