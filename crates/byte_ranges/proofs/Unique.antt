-- Each set of bytes has one list of spans that are sorted, disjoint and not touching.
use Rattle.std.proofs.Common.{◌≡◌, ℕ, ◌+◌, ◌<◌, ◌≤◌, Bool, true, false, nat_lt, List, [], ◌∷◌, length, get_or, zero, suc, refl, sym, ◌∙◌, ap, arith, inl, inr}
use Rattle.std.specs.List.{All, AllAdjacentBelow, IsAllAdjacentAnswer}
use Rattle.std.proofs.lemmas.Bool.{cases_lt, ltb-true, lt-ltb, true≢false, false≢true}
use Rattle.byte_ranges.specs.declared.Span.{Span}
use Rattle.byte_ranges.specs.Ranges.{has, IsApartFrom, IsCanonical}
use Rattle.byte_ranges.proofs.Spans.{has_not_low}
use Rattle.byte_ranges.proofs.Runs.{has_first, has_later}

abbrev pub SameBytes : List Span → List Span → Type 0
SameBytes xs ys = (p : ℕ) → has xs p ≡ has ys p

-- the first span of a set doesn't start before that of a set with the same bytes
pub starts_no_less : (x y : Span) (xs ys : List Span) → IsCanonical (x ∷ xs) → IsCanonical (y ∷ ys) → SameBytes (x ∷ xs) (y ∷ ys) → y.start ≤ x.start
starts_no_less x y xs ys a b same = elim (cases_lt x.start y.start) [
  | inl h ↦
      let in' : has (x ∷ xs) x.start ≡ true = has_first x xs x.start (omega arith) (omega (arith, a.1)) in
      let out : has (y ∷ ys) x.start ≡ false = has_not_low y.start (y ∷ ys) x.start (omega arith, b.1, b.2) h in
      absurd (true≢false (sym in' ∙ same x.start ∙ out))
  | inr h ↦ h
]

-- nor does it end after it
pub ends_no_more : (x y : Span) (xs ys : List Span) → IsCanonical (x ∷ xs) → IsCanonical (y ∷ ys) → SameBytes (x ∷ xs) (y ∷ ys) → x.start ≡ y.start → x.end ≤ y.end
ends_no_more x y xs ys a b same e = elim (cases_lt y.end x.end) [
  | inl h ↦
      let in' : has (x ∷ xs) y.end ≡ true = has_first x xs y.end (omega (arith, b.1)) h in
      let out : has (y ∷ ys) y.end ≡ false = has_later y ys y.end (omega arith) ∙ has_not_low (y.end + 1) ys y.end b.2 (omega arith) in
      absurd (true≢false (sym in' ∙ same y.end ∙ out))
  | inr h ↦ h
]

pub canonical_low : (low : ℕ) (xs : List Span) → IsApartFrom low xs → IsCanonical xs
canonical_low low [] a = tt
canonical_low low (x ∷ xs) a = (omega arith, a.1, a.2)

pub same_rest : (x : Span) (xs ys : List Span) → IsCanonical (x ∷ xs) → IsCanonical (x ∷ ys) → SameBytes (x ∷ xs) (x ∷ ys) → SameBytes xs ys
same_rest x xs ys a b same p = elim (cases_lt p x.end) [
  | inl h ↦ has_not_low (x.end + 1) xs p a.2 (omega arith) ∙ sym (has_not_low (x.end + 1) ys p b.2 (omega arith))
  | inr h ↦ sym (has_later x xs p h) ∙ same p ∙ has_later x ys p h
]

pub same_span : (x y : Span) → x.start ≡ y.start → x.end ≡ y.end → x ≡ y
same_span x y e f =
    ap (λ a. record { start = a; end = x.end }) e ∙ ap (λ b. record { start = y.start; end = b }) f

pub one_list : (xs ys : List Span) → IsCanonical xs → IsCanonical ys → SameBytes xs ys → xs ≡ ys
one_list [] [] a b same = refl
one_list [] (y ∷ ys) a b same = absurd (false≢true (same y.start ∙ has_first y ys y.start (omega arith) (omega (arith, b.1))))
one_list (x ∷ xs) [] a b same = absurd (true≢false (sym (has_first x xs x.start (omega arith) (omega (arith, a.1))) ∙ same x.start))
one_list (x ∷ xs) (y ∷ ys) a b same =
    let back : SameBytes (y ∷ ys) (x ∷ xs) = λ p. sym (same p) in
    let start : x.start ≡ y.start = omega (arith, starts_no_less x y xs ys a b same, starts_no_less y x ys xs b a back) in
    let end : x.end ≡ y.end = omega (arith, ends_no_more x y xs ys a b same start, ends_no_more y x ys xs b a back (sym start)) in
    let first : y ≡ x = same_span y x (sym start) (sym end) in
    let b' : IsCanonical (x ∷ ys) = rw first at b in
    let same' : SameBytes (x ∷ xs) (x ∷ ys) = rw first at same in
    let rest : xs ≡ ys = one_list xs ys (canonical_low (x.end + 1) xs a.2) (canonical_low (x.end + 1) ys b'.2) (same_rest x xs ys a b' same') in
    cc

-- a list is canonical where each span has a byte and no neighbours touch
pub apart_by_places : (low : ℕ) (xs : List Span) → All (λ s. s.start < s.end) xs → AllAdjacentBelow (λ x y. x.end < y.start) xs (length xs) → ((d : Span) → 0 < length xs → low ≤ (get_or xs 0 d).start) → IsApartFrom low xs
apart_by_places low [] some next first = tt
apart_by_places low (x ∷ xs) some next first = (
  first x (omega arith),
  some 0 x (omega arith),
  apart_by_places (x.end + 1) xs
      (λ k d h. some (suc k) d (omega arith))
      (λ k d h. next_in x xs next k d h)
      (λ d h. second x xs next d h),
)
  where
    next_in : (x : Span) (xs : List Span) → AllAdjacentBelow (λ x y. x.end < y.start) (x ∷ xs) (length (x ∷ xs)) → (k : ℕ) (d : Span) → k + 1 < length xs → (get_or xs k d).end < (get_or xs (k + 1) d).start
    next_in x xs next k d h =
        let one : suc k + 1 ≡ suc (k + 1) = omega arith in
        rw one at (next (suc k) d (omega arith))

    second : (x : Span) (xs : List Span) → AllAdjacentBelow (λ x y. x.end < y.start) (x ∷ xs) (length (x ∷ xs)) → (d : Span) → 0 < length xs → x.end + 1 ≤ (get_or xs 0 d).start
    second x xs next d h = omega (arith, next 0 d (omega arith))

pub places_apart : (low : ℕ) (xs : List Span) → IsApartFrom low xs → All (λ s. s.start < s.end) xs × AllAdjacentBelow (λ x y. x.end < y.start) xs (length xs)
places_apart low [] a = (λ k d h. absurd (omega arith), λ k d h. absurd (omega arith))
places_apart low (x ∷ xs) a =
    let rest = places_apart (x.end + 1) xs a.2 in
    (λ k d h. some x xs a.1 rest.0 k d h, λ k d h. next x xs a.2 rest.1 k d h)
  where
    some : (x : Span) (xs : List Span) → x.start < x.end → All (λ s. s.start < s.end) xs → (k : ℕ) (d : Span) → k < length (x ∷ xs) → (get_or (x ∷ xs) k d).start < (get_or (x ∷ xs) k d).end
    some x xs h all zero d l = h
    some x xs h all (suc k) d l = all k d (omega arith)

    next : (x : Span) (xs : List Span) → IsApartFrom (x.end + 1) xs → AllAdjacentBelow (λ x y. x.end < y.start) xs (length xs) → (k : ℕ) (d : Span) → k + 1 < length (x ∷ xs) → (get_or (x ∷ xs) k d).end < (get_or (x ∷ xs) (k + 1) d).start
    next x [] a all k d l = absurd (omega arith)
    next x (y ∷ ys) a all zero d l = omega (arith, a.0)
    next x (y ∷ ys) a all (suc k) d l =
        let one : suc k + 1 ≡ suc (k + 1) = omega arith in
        rw one (all k d (omega arith))

pub canonical_when : (xs : List Span) (b : Bool) → All (λ s. s.start < s.end) xs → (b ≡ true → AllAdjacentBelow (λ x y. x.end < y.start) xs (length xs)) × (AllAdjacentBelow (λ x y. x.end < y.start) xs (length xs) → b ≡ true) → (b ≡ true → IsCanonical xs) × (IsCanonical xs → b ≡ true)
canonical_when xs b some next = (λ e. apart_by_places 0 xs some (next.0 e) (λ d h. omega arith), λ a. next.1 (places_apart 0 xs a).1)

pub canonical_unless : (xs : List Span) (b : Bool) → b ≡ false → (b ≡ true → All (λ s. s.start < s.end) xs) × (All (λ s. s.start < s.end) xs → b ≡ true) → (b ≡ true → IsCanonical xs) × (IsCanonical xs → b ≡ true)
canonical_unless xs b e some = (λ t. absurd (true≢false (sym t ∙ e)), λ a. some.1 (places_apart 0 xs a).0)

pub touching_answer : (xs : List Span) (b : Bool) → IsAllAdjacentAnswer (λ x y r. r ≡ nat_lt x.end y.start) xs b → (b ≡ true → AllAdjacentBelow (λ x y. x.end < y.start) xs (length xs)) × (AllAdjacentBelow (λ x y. x.end < y.start) xs (length xs) → b ≡ true)
touching_answer xs true h = (λ _ k d l. ltb-true _ _ (sym (h k d l)), λ _. refl)
touching_answer xs false h = (λ e. absurd (false≢true e), λ all. absurd (touches xs h all))
  where
    touches : (xs : List Span) → (k : ℕ) × (k + 1 < length xs) × ((d : Span) → false ≡ nat_lt (get_or xs k d).end (get_or xs (k + 1) d).start) → AllAdjacentBelow (λ x y. x.end < y.start) xs (length xs) → ⊥
    touches xs (k, l, h) all =
        let d : Span = record { start = 0; end = 0 } in
        false≢true (h d ∙ lt-ltb _ _ (all k d l))
