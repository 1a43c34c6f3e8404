-- What is left of sorted spans when all bytes from n on are taken away.
use Rattle.std.proofs.Common.{◌≡◌, ℕ, ◌+◌, ◌-◌, ◌<◌, ◌≤◌, Bool, true, false, ◌&&◌, ◌||◌, nat_lt, min, List, [], ◌∷◌, length, take, drop, set, get_or, zero, suc, refl, sym, ◌∙◌, ap, arith, inl, inr}
use Rattle.std.specs.List.{All, AllByRecursion}
use Rattle.std.proofs.lemmas.Bool.{false≢true, or_cases, lt-ltb, le-ltb}
use Rattle.std.proofs.lemmas.Bool.Decides.{nat_tests}
use Rattle.std.proofs.lemmas.List.{get_or-take, get_or_default}
use Rattle.std.proofs.lemmas.List.Elements.{recursion_from_All}
use Rattle.byte_ranges.specs.declared.Span.{Span}
use Rattle.byte_ranges.specs.Ranges.{is_in, has, IsApartFrom, IsCanonical}
use Rattle.byte_ranges.proofs.Spans.{in_bounds}
use Rattle.byte_ranges.proofs.Removed.{or_false, and_over, and_spread}

-- none of these spans has a byte below n
pub none_below : (n p : ℕ) (xs : List Span) → AllByRecursion (λ x. n - 1 < x.start) xs → 0 < n → has xs p ≡ true → nat_lt p n ≡ false
none_below n p [] all some i = absurd (false≢true i)
none_below n p (x ∷ xs) all some i = elim (or_cases (is_in x p) (has xs p) i) [
  | inl h ↦ le-ltb p n (omega (arith, (in_bounds x p h).0, all.0))
  | inr h ↦ none_below n p xs all.1 some h
]

pub nothing_left : (b n : Bool) → (b ≡ true → n ≡ false) → (b && n) ≡ false
nothing_left true n h = h refl
nothing_left false n h = refl

-- of the last span that starts below n a part may be left
pub trimmed_has : (xs : List Span) (low last n : ℕ) (d : Span) (p : ℕ) → 0 < n → last < length xs → IsApartFrom low xs → AllByRecursion (λ x. x.start ≤ n - 1) (take (suc last) xs) → AllByRecursion (λ x. n - 1 < x.start) (drop (suc last) xs) → has (set (take (suc last) xs) last (record { start = (get_or xs last d).start; end = min (get_or xs last d).end n })) p ≡ (has xs p && nat_lt p n)
trimmed_has [] low last n d p some h a front back = absurd (omega arith)
trimmed_has (x ∷ xs) low zero n d p some h a front back =
    or_false (is_in (record { start = x.start; end = min x.end n }) p) ∙ part x n p (omega (arith, front.0))
    ∙ sym (or_false (is_in x p && nat_lt p n))
    ∙ ap (λ b. (is_in x p && nat_lt p n) || b) (sym (nothing_left (has xs p) (nat_lt p n) (none_below n p xs back some)))
    ∙ and_spread (is_in x p) (has xs p) (nat_lt p n)
  where
    part : (x : Span) (n p : ℕ) → x.start < n → is_in (record { start = x.start; end = min x.end n }) p ≡ (is_in x p && nat_lt p n)
    part x n p h = grind (arith, nat_tests)
trimmed_has (x ∷ []) low (suc last) n d p some h a front back = absurd (omega arith)
trimmed_has (x ∷ y ∷ ys) low (suc last) n d p some h a front back =
    ap (λ b. is_in x p || b) (trimmed_has (y ∷ ys) (x.end + 1) last n d p some (omega arith) a.2 front.1 back)
    ∙ and_over (is_in x p) (has (y ∷ ys) p) (nat_lt p n) (λ i. lt-ltb p n (omega (arith, (in_bounds x p i).1, front.1.0, a.2.0)))

pub trimmed_apart : (xs : List Span) (low last n : ℕ) (d : Span) → 0 < n → last < length xs → IsApartFrom low xs → AllByRecursion (λ x. x.start ≤ n - 1) (take (suc last) xs) → IsApartFrom low (set (take (suc last) xs) last (record { start = (get_or xs last d).start; end = min (get_or xs last d).end n }))
trimmed_apart [] low last n d some h a front = absurd (omega arith)
trimmed_apart (x ∷ xs) low zero n d some h a front = (a.0, omega (arith, a.1, front.0), tt)
trimmed_apart (x ∷ xs) low (suc last) n d some h a front =
    (a.0, a.1, trimmed_apart xs (x.end + 1) last n d some (omega arith) a.2 front.1)

pub record IsCut (xs ys : List Span) (n : ℕ) : Type 0 where
  pub canonical : IsCanonical ys
  pub same : (p : ℕ) → has ys p ≡ (has xs p && nat_lt p n)

pub cut_last : (xs zs : List Span) (kept m n start end : ℕ) (x y : Span) → (1 ≤ n) × (m ≡ n - 1) → 0 < kept → kept ≤ length xs → zs ≡ take kept xs → IsCanonical xs → All (λ s. s.start ≤ m) (take kept xs) → All (λ s. m < s.start) (drop kept xs) → x ≡ get_or zs (kept - 1) x → y ≡ get_or zs (kept - 1) y → start ≡ y.start → end ≡ min x.end n → IsCut xs (set zs (kept - 1) (record { start = start; end = end })) n
cut_last xs zs zero m n start end x y some more h e a front back ex ey es ee = absurd (omega arith)
cut_last xs zs (suc last) m n start end x y some more h e a front back ex ey es ee =
    let one : suc last - 1 ≡ last = omega arith in
    let at : (d : Span) → get_or zs last d ≡ get_or xs last d = λ d. ap (λ l. get_or l last d) e ∙ get_or-take (suc last) xs last d (omega arith) in
    let first : x ≡ get_or xs last x = rw one at ex ∙ at x in
    let second : y ≡ get_or xs last y = rw one at ey ∙ at y in
    let same : get_or xs last y ≡ get_or xs last x = get_or_default xs last y x (omega arith) in
    let es' : start ≡ (get_or xs last x).start = es ∙ ap (λ s. s.start) (second ∙ same) in
    let ee' : end ≡ min (get_or xs last x).end n = ee ∙ ap (λ s. min s.end n) first in
    let front' : All (λ s. s.start ≤ n - 1) (take (suc last) xs) = rw some.1 at front in
    let back' : All (λ s. n - 1 < s.start) (drop (suc last) xs) = rw some.1 at back in
    let low : 0 < n = omega (arith, some.0) in
    rw (one, e, es', ee') (record {
      canonical = trimmed_apart xs 0 last n x low (omega arith) a (recursion_from_All _ _ front');
      same = λ p. trimmed_has xs 0 last n x p low (omega arith) a (recursion_from_All _ _ front') (recursion_from_All _ _ back');
    })

pub cut_all : (xs zs : List Span) (kept m n p : ℕ) → (1 ≤ n) × (m ≡ n - 1) → kept ≤ 0 → zs ≡ take kept xs → All (λ s. m < s.start) (drop kept xs) → has zs p ≡ (has xs p && nat_lt p n)
cut_all xs zs (suc kept) m n p some k e back = absurd (omega arith)
cut_all xs zs zero m n p some k e back =
    let back' : All (λ s. n - 1 < s.start) xs = rw some.1 at back in
    rw e (sym (nothing_left (has xs p) (nat_lt p n) (none_below n p xs (recursion_from_All _ _ back') (omega (arith, some.0)))))
