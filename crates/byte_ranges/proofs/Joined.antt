-- A span put in the place of the spans that it meets.
use Rattle.std.proofs.Common.{◌≡◌, ℕ, ◌+◌, ◌-◌, ◌<◌, ◌≤◌, Bool, true, false, ◌||◌, min, max, List, [], ◌∷◌, ◌++◌, length, take, drop, get_or, zero, suc, refl, sym, ◌∙◌, ap, arith}
use Rattle.std.specs.List.{All, AllByRecursion}
use Rattle.std.proofs.lemmas.Bool.Decides.{nat_tests}
use Rattle.std.proofs.lemmas.List.{take-append-drop}
use Rattle.std.proofs.lemmas.List.Elements.{recursion_from_All}
use Rattle.byte_ranges.specs.declared.Span.{Span}
use Rattle.byte_ranges.specs.Ranges.{is_in, has, IsApartFrom, IsCanonical}
use Rattle.byte_ranges.proofs.Spans.{or_assoc, has-append, apart_left, apart_from, last_end, last_end_grows, last_end-take}

-- the tests of a union: a span m has the bytes of the middle and of s
pub union_of : (l m r s : Bool) → ((l || (m || s)) || r) ≡ ((l || (m || r)) || s)
union_of true m r s = refl
union_of false true r s = refl
union_of false false true true = refl
union_of false false true false = refl
union_of false false false true = refl
union_of false false false false = refl

pub has_put : (left mid right : List Span) (s m : Span) (p : ℕ) → is_in m p ≡ (has mid p || is_in s p) → has (left ++ m ∷ right) p ≡ (has (left ++ (mid ++ right)) p || is_in s p)
has_put left mid right s m p e =
    has-append left (m ∷ right) p ∙ ap (λ b. has left p || (b || has right p)) e
    ∙ or_assoc (has left p) (has mid p || is_in s p) (has right p)
    ∙ union_of (has left p) (has mid p) (has right p) (is_in s p)
    ∙ ap (λ b. (has left p || b) || is_in s p) (sym (has-append mid right p))
    ∙ ap (λ b. b || is_in s p) (sym (has-append left (mid ++ right) p))

-- a span x that touches or meets s, the spans after it and s: e is where they end, and the next starts at n
pub in_both : (x s : Span) (n e p : ℕ) → x.start < x.end → s.start < s.end → s.start ≤ x.end → x.start ≤ s.end → x.end < n → s.end ≤ e → x.end ≤ e → is_in (record { start = min x.start s.start; end = e }) p ≡ (is_in x p || is_in (record { start = min n s.start; end = e }) p)
in_both x s n e p h0 h1 h2 h3 h4 h5 h6 = grind (arith, nat_tests)

-- spans that all meet s, and s, are one span
pub in_merged : (x : Span) (xs : List Span) (s : Span) (low p : ℕ) → IsApartFrom low (x ∷ xs) → s.start < s.end → s.start ≤ x.end → AllByRecursion (λ y. y.start ≤ s.end) (x ∷ xs) → is_in (record { start = min x.start s.start; end = max (last_end x.end xs) s.end }) p ≡ (has (x ∷ xs) p || is_in s p)
in_merged x [] s low p a some h all = grind (arith, nat_tests)
in_merged x (y ∷ ys) s low p a some h all =
    let grows = last_end_grows y.end ys a.2.2 in
    let first : x.end < y.start = omega (arith, a.2.0) in
    let one : y.start < y.end = a.2.1 in
    in_both x s y.start (max (last_end y.end ys) s.end) p a.1 some h all.0 first (omega arith) (omega (arith, grows))
    ∙ ap (λ b. is_in x p || b) (in_merged y ys s (x.end + 1) p a.2 some (omega arith) all.1)
    ∙ or_assoc (is_in x p) (has (y ∷ ys) p) (is_in s p)

pub apart_past : (last low : ℕ) (xs : List Span) (d : Span) → last < length xs → IsApartFrom low xs → IsApartFrom ((get_or xs last d).end + 1) (drop (suc last) xs)
apart_past last low [] d h a = absurd (omega arith)
apart_past zero low (x ∷ xs) d h a = a.2
apart_past (suc last) low (x ∷ xs) d h a = apart_past last (x.end + 1) xs d (omega arith) a.2

pub starts_past : (n : ℕ) (xs : List Span) → AllByRecursion (λ x. n < x.start) xs → AllByRecursion (λ x. n + 1 ≤ x.start) xs
starts_past n [] all = tt
starts_past n (x ∷ xs) all = (omega (arith, all.0), starts_past n xs all.1)

-- the spans from the from-th to the last-th give way to m, which has their bytes and those of s
pub merged_has : (xs : List Span) (low from last : ℕ) (s d e : Span) (p : ℕ) → from ≤ last → last < length xs → IsApartFrom low xs → s.start < s.end → AllByRecursion (λ x. s.start ≤ x.end) (drop from xs) → AllByRecursion (λ x. x.start ≤ s.end) (take (suc last) xs) → has (take from xs ++ (record { start = min s.start (get_or xs from d).start; end = max s.end (get_or xs last e).end }) ∷ drop (suc last) xs) p ≡ (has xs p || is_in s p)
merged_has [] low from last s d e p l h a some back front = absurd (omega arith)
merged_has (x ∷ xs) low (suc from) zero s d e p l h a some back front = absurd (omega arith)
merged_has (x ∷ xs) low (suc from) (suc last) s d e p l h a some back front =
    ap (λ b. is_in x p || b) (merged_has xs (x.end + 1) from last s d e p (omega arith) (omega arith) a.2 some back front.1)
    ∙ or_assoc (is_in x p) (has xs p) (is_in s p)
merged_has (x ∷ xs) low zero last s d e p l h a some back front =
    let end : last_end x.end (take last xs) ≡ (get_or (x ∷ xs) last e).end = last_end-take last 0 (x ∷ xs) e h in
    let left : min s.start x.start ≡ min x.start s.start = omega arith in
    let right : max s.end (get_or (x ∷ xs) last e).end ≡ max (last_end x.end (take last xs)) s.end = omega arith in
    let cut : IsApartFrom low (x ∷ take last xs) = (a.0, a.1, apart_left (x.end + 1) (take last xs) (drop last xs) (rw take-append-drop a.2)) in
    let one = in_merged x (take last xs) s low p cut some back.0 front in
    let m : Span = record { start = min s.start x.start; end = max s.end (get_or (x ∷ xs) last e).end } in
    let same : is_in m p ≡ (has (x ∷ take last xs) p || is_in s p) = rw (left, right) one in
    has_put [] (x ∷ take last xs) (drop last xs) s m p same
    ∙ ap (λ zs. (is_in x p || has zs p) || is_in s p) (take-append-drop last xs)

pub merged_apart : (xs : List Span) (low from last : ℕ) (s d e : Span) → from ≤ last → last < length xs → IsApartFrom low xs → low ≤ s.start → s.start < s.end → AllByRecursion (λ x. x.end < s.start) (take from xs) → AllByRecursion (λ x. s.end < x.start) (drop (suc last) xs) → IsApartFrom low (take from xs ++ (record { start = min s.start (get_or xs from d).start; end = max s.end (get_or xs last e).end }) ∷ drop (suc last) xs)
merged_apart [] low from last s d e l h a first some front back = absurd (omega arith)
merged_apart (x ∷ xs) low (suc from) zero s d e l h a first some front back = absurd (omega arith)
merged_apart (x ∷ xs) low (suc from) (suc last) s d e l h a first some front back =
    (a.0, a.1, merged_apart xs (x.end + 1) from last s d e (omega arith) (omega arith) a.2 (omega (arith, front.0)) some front.1 back)
merged_apart (x ∷ xs) low zero last s d e l h a first some front back =
    (omega (arith, a.0), omega arith, apart_from ((get_or (x ∷ xs) last e).end + 1) (s.end + 1) (max s.end (get_or (x ∷ xs) last e).end + 1) (drop last xs) (apart_past last low (x ∷ xs) e h a) (starts_past s.end (drop last xs) back) (omega arith))

-- one more span in a gap
pub inserted_has : (xs : List Span) (i : ℕ) (s : Span) (p : ℕ) → has (take i xs ++ s ∷ drop i xs) p ≡ (has xs p || is_in s p)
inserted_has xs i s p =
    has_put (take i xs) [] (drop i xs) s s p refl ∙ ap (λ zs. has zs p || is_in s p) (take-append-drop i xs)

pub inserted_apart : (xs : List Span) (low i : ℕ) (s : Span) → IsApartFrom low xs → low ≤ s.start → s.start < s.end → AllByRecursion (λ x. x.end < s.start) (take i xs) → AllByRecursion (λ x. s.end < x.start) (drop i xs) → IsApartFrom low (take i xs ++ s ∷ drop i xs)
inserted_apart [] low zero s a first some front back = (first, some, tt)
inserted_apart [] low (suc i) s a first some front back = (first, some, tt)
inserted_apart (x ∷ xs) low zero s a first some front back = (first, some, (omega (arith, back.0), a.1, a.2))
inserted_apart (x ∷ xs) low (suc i) s a first some front back =
    (a.0, a.1, inserted_apart xs (x.end + 1) i s a.2 (omega (arith, front.0)) some front.1 back)

pub all_drop_more : (P : Span → Type 0) (n m : ℕ) (xs : List Span) → n ≤ m → AllByRecursion P (drop n xs) → AllByRecursion P (drop m xs)
all_drop_more P zero zero xs h all = all
all_drop_more P zero (suc m) [] h all = tt
all_drop_more P zero (suc m) (x ∷ xs) h all = all_drop_more P zero m xs (omega arith) all.1
all_drop_more P (suc n) zero xs h all = absurd (omega arith)
all_drop_more P (suc n) (suc m) [] h all = tt
all_drop_more P (suc n) (suc m) (x ∷ xs) h all = all_drop_more P n m xs (omega arith) all

-- What `insert` leaves where spans from `from` to `to` meet the new one, whose first is x and whose last is y.
pub record IsUnion (xs ys : List Span) (s : Span) : Type 0 where
  pub canonical : IsCanonical ys
  pub same : (p : ℕ) → has ys p ≡ (has xs p || is_in s p)

pub merged : (xs : List Span) (from to : ℕ) (s x y : Span) (start end : ℕ) → from < to → to ≤ length xs → IsCanonical xs → s.start < s.end → All (λ z. z.end < s.start) (take from xs) → All (λ z. s.start ≤ z.end) (drop from xs) → All (λ z. z.start ≤ s.end) (take to xs) → All (λ z. s.end < z.start) (drop to xs) → x ≡ get_or xs from x → y ≡ get_or xs (to - 1) y → start ≡ min s.start x.start → end ≡ max s.end y.end → IsUnion xs (take from xs ++ (record { start = start; end = end }) ∷ drop to xs) s
merged xs from zero s x y start end l h a some f0 b0 f1 b1 ex ey es ee = absurd (omega arith)
merged xs from (suc last) s x y start end l h a some f0 b0 f1 b1 ex ey es ee =
    let one : suc last - 1 ≡ last = omega arith in
    let e : y ≡ get_or xs last y = rw one at ey in
    let es' : start ≡ min s.start (get_or xs from x).start = rw (← ex) es in
    let ee' : end ≡ max s.end (get_or xs last y).end = rw (← e) ee in
    record {
      canonical = rw (es', ee') (merged_apart xs 0 from last s x y (omega arith) (omega arith) a (omega arith) some (recursion_from_All _ _ f0) (recursion_from_All _ _ b1));
      same = λ p. rw (es', ee') (merged_has xs 0 from last s x y p (omega arith) (omega arith) a some (recursion_from_All _ _ b0) (recursion_from_All _ _ f1));
    }

pub inserted : (xs : List Span) (from to : ℕ) (s : Span) → to ≤ from → IsCanonical xs → s.start < s.end → All (λ z. z.end < s.start) (take from xs) → All (λ z. s.end < z.start) (drop to xs) → IsUnion xs (take from xs ++ s ∷ drop from xs) s
inserted xs from to s l a some f0 b1 = record {
  canonical = inserted_apart xs 0 from s a (omega arith) some (recursion_from_All _ _ f0) (all_drop_more (λ z. s.end < z.start) to from xs l (recursion_from_All _ _ b1));
  same = λ p. inserted_has xs from s p;
}
