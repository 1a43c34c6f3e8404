-- What is left of sorted spans when a span's bytes are taken away, and when all bytes from n on are.
use Rattle.std.proofs.Common.{◌≡◌, ℕ, ◌+◌, ◌-◌, ◌<◌, ◌≤◌, Bool, true, false, not, ◌&&◌, ◌||◌, nat_lt, List, [], ◌∷◌, ◌++◌, length, take, drop, set, get_or, zero, suc, refl, sym, ◌∙◌, ap, arith, inl, inr}
use Rattle.std.specs.List.{All, AllByRecursion}
use Rattle.std.specs.Prelude.{Result, Ok, Err, OnOk, OnErr}
use Rattle.std.proofs.lemmas.Bool.{cases_lt, lt-ltb, le-ltb, or_cases, false≢true}
use Rattle.std.proofs.lemmas.Bool.Decides.{nat_tests}
use Rattle.std.proofs.lemmas.List.{take-append-drop}
use Rattle.std.proofs.lemmas.List.Elements.{recursion_from_All}
use Rattle.byte_ranges.specs.declared.Span.{Span}
use Rattle.byte_ranges.specs.Ranges.{is_in, has, IsApartFrom, IsCanonical, kept}
use Rattle.byte_ranges.proofs.Spans.{in_bounds, out_low, out_high, or_assoc, has-append, apart_left, apart_from, last_end, last_end-take}
use Rattle.byte_ranges.proofs.Joined.{apart_past}

pub or_false : (b : Bool) → (b || false) ≡ b
or_false true = refl
or_false false = refl

pub has_kept : (s : Span) (p : ℕ) → has (kept s) p ≡ is_in s p
has_kept s p = elim (cases_lt s.start s.end) [
  | inl h ↦ let t : nat_lt s.start s.end ≡ true = lt-ltb s.start s.end h in rw t (or_false (is_in s p))
  | inr h ↦ let t : nat_lt s.start s.end ≡ false = le-ltb s.start s.end h in rw t (sym (none s p h))
]
  where
    none : (s : Span) (p : ℕ) → s.end ≤ s.start → is_in s p ≡ false
    none s p h = grind (arith, nat_tests)

-- a part that passes the test n by itself
pub and_over : (a b n : Bool) → (a ≡ true → n ≡ true) → (a || (b && n)) ≡ ((a || b) && n)
and_over true b n h = sym (h refl)
and_over false b n h = refl

pub and_spread : (x h n : Bool) → ((x && n) || (h && n)) ≡ ((x || h) && n)
and_spread true true true = refl
and_spread true true false = refl
and_spread true false true = refl
and_spread true false false = refl
and_spread false h n = refl

pub and_join : (a b x h n : Bool) → a ≡ (x && n) → b ≡ (h && n) → (a || b) ≡ ((x || h) && n)
and_join a b x h n e f = ap (λ z. z || b) e ∙ ap (λ z. (x && n) || z) f ∙ and_spread x h n

pub and_true : (a n : Bool) → (a ≡ true → n ≡ true) → a ≡ (a && n)
and_true true n h = sym (h refl)
and_true false n h = refl

-- of spans that all meet s: what stands before s and what stands after it
pub in_pieces : (x : Span) (xs : List Span) (s : Span) (low p : ℕ) → IsApartFrom low (x ∷ xs) → s.start < s.end → s.start < x.end → AllByRecursion (λ y. y.start < s.end) (x ∷ xs) → (is_in (record { start = x.start; end = s.start }) p || is_in (record { start = s.end; end = last_end x.end xs }) p) ≡ (has (x ∷ xs) p && not (is_in s p))
in_pieces x [] s low p a some h all = grind (arith, nat_tests)
in_pieces x (y ∷ ys) s low p a some h all =
    let rest = in_pieces y ys s (x.end + 1) p a.2 some (omega (arith, a.2.0, a.2.1)) all.1 in
    let first : is_in (record { start = x.start; end = s.start }) p ≡ (is_in x p && not (is_in s p)) = front x s y.start p a.1 h (omega (arith, a.2.0)) (omega (arith, all.1.0)) in
    let none : is_in (record { start = y.start; end = s.start }) p ≡ false = empty s y.start p (omega (arith, a.2.0)) in
    and_join _ _ (is_in x p) (has (y ∷ ys) p) (not (is_in s p)) first (rw none at rest)
  where
    front : (x s : Span) (n p : ℕ) → x.start < x.end → s.start < x.end → x.end < n → n < s.end → is_in (record { start = x.start; end = s.start }) p ≡ (is_in x p && not (is_in s p))
    front x s n p h0 h1 h2 h3 = grind (arith, nat_tests)

    empty : (s : Span) (n p : ℕ) → s.start < n → is_in (record { start = n; end = s.start }) p ≡ false
    empty s n p h = grind (arith, nat_tests)

-- bytes of spans that end by s's start aren't in s, nor bytes of spans that start from its end on
pub out_left : (x s : Span) (p : ℕ) → x.end < s.start + 1 → is_in x p ≡ true → not (is_in s p) ≡ true
out_left x s p h i = let b = in_bounds x p i in let out : is_in s p ≡ false = out_low s p (omega (arith, b.1)) in rw out refl

pub out_right : (xs : List Span) (low : ℕ) (s : Span) (p : ℕ) → IsApartFrom low xs → AllByRecursion (λ x. s.end - 1 < x.start) xs → has xs p ≡ true → not (is_in s p) ≡ true
out_right [] low s p a all i = absurd (false≢true i)
out_right (x ∷ xs) low s p a all i = elim (or_cases (is_in x p) (has xs p) i) [
  | inl h ↦ let b = in_bounds x p h in let out : is_in s p ≡ false = out_high s p (omega (arith, all.0, b.0)) in rw out refl
  | inr h ↦ out_right xs (x.end + 1) s p a.2 all.1 h
]

-- where no span meets s, nothing changes
pub untouched : (xs : List Span) (low from : ℕ) (s : Span) (p : ℕ) → IsApartFrom low xs → AllByRecursion (λ x. x.end < s.start + 1) (take from xs) → AllByRecursion (λ x. s.end - 1 < x.start) (drop from xs) → has xs p ≡ (has xs p && not (is_in s p))
untouched [] low from s p a front back = refl
untouched (x ∷ xs) low zero s p a front back = and_true (has (x ∷ xs) p) (not (is_in s p)) (out_right (x ∷ xs) low s p a back)
untouched (x ∷ xs) low (suc from) s p a front back =
    ap (λ b. is_in x p || b) (untouched xs (x.end + 1) from s p a.2 front.1 back)
    ∙ and_over (is_in x p) (has xs p) (not (is_in s p)) (out_left x s p front.0)

-- the parts that are left of the spans from the from-th to the last-th
pub removed_has : (xs : List Span) (low from last : ℕ) (s d e : Span) (p : ℕ) → from ≤ last → last < length xs → IsApartFrom low xs → s.start < s.end → AllByRecursion (λ x. x.end < s.start + 1) (take from xs) → AllByRecursion (λ x. s.start + 1 ≤ x.end) (drop from xs) → AllByRecursion (λ x. x.start ≤ s.end - 1) (take (suc last) xs) → AllByRecursion (λ x. s.end - 1 < x.start) (drop (suc last) xs) → has (take from xs ++ (kept (record { start = (get_or xs from d).start; end = s.start }) ++ (kept (record { start = s.end; end = (get_or xs last e).end }) ++ drop (suc last) xs))) p ≡ (has xs p && not (is_in s p))
removed_has [] low from last s d e p l h a some f0 b0 f1 b1 = absurd (omega arith)
removed_has (x ∷ xs) low (suc from) zero s d e p l h a some f0 b0 f1 b1 = absurd (omega arith)
removed_has (x ∷ xs) low (suc from) (suc last) s d e p l h a some f0 b0 f1 b1 =
    ap (λ b. is_in x p || b) (removed_has xs (x.end + 1) from last s d e p (omega arith) (omega arith) a.2 some f0.1 b0 f1.1 b1)
    ∙ and_over (is_in x p) (has xs p) (not (is_in s p)) (out_left x s p f0.0)
removed_has (x ∷ xs) low zero last s d e p l h a some f0 b0 f1 b1 =
    let end : last_end x.end (take last xs) ≡ (get_or (x ∷ xs) last e).end = last_end-take last 0 (x ∷ xs) e h in
    let left : Span = record { start = x.start; end = s.start } in
    let right : Span = record { start = s.end; end = (get_or (x ∷ xs) last e).end } in
    let both : IsApartFrom (x.end + 1) (take last xs ++ drop last xs) = rw take-append-drop a.2 in
    let cut : IsApartFrom low (x ∷ take last xs) = (a.0, a.1, apart_left (x.end + 1) (take last xs) (drop last xs) both) in
    let pieces : (is_in left p || is_in right p) ≡ (has (x ∷ take last xs) p && not (is_in s p)) = rw (← end) (in_pieces x (take last xs) s low p cut some (omega (arith, b0.0)) (starts_before s.end (x ∷ take last xs) some f1)) in
    let far = apart_past last low (x ∷ xs) e h a in
    let rest : has (drop last xs) p ≡ (has (drop last xs) p && not (is_in s p)) = and_true (has (drop last xs) p) (not (is_in s p)) (out_right (drop last xs) ((get_or (x ∷ xs) last e).end + 1) s p far b1) in
    has-append (kept left) (kept right ++ drop last xs) p
    ∙ ap (λ b. b || has (kept right ++ drop last xs) p) (has_kept left p)
    ∙ ap (λ b. is_in left p || b) (has-append (kept right) (drop last xs) p ∙ ap (λ b. b || has (drop last xs) p) (has_kept right p))
    ∙ or_assoc (is_in left p) (is_in right p) (has (drop last xs) p)
    ∙ and_join _ _ (has (x ∷ take last xs) p) (has (drop last xs) p) (not (is_in s p)) pieces rest
    ∙ ap (λ b. b && not (is_in s p)) (sym (or_assoc (is_in x p) (has (take last xs) p) (has (drop last xs) p)))
    ∙ ap (λ b. (is_in x p || b) && not (is_in s p)) (sym (has-append (take last xs) (drop last xs) p))
    ∙ ap (λ zs. (is_in x p || has zs p) && not (is_in s p)) (take-append-drop last xs)
  where
    starts_before : {m : ℕ} (n : ℕ) (xs : List Span) → m < n → AllByRecursion (λ x. x.start ≤ n - 1) xs → AllByRecursion (λ x. x.start < n) xs
    starts_before n [] some all = tt
    starts_before n (x ∷ xs) some all = (omega (arith, all.0), starts_before n xs some all.1)

pub kept_apart : (low : ℕ) (t : Span) (ys : List Span) → (t.start < t.end → (low ≤ t.start) × IsApartFrom (t.end + 1) ys) → (t.end ≤ t.start → IsApartFrom low ys) → IsApartFrom low (kept t ++ ys)
kept_apart low t ys some none = elim (cases_lt t.start t.end) [
  | inl h ↦ let c : nat_lt t.start t.end ≡ true = lt-ltb t.start t.end h in rw c ((some h).0, h, (some h).1)
  | inr h ↦ let c : nat_lt t.start t.end ≡ false = le-ltb t.start t.end h in rw c (none h)
]

pub ends_past : (n : ℕ) (xs : List Span) → AllByRecursion (λ x. n - 1 < x.start) xs → AllByRecursion (λ x. n ≤ x.start) xs
ends_past n [] all = tt
ends_past n (x ∷ xs) all = (omega (arith, all.0), ends_past n xs all.1)

pub removed_apart : (xs : List Span) (low from last : ℕ) (s d e : Span) → from ≤ last → last < length xs → IsApartFrom low xs → s.start < s.end → AllByRecursion (λ x. x.start ≤ s.end - 1) (take (suc last) xs) → AllByRecursion (λ x. s.end - 1 < x.start) (drop (suc last) xs) → IsApartFrom low (take from xs ++ (kept (record { start = (get_or xs from d).start; end = s.start }) ++ (kept (record { start = s.end; end = (get_or xs last e).end }) ++ drop (suc last) xs)))
removed_apart [] low from last s d e l h a some f1 b1 = absurd (omega arith)
removed_apart (x ∷ xs) low (suc from) zero s d e l h a some f1 b1 = absurd (omega arith)
removed_apart (x ∷ xs) low (suc from) (suc last) s d e l h a some f1 b1 =
    (a.0, a.1, removed_apart xs (x.end + 1) from last s d e (omega arith) (omega arith) a.2 some f1.1 b1)
removed_apart (x ∷ xs) low zero last s d e l h a some f1 b1 =
    let right : Span = record { start = s.end; end = (get_or (x ∷ xs) last e).end } in
    let far = apart_past last low (x ∷ xs) e h a in
    let late = ends_past s.end (drop last xs) b1 in
    let rest : (n : ℕ) → n ≤ s.end → IsApartFrom n (kept right ++ drop last xs) = λ n k.
    kept_apart n right (drop last xs) (λ _. (k, far)) (λ _. apart_from ((get_or (x ∷ xs) last e).end + 1) s.end n (drop last xs) far late (omega arith)) in
    kept_apart low (record { start = x.start; end = s.start }) (kept right ++ drop last xs)
    (λ _. (a.0, rest (s.start + 1) (omega arith))) (λ _. rest low (omega (arith, a.0, f1.0)))

pub record IsDifference (xs ys : List Span) (s : Span) : Type 0 where
  pub canonical : IsCanonical ys
  pub same : (p : ℕ) → has ys p ≡ (has xs p && not (is_in s p))

pub removed : (xs : List Span) (from to : ℕ) (s x y : Span) → from < to → to ≤ length xs → IsCanonical xs → s.start < s.end → All (λ z. z.end < s.start + 1) (take from xs) → All (λ z. s.start + 1 ≤ z.end) (drop from xs) → All (λ z. z.start ≤ s.end - 1) (take to xs) → All (λ z. s.end - 1 < z.start) (drop to xs) → x ≡ get_or xs from x → y ≡ get_or xs (to - 1) y → IsDifference xs (take from xs ++ (kept (record { start = x.start; end = s.start }) ++ (kept (record { start = s.end; end = y.end }) ++ drop to xs))) s
removed xs from zero s x y l h a some f0 b0 f1 b1 ex ey = absurd (omega arith)
removed xs from (suc last) s x y l h a some f0 b0 f1 b1 ex ey =
    let one : suc last - 1 ≡ last = omega arith in
    let e : y ≡ get_or xs last y = rw one at ey in
    let start : x.start ≡ (get_or xs from x).start = ap (λ z. z.start) ex in
    let end : y.end ≡ (get_or xs last y).end = ap (λ z. z.end) e in
    record {
      canonical = rw (start, end) (removed_apart xs 0 from last s x y (omega arith) (omega arith) a some (recursion_from_All _ _ f1) (recursion_from_All _ _ b1));
      same = λ p. rw (start, end) (removed_has xs 0 from last s x y p (omega arith) (omega arith) a some (recursion_from_All _ _ f0) (recursion_from_All _ _ b0) (recursion_from_All _ _ f1) (recursion_from_All _ _ b1));
    }

-- a write at the last of the spans in front
pub set_last_front : (xs : List Span) (from : ℕ) (b : Span) (ys : List Span) → from < length xs → set (take (suc from) xs ++ ys) from b ≡ take from xs ++ b ∷ ys
set_last_front [] from b ys h = absurd (omega arith)
set_last_front (x ∷ xs) zero b ys h = refl
set_last_front (x ∷ xs) (suc from) b ys h = ap (λ zs. x ∷ zs) (set_last_front xs from b ys (omega arith))

-- what the change leaves, and what a refusal leaves
pub removal : {T E : Type 0} (r : Result T E) (xs ys zs : List Span) (s : Span) → IsCanonical xs → OnOk r (ys ≡ zs) → OnErr r (ys ≡ xs) → IsDifference xs zs s → IsCanonical ys × OnOk r ((p : ℕ) → has ys p ≡ (has xs p && not (is_in s p)))
removal (Ok x) xs ys zs s a ok err d = (rw ok d.canonical, λ p. rw ok (d.same p))
removal (Err e) xs ys zs s a ok err d = (rw err a, tt)

pub kept_some : (s : Span) → s.start < s.end → kept s ≡ s ∷ []
kept_some s h = let t : nat_lt s.start s.end ≡ true = lt-ltb s.start s.end h in rw t refl
