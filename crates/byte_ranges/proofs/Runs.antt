-- The first run of a span's bytes, found at the front of the spans that end past its start.
use Rattle.std.proofs.Common.{◌≡◌, ℕ, ◌+◌, ◌<◌, ◌≤◌, Bool, true, false, not, min, max, List, [], ◌∷◌, length, take, drop, get_or, zero, suc, refl, sym, ◌∙◌, arith, Option, Some, None}
use Rattle.std.specs.Option.{is_some}
use Rattle.std.proofs.lemmas.Bool.{not-true, not-false, true≢false, false≢true}
use Rattle.std.specs.List.{All, AllByRecursion}
use Rattle.byte_ranges.specs.declared.Span.{Span}
use Rattle.byte_ranges.specs.Ranges.{is_in, has, lacks, IsApartFrom, IsCanonical, IsFirstRun, IsFirstRunIn, Covers}
use Rattle.byte_ranges.proofs.Spans.{in_from, in_bounds, out_high, has_not_low}

-- tests that agree from the span's start on have the same first run
pub run_of_same : (f g : ℕ → Bool) (span : Span) (r : Option Span) → ((p : ℕ) → span.start ≤ p → f p ≡ g p) → IsFirstRunIn f span r → IsFirstRunIn g span r
run_of_same f g span None same h = λ p i. sym (same p (in_bounds span p i).0) ∙ h p i
run_of_same f g span (Some run) same h = record {
  from = h.from;
  to = h.to;
  some = h.some;
  passes = λ p i. let low : span.start ≤ p = omega (arith, (in_bounds run p i).0, h.from) in sym (same p low) ∙ h.passes p i;
  before = λ p l b. sym (same p l) ∙ h.before p l b;
  after = λ l. let low : span.start ≤ run.end = omega (arith, h.from, h.some) in sym (same run.end low) ∙ h.after l;
}

pub lacks_true : (xs : List Span) (p : ℕ) → has xs p ≡ false → lacks xs p ≡ true
lacks_true xs p h = rw h refl

pub lacks_false : (xs : List Span) (p : ℕ) → has xs p ≡ true → lacks xs p ≡ false
lacks_false xs p h = rw h refl

pub has_first : (x : Span) (xs : List Span) (p : ℕ) → x.start ≤ p → p < x.end → has (x ∷ xs) p ≡ true
has_first x xs p l h = let here : is_in x p ≡ true = in_from x p l h in rw here refl

pub has_later : (x : Span) (xs : List Span) (p : ℕ) → x.end ≤ p → has (x ∷ xs) p ≡ has xs p
has_later x xs p h = let here : is_in x p ≡ false = out_high x p h in rw here refl

pub gap_before : (x : Span) (xs : List Span) (span : Span) → IsCanonical (x ∷ xs) → span.start < span.end → span.start < x.start → IsFirstRun (lacks (x ∷ xs)) span (record { start = span.start; end = min x.start span.end })
gap_before x xs span a some low = record {
  from = omega arith;
  to = omega arith;
  some = omega arith;
  passes = λ p i.
      let b = in_bounds (record { start = span.start; end = min x.start span.end }) p i in
      lacks_true (x ∷ xs) p (has_not_low x.start (x ∷ xs) p (omega arith, a.1, a.2) (omega (arith, b.1)));
  before = λ p l h. absurd (omega arith);
  after = λ h.
      let e : min x.start span.end ≡ x.start = omega arith in
      rw e (lacks_false (x ∷ xs) x.start (has_first x xs x.start (omega arith) (omega (arith, a.1))));
}

pub no_gap : (x : Span) (xs : List Span) (span : Span) → x.start ≤ span.start → span.end ≤ x.end → (p : ℕ) → is_in span p ≡ true → lacks (x ∷ xs) p ≡ false
no_gap x xs span l h p i =
    let b = in_bounds span p i in
    lacks_false (x ∷ xs) p (has_first x xs p (omega (arith, b.0)) (omega (arith, b.1)))

-- the run after the first span, as far as `end`
pub gap_after : (x : Span) (xs : List Span) (span : Span) (end : ℕ) → IsCanonical (x ∷ xs) → x.start ≤ span.start → span.start < x.end → x.end < end → end ≤ span.end → IsApartFrom end xs → (end < span.end → has xs end ≡ true) → IsFirstRun (lacks (x ∷ xs)) span (record { start = x.end; end = end })
gap_after x xs span end a l0 l1 l2 l3 rest more = record {
  from = omega arith;
  to = omega arith;
  some = omega arith;
  passes = λ p i.
      let b = in_bounds (record { start = x.end; end = end }) p i in
      lacks_true (x ∷ xs) p (has_later x xs p (omega (arith, b.0)) ∙ has_not_low end xs p rest (omega (arith, b.1)));
  before = λ p l h. lacks_false (x ∷ xs) p (has_first x xs p (omega arith) (omega arith));
  after = λ h. lacks_false (x ∷ xs) end (has_later x xs end (omega arith) ∙ more h);
}

pub run_first : (x : Span) (xs : List Span) (span : Span) → IsCanonical (x ∷ xs) → span.start < span.end → span.start < x.end → x.start < span.end → IsFirstRun (has (x ∷ xs)) span (record { start = max x.start span.start; end = min x.end span.end })
run_first x xs span a some l0 l1 = record {
  from = omega arith;
  to = omega arith;
  some = omega (arith, a.1);
  passes = λ p i.
      let b = in_bounds (record { start = max x.start span.start; end = min x.end span.end }) p i in
      has_first x xs p (omega (arith, b.0)) (omega (arith, b.1));
  before = λ p l h. has_not_low x.start (x ∷ xs) p (omega arith, a.1, a.2) (omega arith);
  after = λ h.
      let e : min x.end span.end ≡ x.end = omega arith in
      rw e (has_later x xs x.end (omega arith) ∙ has_not_low (x.end + 1) xs x.end a.2 (omega arith));
}

pub no_run : (x : Span) (xs : List Span) (span : Span) → IsCanonical (x ∷ xs) → span.end ≤ x.start → (p : ℕ) → is_in span p ≡ true → has (x ∷ xs) p ≡ false
no_run x xs span a h p i =
    let b = in_bounds span p i in
    has_not_low x.start (x ∷ xs) p (omega arith, a.1, a.2) (omega (arith, b.1))

-- the same, of a list that is known to have its first one or two spans
pub gap_before_front : (xs : List Span) (span d : Span) (m : ℕ) → 1 ≤ length xs → IsCanonical xs → span.start < span.end → span.start < (get_or xs 0 d).start → m ≡ min (get_or xs 0 d).start span.end → IsFirstRun (lacks xs) span (record { start = span.start; end = m })
gap_before_front [] span d m n a some low e = absurd (omega arith)
gap_before_front (x ∷ xs) span d m n a some low e = rw e (gap_before x xs span a some low)

pub gap_between : (xs : List Span) (span d : Span) (m : ℕ) → 2 ≤ length xs → IsCanonical xs → All (λ s. span.start < s.end) xs → (get_or xs 0 d).start ≤ span.start → (get_or xs 0 d).end < span.end → m ≡ min (get_or xs 1 d).start span.end → IsFirstRun (lacks xs) span (record { start = (get_or xs 0 d).end; end = m })
gap_between [] span d m n a ends low high e = absurd (omega arith)
gap_between (x ∷ []) span d m n a ends low high e = absurd (omega arith)
gap_between (x ∷ y ∷ ys) span d m n a ends low high e =
    let first : span.start < x.end = ends 0 d (omega arith) in
    let apart : x.end + 1 ≤ y.start = a.2.0 in
    let rest : IsApartFrom m (y ∷ ys) = (omega arith, a.2.1, a.2.2) in
    gap_after x (y ∷ ys) span m a low first (omega arith) (omega arith) rest
    (λ h. let here : m ≡ y.start = omega arith in rw here (has_first y ys y.start (omega arith) a.2.1))

pub run_front : (xs : List Span) (span d : Span) (m n : ℕ) → 1 ≤ length xs → IsCanonical xs → span.start < span.end → All (λ s. span.start < s.end) xs → (get_or xs 0 d).start < span.end → m ≡ max (get_or xs 0 d).start span.start → n ≡ min (get_or xs 0 d).end span.end → IsFirstRun (has xs) span (record { start = m; end = n })
run_front [] span d m n l a some ends low em en = absurd (omega arith)
run_front (x ∷ xs) span d m n l a some ends low em en = rw (em, en) (run_first x xs span a some (ends 0 d (omega arith)) low)

pub no_run_front : (xs : List Span) (span d : Span) → 1 ≤ length xs → IsCanonical xs → span.end ≤ (get_or xs 0 d).start → (p : ℕ) → is_in span p ≡ true → has xs p ≡ false
no_run_front [] span d n a h p i = absurd (omega arith)
no_run_front (x ∷ xs) span d n a h p i = no_run x xs span a h p i

-- the spans from the k-th on, where the ones before it end by n
pub has_from : (k n p : ℕ) (xs : List Span) → AllByRecursion (λ s. s.end < n + 1) (take k xs) → n ≤ p → has (drop k xs) p ≡ has xs p
has_from zero n p xs all h = refl
has_from (suc k) n p [] all h = refl
has_from (suc k) n p (x ∷ xs) all h = has_from k n p xs all.1 h ∙ sym (has_later x xs p (omega (arith, all.0)))

pub canonical_drop : (k low : ℕ) (xs : List Span) → IsApartFrom low xs → IsApartFrom 0 (drop k xs)
canonical_drop zero low [] a = tt
canonical_drop zero low (x ∷ xs) a = (omega arith, a.1, a.2)
canonical_drop (suc k) low [] a = tt
canonical_drop (suc k) low (x ∷ xs) a = canonical_drop k (x.end + 1) xs a.2

-- a span has no first gap exactly where it is covered
pub covers_when : (xs : List Span) (span : Span) (r : Option Span) (b : Bool) → IsFirstRunIn (lacks xs) span r → is_some r ≡ not b → (b ≡ true → Covers xs span) × (Covers xs span → b ≡ true)
covers_when xs span None true h e = (λ _ p i. not-false (has xs p) (h p i), λ _. refl)
covers_when xs span None false h e = absurd (false≢true e)
covers_when xs span (Some run) true h e = absurd (true≢false e)
covers_when xs span (Some run) false h e =
    let in' : is_in run run.start ≡ true = in_from run run.start (omega arith) (omega (arith, h.some)) in
    let out : has xs run.start ≡ false = not-true (has xs run.start) (h.passes run.start in') in
    let inside : is_in span run.start ≡ true = in_from span run.start (omega (arith, h.from)) (omega (arith, h.some, h.to)) in
    (λ e. absurd (false≢true e), λ all. absurd (false≢true (sym out ∙ all run.start inside)))
