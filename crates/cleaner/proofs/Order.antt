-- A list that is in order, and has what another one has, is that one put in order.
use Rattle.std.proofs.Common.{◌≡◌, ℕ, ◌+◌, ◌<◌, ◌≤◌, ◌||◌, ◌&&◌, Bool, true, false, List, [], ◌∷◌, length, get_or, cond, refl, ap, sym, ◌∙◌, subst, inl, inr, arith, suc}
use Rattle.std.specs.Prelude.{◌==◌, nat_lt}
use Rattle.std.specs.declared.cmp.Ordering.TheVariants.{Less, Equal, Greater}
use Rattle.std.specs.Ordering.{is_lt, nat_cmp, ordering_then}
use Rattle.std.specs.List.{sum_by}
use Rattle.std.specs.List.Sorted.{IsPermutation}
use Rattle.std.proofs.lemmas.Bool.{cases_Bool, eq-eqb, eqb-true, and_parts}
use Rattle.std.proofs.lemmas.Bool.Decides.{nat_tests}
use Rattle.std.proofs.lemmas.List.Sums.{sum_by-cons}
use Rattle.std.proofs.lemmas.List.Sorted.{sum_by-IsPermutation}
use Rattle.cleaner.specs.declared.turn.Turn.{Turn}
use Rattle.cleaner.specs.Choice.{is_before, put, in_order}

-- the two are one
abbrev pub alike : Turn → Turn → Bool
alike a b = a.atime == b.atime && (a.item.0 == b.item.0 && a.kept == b.kept)

alike_itself : (a : Turn) → alike a a ≡ true
alike_itself a = rw (eq-eqb a.atime a.atime refl, eq-eqb a.item.0 a.item.0 refl, eq-eqb a.kept a.kept refl) refl

turn_is : (a b : Turn) → a.atime ≡ b.atime → a.item.0 ≡ b.item.0 → a.kept ≡ b.kept → a ≡ b
turn_is a b p q r =
    let of_atime : ℕ → Turn = λ n. record { atime = n; item = a.item; kept = a.kept } in
    let of_item : ℕ → Turn = λ n. record { atime = b.atime; item = record { 0 = n }; kept = a.kept } in
    let of_kept : ℕ → Turn = λ n. record { atime = b.atime; item = b.item; kept = n } in
    ap of_atime p ∙ (ap of_item q ∙ ap of_kept r)

alike_is : (a b : Turn) → alike a b ≡ true → a ≡ b
alike_is a b h =
    let first = and_parts (a.atime == b.atime) (a.item.0 == b.item.0 && a.kept == b.kept) h in
    let others = and_parts (a.item.0 == b.item.0) (a.kept == b.kept) first.1 in
    turn_is a b (eqb-true _ _ first.0) (eqb-true _ _ others.0) (eqb-true _ _ others.1)

-- the same on numbers
abbrev pub lower : ℕ → ℕ → ℕ → ℕ → ℕ → ℕ → Bool
lower p q r p' q' r' = nat_lt p p' || (p == p' && (nat_lt q q' || (q == q' && nat_lt r r')))

neither : (p q r p' q' r' : ℕ) → lower p q r p' q' r' ≡ false → lower p' q' r' p q r ≡ false → (p ≡ p') × (q ≡ q') × (r ≡ r')
neither p q r p' q' r' h k = (grind (arith, nat_tests), grind (arith, nat_tests), grind (arith, nat_tests))

one_way : (p q r p' q' r' : ℕ) → lower p q r p' q' r' ≡ true → lower p' q' r' p q r ≡ false
one_way p q r p' q' r' h = grind (arith, nat_tests)

chained : (p q r p' q' r' p'' q'' r'' : ℕ) → lower p' q' r' p q r ≡ false → lower p'' q'' r'' p' q' r' ≡ false → lower p'' q'' r'' p q r ≡ false
chained p q r p' q' r' p'' q'' r'' h k = grind (arith, nat_tests)

-- neither comes first only where they are one
same_turn : (a b : Turn) → is_before a b ≡ false → is_before b a ≡ false → a ≡ b
same_turn a b h k =
    let e = neither a.atime a.item.0 a.kept b.atime b.item.0 b.kept h k in
    turn_is a b e.0 e.1 e.2

-- nothing in the list comes before a turn
abbrev pub NoneBefore : Turn → List Turn → Type 0
NoneBefore a [] = Unit {0}
NoneBefore a (x ∷ xs) = (is_before x a ≡ false) × NoneBefore a xs

abbrev pub IsInOrder : List Turn → Type 0
IsInOrder [] = Unit {0}
IsInOrder (x ∷ xs) = NoneBefore x xs × IsInOrder xs

-- how often a turn stands in a list
abbrev pub once : Turn → Turn → ℕ
once a x = cond (alike a x) 1 0

abbrev pub number : Turn → List Turn → ℕ
number a [] = 0
number a (x ∷ xs) = cond (alike a x) 1 0 + number a xs

none_before_at : (a b : Turn) (xs : List Turn) → NoneBefore a xs → 1 ≤ number b xs → is_before b a ≡ false
none_before_at a b [] none some = absurd (omega arith)
none_before_at a b (x ∷ xs) none some = elim (cases_Bool (alike b x)) [
  | inl is ↦ subst (λ (t : Turn). is_before t a ≡ false) (sym (alike_is b x is)) none.0
  | inr isnt ↦ none_before_at a b xs none.1 (let rest : 1 ≤ 0 + number b xs = rw isnt at some in omega arith)
]

number_itself : (a : Turn) (xs : List Turn) → 1 ≤ number a (a ∷ xs)
number_itself a xs = rw (alike_itself a) (omega arith)

number_tail : (a x y : Turn) (xs ys : List Turn) → x ≡ y → number a (x ∷ xs) ≡ number a (y ∷ ys) → number a xs ≡ number a ys
number_tail a x y xs ys e h =
    let first : once a x ≡ once a y = ap (once a) e in
    let all : once a x + number a xs ≡ once a y + number a ys = h in
    omega arith

-- lists in order that have the same are one
pub one_order : (xs ys : List Turn) → IsInOrder xs → IsInOrder ys → ((a : Turn) → number a xs ≡ number a ys) → xs ≡ ys
one_order [] [] up up' same = refl
one_order [] (y ∷ ys) up up' same = absurd (let n = same y in let k = number_itself y ys in omega arith)
one_order (x ∷ xs) [] up up' same = absurd (let n = same x in let k = number_itself x xs in omega arith)
one_order (x ∷ xs) (y ∷ ys) up up' same =
    let head : x ≡ y = elim (cases_Bool (alike x y)) [
      | inl is ↦ alike_is x y is
      | inr isnt ↦
          let isnt' : alike y x ≡ false = turned x y isnt in
          let n : 1 ≤ 0 + number x ys = subst (λ (b : Bool). 1 ≤ cond b 1 0 + number x ys) isnt (subst (λ (k : ℕ). 1 ≤ k) (same x) (number_itself x xs)) in
          let m : 1 ≤ 0 + number y xs = subst (λ (b : Bool). 1 ≤ cond b 1 0 + number y xs) isnt' (subst (λ (k : ℕ). 1 ≤ k) (sym (same y)) (number_itself y ys)) in
          same_turn x y (none_before_at y x ys up'.0 (omega arith)) (none_before_at x y xs up.0 (omega arith))
    ] in
    let rest : xs ≡ ys = one_order xs ys up.1 up'.1 (λ a. number_tail a x y xs ys head (same a)) in
    cc
  where
    turned : (a b : Turn) → alike a b ≡ false → alike b a ≡ false
    turned a b h = grind (arith, nat_tests)

none_before_put : (a t : Turn) (xs : List Turn) → is_before t a ≡ false → NoneBefore a xs → NoneBefore a (put t xs)
none_before_put a t [] h none = (h, tt)
none_before_put a t (x ∷ xs) h none = elim (cases_Bool (is_before x t)) [
  | inl first ↦ rw first (none.0, none_before_put a t xs h none.1)
  | inr later ↦ rw later (h, none)
]

none_before_all : (t x : Turn) (xs : List Turn) → is_before x t ≡ false → NoneBefore x xs → NoneBefore t xs
none_before_all t x [] h none = tt
none_before_all t x (y ∷ ys) h none =
    (chained t.atime t.item.0 t.kept x.atime x.item.0 x.kept y.atime y.item.0 y.kept h none.0, none_before_all t x ys h none.1)

order_put : (t : Turn) (xs : List Turn) → IsInOrder xs → IsInOrder (put t xs)
order_put t [] up = (tt, tt)
order_put t (x ∷ xs) up = elim (cases_Bool (is_before x t)) [
  | inl first ↦ rw first (none_before_put x t xs (one_way x.atime x.item.0 x.kept t.atime t.item.0 t.kept first) up.0, order_put t xs up.1)
  | inr later ↦ rw later ((later, none_before_all t x xs later up.0), up)
]

order_of : (xs : List Turn) → IsInOrder (in_order xs)
order_of [] = tt
order_of (x ∷ xs) = order_put x (in_order xs) (order_of xs)

number_put : (a t : Turn) (xs : List Turn) → number a (put t xs) ≡ cond (alike a t) 1 0 + number a xs
number_put a t [] = refl
number_put a t (x ∷ xs) = elim (cases_Bool (is_before x t)) [
  | inl first ↦ rw first (let e = number_put a t xs in omega arith)
  | inr later ↦ rw later refl
]

number_in_order : (a : Turn) (xs : List Turn) → number a (in_order xs) ≡ number a xs
number_in_order a [] = refl
number_in_order a (x ∷ xs) = number_put a x (in_order xs) ∙ ap (λ n. cond (alike a x) 1 0 + n) (number_in_order a xs)

number_is : (a : Turn) (xs : List Turn) → sum_by (λ x. cond (alike a x) 1 0) xs ≡ number a xs
number_is a [] = refl
number_is a (x ∷ xs) = sum_by-cons (λ (t : Turn). cond (alike a t) 1 0) x xs ∙ ap (λ n. cond (alike a x) 1 0 + n) (number_is a xs)

-- each is not before the one that stands before it
abbrev pub Rises : List Turn → Type 0
Rises xs = (k : ℕ) (d : Turn) → k + 1 < length xs → is_before (get_or xs (k + 1) d) (get_or xs k d) ≡ false

rises_tail : (x : Turn) (xs : List Turn) → Rises (x ∷ xs) → Rises xs
rises_tail x xs rises = λ k d h.
    let e : suc k + 1 ≡ suc (k + 1) = omega arith in
    subst (λ (i : ℕ). is_before (get_or (x ∷ xs) i d) (get_or xs k d) ≡ false) e (rises (suc k) d (omega arith))

rises_order : (xs : List Turn) → Rises xs → IsInOrder xs
rises_order [] rises = tt
rises_order (x ∷ []) rises = (tt, tt)
rises_order (x ∷ y ∷ ys) rises =
    let rest = rises_order (y ∷ ys) (rises_tail x (y ∷ ys) rises) in
    let h : is_before y x ≡ false = rises 0 x (omega arith) in
    ((h, none_before_all x y ys h rest.0), rest)

-- what a sort leaves is the list put in order
pub sorted_is : (xs ys : List Turn) → IsPermutation xs ys → Rises ys → ys ≡ in_order xs
sorted_is xs ys perm rises =
    one_order ys (in_order xs) (rises_order ys rises) (order_of xs)
    (λ a. sym (number_is a ys) ∙ (sum_by-IsPermutation (λ (x : Turn). cond (alike a x) 1 0) xs ys perm ∙ (number_is a xs ∙ sym (number_in_order a xs))))

-- the derived comparison is the order
flat : (l e l' e' l'' e'' : Bool) → is_lt (ordering_then (cond l Less (cond e Equal Greater)) (ordering_then (cond l' Less (cond e' Equal Greater)) (cond l'' Less (cond e'' Equal Greater)))) ≡ (l || (e && (l' || (e' && l''))))
flat true e l' e' l'' e'' = refl
flat false false l' e' l'' e'' = refl
flat false true true e' l'' e'' = refl
flat false true false false l'' e'' = refl
flat false true false true true e'' = refl
flat false true false true false true = refl
flat false true false true false false = refl

pub before_is : (a b : Turn) → is_lt (ordering_then (nat_cmp a.atime b.atime) (ordering_then (nat_cmp a.item.0 b.item.0) (nat_cmp a.kept b.kept))) ≡ is_before a b
before_is a b = flat (nat_lt a.atime b.atime) (a.atime == b.atime) (nat_lt a.item.0 b.item.0) (a.item.0 == b.item.0) (nat_lt a.kept b.kept) (a.kept == b.kept)
