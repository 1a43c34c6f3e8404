-- A size is spelled by one number and one unit.
use Rattle.std.proofs.Common.{◌≡◌, ℕ, ◌+◌, ◌*◌, ◌^◌, ◌<◌, ◌≤◌, ◌==◌, nat_le, nat_lt, Bool, Option, Some, None, true, false, not, List, [], ◌∷◌, ◌++◌, codes, decimal, cond, take, length, ◌⊎◌, inl, inr, refl, sym, ap, ap₂, subst, ◌∙◌, arith}
use Rattle.std.specs.Char.{is_ascii_digit}
use Rattle.std.specs.List.{before_first, position, position_or_len}
use Rattle.std.specs.Int.{IsInRange}
use Rattle.std.specs.Option.{SomeIff, IfNone}
use Rattle.std.specs.Str.{bytes_eq}
use Rattle.std.proofs.lemmas.Slice.Eq.{bytes_eq-Decides}
use Rattle.std.proofs.lemmas.Bool.{cond-true, cond-false, and_from, le-leb, ltb-false, false≢true}
use Rattle.std.proofs.lemmas.Str.Parse.{digit_from_value}
use Rattle.std.specs.Str.Parse.{AllDigits}
use Rattle.std.proofs.Math.Nat.{mul-le-mul_left}
use Rattle.std.proofs.lemmas.Fmt.{decimal_is_IsNumeral, decimal_injective, decimal_nonempty}
use Rattle.std.proofs.lemmas.List.{append_cancel_left, take_all}
use Rattle.std.proofs.Math.Seq.{take-append_seam}
use Rattle.run_words.specs.declared.size.Amount.{Amount}
use Rattle.run_words.specs.declared.size.Amount.TheVariants.{Off, Size}
use Rattle.run_words.specs.Sizes.{IsUnit, IsCounted, IsSize, IsAmount}
use Rattle.run_words.specs.Sizes.IsUnit.{b, k, ki, m, mi, g, gi, t, ti}

abbrev pub is_other : ℕ → Bool
is_other byte = not (is_ascii_digit byte)

-- letters of a unit begin so
abbrev pub BeginsOther : List ℕ → Type 0
BeginsOther [] = ⊥
BeginsOther (byte ∷ bytes) = is_other byte ≡ true

pub unit_begins : (letters : List ℕ) (unit : ℕ) → IsUnit letters unit → BeginsOther letters
unit_begins _ _ b = refl
unit_begins _ _ k = refl
unit_begins _ _ ki = refl
unit_begins _ _ m = refl
unit_begins _ _ mi = refl
unit_begins _ _ g = refl
unit_begins _ _ gi = refl
unit_begins _ _ t = refl
unit_begins _ _ ti = refl

pub unit_least : (letters : List ℕ) (unit : ℕ) → IsUnit letters unit → 1 ≤ unit
unit_least _ _ b = omega arith
unit_least _ _ k = omega arith
unit_least _ _ ki = omega arith
unit_least _ _ m = omega arith
unit_least _ _ mi = omega arith
unit_least _ _ g = omega arith
unit_least _ _ gi = omega arith
unit_least _ _ t = omega arith
unit_least _ _ ti = omega arith

-- how many bytes the unit of these letters has
abbrev unit_bytes : List ℕ → ℕ
unit_bytes [] = 0
unit_bytes (c ∷ letters) =
    cond (c == 66) 1 (cond (c == 75) 1024 (cond (c == 77) (1024 ^ 2) (cond (c == 71) (1024 ^ 3) (1024 ^ 4))))

unit_bytes_is : (letters : List ℕ) (unit : ℕ) → IsUnit letters unit → unit_bytes letters ≡ unit
unit_bytes_is _ _ b = refl
unit_bytes_is _ _ k = refl
unit_bytes_is _ _ ki = refl
unit_bytes_is _ _ m = refl
unit_bytes_is _ _ mi = refl
unit_bytes_is _ _ g = refl
unit_bytes_is _ _ gi = refl
unit_bytes_is _ _ t = refl
unit_bytes_is _ _ ti = refl

pub same_unit : (letters : List ℕ) (u v : ℕ) → IsUnit letters u → IsUnit letters v → u ≡ v
same_unit letters u v p q = sym (unit_bytes_is letters u p) ∙ unit_bytes_is letters v q

pub digit_is : (c : ℕ) → IsInRange 48 57 c → not (is_other c) ≡ true
digit_is c h = ap (λ b. not (not b)) (and_from (nat_le 48 c) (nat_le c 57) (le-leb 48 c h.0) (le-leb c 57 h.1))

-- digits end where another byte stands
digit_first : (digits letters : List ℕ) → AllDigits 10 digits → BeginsOther letters
    → position_or_len is_other (digits ++ letters) ≡ length digits
digit_first [] [] all begins = absurd begins
digit_first [] (c ∷ letters) all begins =
    cond-false (not (is_other c)) (1 + position_or_len is_other letters) 0 (ap not begins)
digit_first (c ∷ digits) letters all begins =
    let later : position_or_len is_other (digits ++ letters) ≡ length digits = digit_first digits letters all.1
    begins in
    cond-true (not (is_other c)) (1 + position_or_len is_other (digits ++ letters)) 0
    (digit_is c (digit_from_value c all.0))
    ∙ omega arith

-- the number stands before the first byte that is no digit
pub number_front : (n : ℕ) (letters : List ℕ) → n < 2 ^ 64 → BeginsOther letters
    → before_first is_other (decimal n ++ letters) ≡ decimal n
number_front n letters small begins =
    ap (λ i. take i (decimal n ++ letters)) (digit_first (decimal n) letters
    (decimal_is_IsNumeral n small).0.1 begins)
    ∙ take-append_seam (decimal n) letters

number_first : (n : ℕ) (letters : List ℕ) (unit : ℕ) → n < 2 ^ 64 → IsUnit letters unit
    → before_first is_other (decimal n ++ letters) ≡ decimal n
number_first n letters unit small u = number_front n letters small (unit_begins letters unit u)

factor_below : (n unit size : ℕ) → 1 ≤ unit → size ≡ n * unit → size < 2 ^ 64 → n < 2 ^ 64
factor_below n unit size least product below = omega (arith, mul-le-mul_left n least)

-- a number and its unit, below 2^64, are those of the word's digits and of what stands behind them
pub record Counts (digits letters : List ℕ) (size : ℕ) : Type 0 where
  pub n : ℕ
  pub unit : ℕ
  pub small : n < 2 ^ 64
  pub number : digits ≡ decimal n
  pub named : IsUnit letters unit
  pub product : size ≡ n * unit

pub counts : (word digits letters : List ℕ) (size : ℕ) → word ≡ digits ++ letters
    → digits ≡ before_first is_other word → size < 2 ^ 64 → IsCounted word size → Counts digits letters size
counts word digits letters size parts front below (n, name, unit, named, spelled, product) =
    let least : 1 ≤ unit = unit_least name unit named in
    let small : n < 2 ^ 64 = factor_below n unit size least product below in
    let number : digits ≡ decimal n = front ∙ ap (before_first is_other) spelled
    ∙ number_first n name unit small named in
    let behind = append_cancel_left (decimal n) letters name
    (ap (λ d. d ++ letters) (sym number) ∙ sym parts ∙ spelled) in
    record {
      n = n;
      unit = unit;
      small = small;
      number = number;
      named = subst (λ l. IsUnit l unit)
          (sym behind) named;
      product = product;
    }

-- a number and its unit are one size
same_counted : (word : List ℕ) (x y : ℕ) → x < 2 ^ 64 → y < 2 ^ 64 → IsCounted word x → IsCounted word y → x ≡ y
same_counted word x y small low (n, name, unit, named, spelled, product) q =
    let fits : n < 2 ^ 64 = factor_below n unit x (unit_least name unit named) product small in
    let front = sym (number_first n name unit fits named) ∙ ap (before_first is_other) (sym spelled) in
    let other : Counts (decimal n) name y = counts word (decimal n) name y spelled front low q in
    product
    ∙ ap₂ (λ a b. a * b) (decimal_injective n other.n fits other.small other.number)
    (same_unit name unit other.unit named other.named)
    ∙ sym other.product

no_zero : (word : List ℕ) (x : ℕ) → x < 2 ^ 64 → IsCounted word x → word ≡ codes "0" → ⊥
no_zero word x small p e =
    let other : Counts (codes "0") [] x = counts word (codes "0") [] x e
    (ap (before_first is_other) (sym e)) small p in
    unit_begins [] other.unit other.named

no_off : (word : List ℕ) (x : ℕ) → x < 2 ^ 64 → IsCounted word x → word ≡ codes "off" → ⊥
no_off word x small p e =
    let other : Counts [] (codes "off") x = counts word [] (codes "off") x e
    (ap (before_first is_other) (sym e)) small p in
    absurd (omega (arith, decimal_nonempty other.n other.small, ap length other.number))

same_spelled : (word : List ℕ) (x y : ℕ) → x < 2 ^ 64 → y < 2 ^ 64 → IsCounted word x
    ⊎ ((word ≡ codes "0") × (x ≡ 0)) → IsCounted word y ⊎ ((word ≡ codes "0") × (y ≡ 0)) → x ≡ y
same_spelled word x y small low (inl p) (inl q) = same_counted word x y small low p q
same_spelled word x y small low (inl p) (inr q) = absurd (no_zero word x small p q.0)
same_spelled word x y small low (inr p) (inl q) = absurd (no_zero word y low q p.0)
same_spelled word x y small low (inr p) (inr q) = p.1 ∙ sym q.1

-- a word spells one size
pub same_size : (word : List ℕ) (x y : ℕ) → IsSize word x → IsSize word y → x ≡ y
same_size word x y p q = same_spelled word x y (omega (arith, p.most)) (omega (arith, q.most)) p.spelled q.spelled

pub not_off : (word : List ℕ) (x : ℕ) → IsSize word x → word ≡ codes "off" → ⊥
not_off word x p e = not_off_by word x (omega (arith, p.most)) p.spelled e
  where
    not_off_by : (word : List ℕ) (x : ℕ) → x < 2 ^ 64 → IsCounted word x ⊎ ((word ≡ codes "0") × (x ≡ 0))
        → word ≡ codes "off" → ⊥
    not_off_by word x small (inl q) e = no_off word x small q e
    not_off_by word x small (inr q) e = absurd (cc (q.0, e))

-- a word spells one amount
pub same_amount : (word : List ℕ) (x y : Amount) → IsAmount word x → IsAmount word y → x ≡ y
same_amount word Off Off p q = refl
same_amount word Off (Size y) p q = absurd (not_off word y q p)
same_amount word (Size x) Off p q = absurd (not_off word x p q)
same_amount word (Size x) (Size y) p q = ap Size (same_size word x y p q)

cond_at : (b : Bool) (x i : ℕ) → cond b (Some x) None ≡ Some i → i ≡ x
cond_at true x i e = cc
cond_at false x i e = cc

cond_past : (b : Bool) (x : ℕ) → cond b (Some x) None ≡ None → b ≡ false
cond_past true x e = cc
cond_past false x e = refl

pub first_at : (word : List ℕ) (i : ℕ) → position is_other word ≡ Some i → take i word ≡ before_first is_other word
first_at word i e = ap (λ k. take k word) (cond_at (nat_lt (position_or_len is_other word) (length word))
    (position_or_len is_other word) i e)

pub first_nowhere : (word : List ℕ) → position is_other word ≡ None → word ≡ before_first is_other word
first_nowhere word e =
    let past : length word ≤ position_or_len is_other word = ltb-false _ _
    (cond_past (nat_lt (position_or_len is_other word) (length word)) (position_or_len is_other word) e) in
    sym (take_all (position_or_len is_other word) word past)

-- a size that a number and its unit spell is at most 2^40 bytes only if the word is no longer size
pub too_big : (word : List ℕ) (x size : ℕ) → x < 2 ^ 64 → IsCounted word x → 2 ^ 40 < x
    → (word ≡ codes "0" → ⊥) → IsSize word size → ⊥
too_big word x size fits counted big some p = too_big_by p.spelled
  where
    too_big_by : IsCounted word size ⊎ ((word ≡ codes "0") × (size ≡ 0)) → ⊥
    too_big_by (inl q) = absurd (omega (
      arith,
      same_counted word x size fits
          (omega (arith, p.most)) counted q,
      p.most,
    ))
    too_big_by (inr q) = some q.0

pub no_size : (word : List ℕ) (size : ℕ) → ((size : ℕ) → size < 2 ^ 64 → IsCounted word size → ⊥)
    → (word ≡ codes "0" → ⊥) → IsSize word size → ⊥
no_size word size none some p = no_size_by p.spelled
  where
    no_size_by : IsCounted word size ⊎ ((word ≡ codes "0") × (size ≡ 0)) → ⊥
    no_size_by (inl q) = none size (omega (arith, p.most)) q
    no_size_by (inr q) = some q.0

pub no_amount : (word : List ℕ) → ((size : ℕ) → IsSize word size → ⊥) → (word ≡ codes "off" → ⊥)
    → (amount : Amount) → IsAmount word amount → ⊥
no_amount word none some Off p = some p
no_amount word none some (Size size) p = none size p

-- the test that a word isn't this
pub differs : (word other text : List ℕ) (test : Bool) → test ≡ bytes_eq word other → other ≡ text
    → test ≡ false → word ≡ text → ⊥
differs word other text test by is fails same = false≢true
    (sym fails ∙ by ∙ (bytes_eq-Decides word other).1 (same ∙ sym is))

-- where the product of the number and the unit doesn't fit, no size below 2^64 is spelled
pub no_product : (r : Option ℕ) (word digits letters : List ℕ) (n unit : ℕ)
    → SomeIff r (n * unit < 2 ^ 64) (n * unit) → word ≡ digits ++ letters → digits ≡ before_first is_other word
    → n < 2 ^ 64 → digits ≡ decimal n → IsUnit letters unit
    → IfNone r ((size : ℕ) → size < 2 ^ 64 → IsCounted word size → ⊥)
no_product (Some x) word digits letters n unit product parts front small number named = tt
no_product None word digits letters n unit product parts front small number named = λ size below p.
    let other : Counts digits letters size = counts word digits letters size parts front below p in
    let same : n ≡ other.n = decimal_injective n other.n small other.small (sym number ∙ other.number) in
    let unit_same : unit ≡ other.unit = same_unit letters unit other.unit named other.named in
    product (subst (λ x. x < 2 ^ 64) (other.product ∙ ap₂ (λ a b. a * b) (sym same) (sym unit_same)) below)
