-- How many bytes are here, as more of them come.
use Rattle.std.proofs.Common.{◌≡◌, ◌≤◌, ℕ, zero, suc, if◌then◌else◌, Bool, true, false, List, refl, arith, subst}
use Rattle.byte_ranges.specs.Ranges.{IsBelow, count_below, has}
use Rattle.byte_ranges.specs.declared.Span.{Span}

bit : Bool → ℕ
bit b = if b then 1 else 0

bit_more : (a b : Bool) → (a ≡ true → b ≡ true) → bit a ≤ bit b
unfolding bit
bit_more false b h = omega arith
bit_more true b h = let e : b ≡ true = h refl in rw e (omega arith)

pub count_more : (a b : List Span) (n : ℕ) → ((p : ℕ) → has a p ≡ true → has b p ≡ true) → count_below a n ≤ count_below b n
unfolding bit
count_more a b zero h = omega arith
count_more a b (suc n) h = omega (arith, count_more a b n h, bit_more (has a n) (has b n) (h n))

-- a count of the bytes that are here doesn't fall as more of them come
pub count_grows : (a b : List Span) (m n x y : ℕ) → m ≡ n → IsBelow m a → IsBelow n b → ((k : ℕ) → IsBelow k a → x ≡ count_below a k) → ((k : ℕ) → IsBelow k b → y ≡ count_below b k)
    → ((p : ℕ) → has a p ≡ true → has b p ≡ true) → x ≤ y
count_grows a b m n x y same below_a below_b count_a count_b grows =
    let low : IsBelow n a = subst (λ (k : ℕ). IsBelow k a) same below_a in
    omega (arith, count_a n low, count_b n below_b, count_more a b n grows)
