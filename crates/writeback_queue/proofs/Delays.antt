-- The delay after a failure, without overflow.
use Rattle.std.proofs.Common.{◌≡◌, ℕ, ◌-◌, ◌*◌, ◌^◌, ◌≤◌, ◌%◌, min, max, one-mul, refl, ap, arith, ◌⊎◌, inl, inr}
use Rattle.std.proofs.Math.Pow.{pow_mono}
use Rattle.std.proofs.Math.Nat.{mul-le-mul_left, mod-eq_of_lt}
use Rattle.std.proofs.lemmas.Bool.{cases_lt}
use Rattle.writeback_queue.specs.History.{delay}

lit64 : 2 ^ 6 ≡ 64
lit64 = refl

pub long_delay : (b n : ℕ) → 1000 ≤ b → 6 ≤ n → 60000 ≤ b * 2 ^ n
long_delay b n big far = omega (arith, mul-le-mul_left b (pow_mono far), lit64)

cut_alike : (p q : ℕ) → p ≡ q ⊎ ((60000 ≤ p) × (60000 ≤ q)) → min (min p (2 ^ 64 - 1)) 60000 ≡ min 60000 q
cut_alike p q h = elim h [ inl e ↦ omega arith | inr k ↦ omega arith ]

-- what saturates at the greatest number, and is cut at a minute, is the product cut at a minute
pub saturated_delay : (b n : ℕ) → 1000 ≤ b → min (min (b * 2 ^ min n 6) (2 ^ 64 - 1)) 60000 ≡ min 60000 (b * 2 ^ n)
saturated_delay b n big = cut_alike (b * 2 ^ min n 6) (b * 2 ^ n) (elim (cases_lt 6 n) [
  | inl far ↦ inr (long_delay b (min n 6) big (omega arith), long_delay b n big (omega arith))
  | inr near ↦ let e : min n 6 ≡ n = omega arith in inl (ap (λ k. b * 2 ^ k) e)
])

power_fits : (n : ℕ) → 1 * 2 ^ min n 6 % 2 ^ 64 ≡ 2 ^ min n 6
power_fits n =
    let least : min n 6 ≤ 6 = omega arith in
    let small : 2 ^ min n 6 ≤ 2 ^ 6 = pow_mono least in
    rw (one-mul (2 ^ min n 6)) (mod-eq_of_lt (omega (arith, small, lit64)))

-- the code's steps give the delay
pub computed_delay : (write_back fails doublings first product result : ℕ) → doublings ≡ min (fails - 1) 6 → first ≡ max write_back 1000
    → product ≡ min (first * (1 * 2 ^ doublings % 2 ^ 64)) (2 ^ 64 - 1) → result ≡ min product 60000 → result ≡ delay write_back fails
computed_delay write_back fails doublings first product result d f p r =
    rw (r, p, f, d, power_fits (fails - 1)) (saturated_delay (max write_back 1000) (fails - 1) (omega arith))
