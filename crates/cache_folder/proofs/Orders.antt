-- Numbers that were sorted, and of which one of each was left.
use Rattle.std.proofs.Common.{◌≡◌, ℕ, List, nat_eq, sym, subst}
use Rattle.std.specs.Prelude.{◌↔◌, Contains}
use Rattle.std.specs.List.{dedup}
use Rattle.std.specs.List.Sorted.{IsPermutation, IsSorted, IsStrictlyIncreasing}
use Rattle.std.specs.Ordering.{nat_cmp}
use Rattle.std.proofs.lemmas.List.Kept.{Contains-dedup_nat, Contains-from_dedup}
use Rattle.std.proofs.lemmas.List.Sorted.{Contains-permutation, IsPermutation-sym}
use Rattle.std.proofs.lemmas.Map.Keys.{IsStrictlyIncreasing-dedup}

pub rises : (sorted once : List ℕ) → IsSorted nat_cmp sorted → once ≡ dedup nat_eq sorted → IsStrictlyIncreasing once
rises sorted once order left = subst IsStrictlyIncreasing (sym left) (IsStrictlyIncreasing-dedup sorted order)

pub same_numbers : (found sorted once : List ℕ) → IsPermutation found sorted → once ≡ dedup nat_eq sorted → (s : ℕ) → Contains once s ↔ Contains found s
same_numbers found sorted once moved left s = (
  (λ h. Contains-permutation sorted found s (IsPermutation-sym found sorted moved) (Contains-from_dedup nat_eq sorted s (subst (λ xs. Contains xs s) left h))),
  (λ h. subst (λ xs. Contains xs s) (sym left) (Contains-dedup_nat sorted s (Contains-permutation found sorted s moved h))),
)
