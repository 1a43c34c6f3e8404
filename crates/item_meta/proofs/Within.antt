-- Spans end by a number exactly where their bytes are below it.
use Rattle.std.proofs.Common.{ℕ, ◌+◌, ◌-◌, ◌<◌, ◌≤◌, ◌||◌, List, [], ◌∷◌, sym, ap, ◌∙◌, inl, inr, arith}
use Rattle.std.proofs.Math.Bool.{or-true}
use Rattle.std.proofs.lemmas.Bool.{cases_lt}
use Rattle.std.proofs.lemmas.List.Elements.{All-nil, All-cons, All-head, All-tail}
use Rattle.std.specs.List.{All}
use Rattle.byte_ranges.specs.declared.Span.{Span}
use Rattle.byte_ranges.specs.Ranges.{is_in, IsApartFrom, IsCanonical, IsBelow}
use Rattle.byte_ranges.proofs.Runs.{has_first, has_later}

abbrev pub EndsBy : ℕ → Span → Type 0
EndsBy n span = span.end ≤ n

pub below_from_ends : (n : ℕ) (spans : List Span) → All (λ span. span.end ≤ n) spans → IsBelow n spans
below_from_ends n [] ends p here = absurd cc
below_from_ends n (x ∷ xs) ends p here =
    elim (cases_lt p x.end) [
      | inl inside ↦ let first : x.end ≤ n = All-head (EndsBy n) x xs ends in omega arith
      | inr past ↦ below_from_ends n xs (All-tail (EndsBy n) x xs ends) p (sym (has_later x xs p (omega arith)) ∙ here)
    ]

ends_from : (n low : ℕ) (spans : List Span) → IsApartFrom low spans → IsBelow n spans → All (EndsBy n) spans
ends_from n low [] apart below = All-nil (EndsBy n)
ends_from n low (x ∷ xs) apart below =
    let last : x.end - 1 < n = below (x.end - 1) (has_first x xs (x.end - 1) (omega arith) (omega arith)) in
    All-cons (EndsBy n) x xs (omega arith) (ends_from n (x.end + 1) xs apart.2 (λ p here. below p (ap (λ b. is_in x p || b) here ∙ or-true (is_in x p))))

pub ends_from_below : (n : ℕ) (spans : List Span) → IsCanonical spans → IsBelow n spans → All (λ span. span.end ≤ n) spans
ends_from_below n spans apart below = ends_from n 0 spans apart below
