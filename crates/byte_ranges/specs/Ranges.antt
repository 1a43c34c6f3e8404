-- Sets of bytes as lists of spans.
use Rattle.std.specs.Prelude.{◌≡◌, ℕ, zero, suc, ◌+◌, ◌-◌, ◌<◌, ◌≤◌, Bool, true, false, not, ◌&&◌, ◌||◌, nat_le, nat_lt, if◌then◌else◌, List, [], ◌∷◌, Option, Some, None}
use Rattle.byte_ranges.specs.declared.Span.{Span}

-- the byte p is one of the span's
abbrev pub is_in : Span → ℕ → Bool
is_in span p = nat_le span.start p && nat_lt p span.end

-- the byte p is one of the set's
abbrev pub has : List Span → ℕ → Bool
has [] p = false
has (span ∷ rest) p = is_in span p || has rest p

-- the byte p is none of the set's
abbrev pub lacks : List Span → ℕ → Bool
lacks set p = not (has set p)

-- Each span starts at low or later and has a byte, and the next one starts past the byte after it.
abbrev pub IsApartFrom : ℕ → List Span → Type 0
IsApartFrom low [] = Unit {0}
IsApartFrom low (span ∷ rest) =
    (low ≤ span.start) × (span.start < span.end) × IsApartFrom (span.end + 1) rest

-- Sorted, disjoint and not touching: each set of bytes has one such list.
abbrev pub IsCanonical : List Span → Type 0
IsCanonical set = IsApartFrom 0 set

-- every byte of the span is one of the set's
abbrev pub Covers : List Span → Span → Type 0
Covers set span = (p : ℕ) → is_in span p ≡ true → has set p ≡ true

-- The run is the first stretch of the span's bytes that pass the test, and as long as it can be.
pub record IsFirstRun (test : ℕ → Bool) (span run : Span) : Type 0 where
  pub from : span.start ≤ run.start
  pub to : run.end ≤ span.end
  pub some : run.start < run.end
  pub passes : (p : ℕ) → is_in run p ≡ true → test p ≡ true
  pub before : (p : ℕ) → span.start ≤ p → p < run.start → test p ≡ false
  pub after : run.end < span.end → test run.end ≡ false

-- the first run of the span's bytes that pass the test, or None where none of them passes
abbrev pub IsFirstRunIn : (ℕ → Bool) → Span → Option Span → Type 0
IsFirstRunIn test span None = (p : ℕ) → is_in span p ≡ true → test p ≡ false
IsFirstRunIn test span (Some run) = IsFirstRun test span run

-- the lengths of the spans, added up
abbrev pub total_length : List Span → ℕ
total_length [] = 0
total_length (span ∷ rest) = (span.end - span.start) + total_length rest

-- how many of the bytes below n are the set's
abbrev pub count_below : List Span → ℕ → ℕ
count_below set zero = 0
count_below set (suc n) = (if has set n then 1 else 0) + count_below set n

-- all of the set's bytes are below n
abbrev pub IsBelow : ℕ → List Span → Type 0
IsBelow n set = (p : ℕ) → has set p ≡ true → p < n

-- the span, or no span where it has no byte
abbrev pub kept : Span → List Span
kept span = if nat_lt span.start span.end then span ∷ [] else []
