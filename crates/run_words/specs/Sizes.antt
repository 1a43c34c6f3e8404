-- Sizes, and what a chunk size and its limit ask for. A word is its bytes.
use Rattle.std.specs.Prelude.{◌≡◌, ◌⊎◌, ℕ, ◌*◌, ◌^◌, ◌≤◌, ◌==◌, List, ◌++◌, codes, decimal, Option, Some, None, if◌then◌else◌}
use Rattle.downloaders.specs.declared.Limit.{Limit}
use Rattle.downloaders.specs.declared.Limit.TheVariants as limit
use Rattle.run_words.specs.declared.size.Amount.{Amount}
use Rattle.run_words.specs.declared.size.Amount.TheVariants.{Off, Size}

-- the units, and how many bytes each has
pub data IsUnit : List ℕ → ℕ → Type 0 where
  b : IsUnit (codes "B") 1
  k : IsUnit (codes "K") 1024
  ki : IsUnit (codes "Ki") 1024
  m : IsUnit (codes "M") (1024 ^ 2)
  mi : IsUnit (codes "Mi") (1024 ^ 2)
  g : IsUnit (codes "G") (1024 ^ 3)
  gi : IsUnit (codes "Gi") (1024 ^ 3)
  t : IsUnit (codes "T") (1024 ^ 4)
  ti : IsUnit (codes "Ti") (1024 ^ 4)

-- the word is a number without a leading zero, and a unit
abbrev pub IsCounted : List ℕ → ℕ → Type 0
IsCounted word size =
    (n : ℕ) × (letters : List ℕ) × (unit : ℕ) × IsUnit letters unit
    × (word ≡ decimal n ++ letters) × (size ≡ n * unit)

-- the word is a size of so many bytes: a number with its unit, or a lone 0, and at most 2^40 bytes
pub record IsSize (word : List ℕ) (size : ℕ) : Type 0 where
  pub spelled : IsCounted word size ⊎ ((word ≡ codes "0") × (size ≡ 0))
  pub most : size ≤ 2 ^ 40

-- the word is a size, or `off`
abbrev pub IsAmount : List ℕ → Amount → Type 0
IsAmount word Off = word ≡ codes "off"
IsAmount word (Size size) = IsSize word size

-- a chunk size: `off` and 0 ask for the whole rest at once
abbrev pub chunk_of : Amount → Option ℕ
chunk_of Off = None
chunk_of (Size size) = if size == 0 then None else Some size

abbrev pub IsChunk : List ℕ → Option ℕ → Type 0
IsChunk word chunk = (amount : Amount) × IsAmount word amount × (chunk ≡ chunk_of amount)

-- a limit on chunk sizes: with `off` they double, with 0 they stay the same, else they double as far as this
abbrev pub limit_of : Amount → Limit
limit_of Off = limit.Off
limit_of (Size size) = if size == 0 then limit.Same else limit.Most size

abbrev pub IsLimit : List ℕ → Limit → Type 0
IsLimit word most = (amount : Amount) × IsAmount word amount × (most ≡ limit_of amount)
