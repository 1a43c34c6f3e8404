-- Lists that only grow, and which of their entries belong to a number.
use Rattle.std.specs.Prelude.{◌≡◌, ℕ, ◌⊎◌, Bool, true, List, [], ◌∷◌, ◌++◌, length, filter, ◌==◌, nat_lt, if◌then◌else◌}

-- n is one of these numbers
abbrev pub Has : List ℕ → ℕ → Type 0
Has [] n = ⊥
Has (x ∷ xs) n = (x ≡ n) ⊎ Has xs n

-- the numbers other than n
abbrev pub without : ℕ → List ℕ → List ℕ
without n [] = []
without n (x ∷ xs) = if x == n then without n xs else (x ∷ without n xs)

-- the list begins with what was seen
abbrev pub StartsWith : {E : Type 0} → List E → List E → Type 0
StartsWith {E} log seen = (rest : List E) × (log ≡ seen ++ rest)

-- the longer of two lists; the first, where they are as long
abbrev pub longer : {E : Type 0} → List E → List E → List E
longer xs ys = if nat_lt (length xs) (length ys) then ys else xs

module _ {E : Type 0} (belongs : E → ℕ → Bool) where
  -- the entries that belong to the number n, in their order
  abbrev pub entries_of : ℕ → List E → List E
  entries_of n log = filter (λ e. belongs e n) log

  -- the list begins with what was seen, and no later entry belongs to one of the numbers
  pub record GoesOn (numbers : List ℕ) (seen log : List E) : Type 0 where
    pub rest : List E
    pub is : log ≡ seen ++ rest
    pub none : (n : ℕ) → Has numbers n → entries_of n rest ≡ []

  -- each of these entries belongs to no other numbers than these
  abbrev pub BelongsTo : List ℕ → List E → Type 0
  BelongsTo numbers [] = Unit {0}
  BelongsTo numbers (e ∷ es) = ((n : ℕ) → belongs e n ≡ true → Has numbers n) × BelongsTo numbers es

  -- the list has grown by entries that belong to no other numbers than these
  pub record GrowsBy (numbers : List ℕ) (old new : List E) : Type 0 where
    pub added : List E
    pub is : new ≡ old ++ added
    pub own : BelongsTo numbers added
