-- How what was answered matches a history: call by call, the newest first.
use Rattle.std.specs.Prelude.{◌≡◌, ◌⊎◌, ◌<◌, ℕ, ◌+◌, ◌-◌, ◌++◌, Bool, true, if◌then◌else◌, Option, None, Some, List, [], ◌∷◌, length, take, slice_get, IsSomeAnd}

-- the entries of a history that belong to a session
abbrev pub entries_of : {E : Type 0} → (E → ℕ → Bool) → ℕ → List E → List E
entries_of belongs session [] = []
entries_of belongs session (e ∷ es) = if belongs e session then e ∷ entries_of belongs session es else entries_of belongs session es

-- The session's entry at a place is its last one so far: with it, its entries of the history are these.
pub record IsLast {E : Type 0} (belongs : E → ℕ → Bool) (session : ℕ) (history mine : List E) (k : ℕ) : Type 0 where
  pub inside : k < length history
  pub upto : entries_of belongs session (take (k + 1) history) ≡ mine
  pub own : IsSomeAnd (slice_get history k) (λ e. belongs e session ≡ true)

-- A history, oldest entry first, and what a call D may do there: its place, what it adds after what stood before, and
-- what it does after the older calls.
module _ {E D : Type 0} (belongs : E → ℕ → Bool) (place : D → Option ℕ) (does : List D → D → List E → List E → Type 0) where
  -- a call added nothing and has no place, or it has the place of the last entry that it added, and these are what it does
  abbrev pub IsStep : ℕ → List E → List E → List D → D → List E → Type 0
  IsStep session history mine older d added =
      ((added ≡ []) × (place d ≡ None))
      ⊎ ((k : ℕ) × (place d ≡ Some k) × IsLast belongs session history mine k
      × does older d (take (k + 1 - length added) history) added)

  -- the session's entries of a history are those of its calls, in their order
  abbrev pub Matches : ℕ → List E → List D → List E → Type 0
  Matches session history [] mine = mine ≡ []
  Matches session history (d ∷ older) mine = (before : List E) × (added : List E) × (mine ≡ before ++ added)
      × IsStep session history mine older d added × Matches session history older before
