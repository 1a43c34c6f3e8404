-- The slot that a pass has out: none, or the one that the state was taken from.
use Rattle.std.specs.Prelude.{ℕ, Bool, true, false, List, [], ◌∷◌, Option, None}

abbrev pub out_with : {S : Type 0} → Bool → List (ℕ × Option S)
out_with true = (0, None) ∷ []
out_with false = []
