-- Which paths the pins keep in the cache.
use Rattle.std.specs.Prelude.{ℕ, ◌==◌, ◌&&◌, Bool, true, List, [], ◌∷◌, length, drop, nat_eq}
use Rattle.std.specs.List.{list_any, starts_with}

-- nothing more, or a slash and more
abbrev pub ends_name : List ℕ → Bool
ends_name [] = true
ends_name (byte ∷ rest) = byte == 47

-- the path is the pin, or it begins with the pin and a slash
abbrev pub covers : List ℕ → List ℕ → Bool
covers pin path = starts_with nat_eq path pin && ends_name (drop (length pin) path)

abbrev pub is_pinned : List (List ℕ) → List ℕ → Bool
is_pinned pins path = list_any (λ pin. covers pin path) pins
