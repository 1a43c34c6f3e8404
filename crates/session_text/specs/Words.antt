-- How words make a line of the transcript.
use Rattle.std.specs.Prelude.{◌≡◌, ℕ, ◌++◌, List, [], ◌∷◌, refl}
use Rattle.std.specs.List.{join_with_byte}
use Rattle.std.proofs.Common.{ap, sym, append-nil}

-- the words, each after a space
abbrev pub spaced : List (List ℕ) → List ℕ
spaced [] = []
spaced (word ∷ words) = 32 ∷ word ++ spaced words

-- the words, with a single space between each two
abbrev pub joined : List (List ℕ) → List ℕ
joined [] = []
joined (word ∷ words) = word ++ spaced words

-- a line: its words and a line feed
abbrev pub line : List (List ℕ) → List ℕ
line words = joined words ++ 10 ∷ []

-- this is how std joins pieces by a byte
pub joined_by_spaces : (words : List (List ℕ)) → join_with_byte 32 words ≡ joined words
joined_by_spaces [] = refl
joined_by_spaces (word ∷ []) = sym (append-nil word)
joined_by_spaces (word ∷ next ∷ words) = ap (λ rest. word ++ 32 ∷ rest) (joined_by_spaces (next ∷ words))
