-- The words of the command line. A word is its bytes.
use Rattle.std.specs.Prelude.{ℕ, List}
use Rattle.run_words.specs.Words.{Asked, AreWords}

-- the words are those of a run
abbrev pub IsRow : List (List ℕ) → Type 0
IsRow words = (asked : Asked) × AreWords words asked
