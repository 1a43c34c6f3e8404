-- Times in milliseconds. A word is its bytes.
use Rattle.std.specs.Prelude.{◌≡◌, ℕ, ◌+◌, ◌*◌, ◌^◌, ◌<◌, ◌≤◌, ◌||◌, not, List, [], ◌∷◌, ◌++◌, codes, decimal, Option, Some, None, is_some, unwrap_or, IsTrue, IfSome}
use Rattle.std.specs.Char.{is_ascii_digit}
use Rattle.std.specs.List.{list_all}
use Rattle.run_words.specs.declared.time.Time.{Time}

-- what a number and its unit spell, where the number is given
abbrev pub part : Option ℕ → List ℕ → List ℕ
part None unit = []
part (Some n) unit = decimal n ++ unit

-- what a time spells: the units stand in this order
abbrev pub spelling : Time → List ℕ
spelling time =
    part time.hours (codes "h") ++ part time.minutes (codes "m")
    ++ part time.seconds (codes "s") ++ part time.millis (codes "ms")

-- how many milliseconds a time has
abbrev pub millis_of : Time → ℕ
millis_of time =
    unwrap_or time.hours 0 * 3600000 + unwrap_or time.minutes 0 * 60000
    + unwrap_or time.seconds 0 * 1000 + unwrap_or time.millis 0

-- a number that is given has at most 12 digits
abbrev pub IsShort : Option ℕ → Type 0
IsShort number = IfSome number (λ n. n < 10 ^ 12)

-- the word spells this time, in which one unit at least is given
pub record Spells (word : List ℕ) (time : Time) : Type 0 where
  pub some : IsTrue (is_some time.hours || is_some time.minutes
      || is_some time.seconds || is_some time.millis)
  pub hours : IsShort time.hours
  pub minutes : IsShort time.minutes
  pub seconds : IsShort time.seconds
  pub millis : IsShort time.millis
  pub spelled : word ≡ spelling time

-- the word is a time of so many milliseconds, at most 2^40
pub record IsTime (word : List ℕ) (millis : ℕ) : Type 0 where
  pub time : Time
  pub spells : Spells word time
  pub value : millis ≡ millis_of time
  pub most : millis ≤ 2 ^ 40

-- bytes that may be a unit: one at least, and none of them a digit
abbrev pub IsLetters : List ℕ → Type 0
IsLetters [] = ⊥
IsLetters (byte ∷ bytes) = IsTrue (list_all (λ byte. not (is_ascii_digit byte)) (byte ∷ bytes))

-- what may stand behind a unit: nothing, or what begins with a digit
abbrev pub IsAfterUnit : List ℕ → Type 0
IsAfterUnit [] = Unit {0}
IsAfterUnit (byte ∷ bytes) = IsTrue (is_ascii_digit byte)
