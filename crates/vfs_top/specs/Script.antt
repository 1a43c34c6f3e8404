-- What was read of the script. What a source has left is known where it tells.
use Rattle.std.specs.Prelude.{ℕ, ◌≤◌, Option, List, length}
use Rattle.std.specs.Io.KnownBytes.{Consumes, IsAtEnd}
use Rattle.session_script.specs.Limits.{HasTooManyLines, IsTooBig, ReadsTooMuch}
use Rattle.session_script.specs.Script.{IsScript}
use Rattle.session_script.specs.declared.call.Line.{Line}
use Rattle.run_words.specs.Words.{Asked, AreWords}

-- the text was read, and nothing is left behind it
pub record IsWhole (left left' : Option (List ℕ)) (text : List ℕ) : Type 0 where
  pub read : Consumes left left' text
  pub ended : IsAtEnd left'
  pub fits : length text ≤ 16777216

-- more was read than a script may have
pub record IsTooLong (left left' : Option (List ℕ)) : Type 0 where
  pub text : List ℕ
  pub read : Consumes left left' text
  pub big : IsTooBig text

-- the text is that of this script, which is within the limits
pub record IsAllowed (text : List ℕ) (script : List Line) : Type 0 where
  pub few : ¬ HasTooManyLines text
  pub says : IsScript text script
  pub short : ¬ ReadsTooMuch script

-- the words ask for this, and the source was read to its end and gave this script
pub record IsReady (words : List (List ℕ)) (left left' : Option (List ℕ)) (asked : Asked) (script : List Line) : Type 0 where
  pub words_ask : AreWords words asked
  pub text : List ℕ
  pub whole : IsWhole left left' text
  pub allowed : IsAllowed text script
