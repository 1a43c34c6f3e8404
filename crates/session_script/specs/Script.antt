-- The script: its lines, what they ask for, and the first that is refused. A text is its bytes.
use Rattle.std.specs.Prelude.{◌≡◌, ◌⊎◌, ℕ, ◌+◌, ◌==◌, Bool, true, false, List, [], ◌∷◌, if◌then◌else◌}
use Rattle.std.specs.Str.Lines.{lines}
use Rattle.session_script.specs.declared.call.Line.{Line}
use Rattle.session_script.specs.declared.call.What.{What}
use Rattle.session_script.specs.declared.why.Why.{Why}
use Rattle.session_script.specs.declared.why.Why.TheVariants as why
use Rattle.session_script.specs.Calls.{IsLine}
use Rattle.session_script.specs.Faults.{IsBadLine}
use Rattle.session_script.specs.Built.{is_built}

-- an empty line does nothing, nor does one that begins with #, whatever follows
abbrev pub is_quiet : List ℕ → Bool
is_quiet [] = true
is_quiet (byte ∷ bytes) = byte == 35

-- the lines that do something, with their numbers; the first of these lines has number n
abbrev pub numbered : ℕ → List (List ℕ) → List (ℕ × List ℕ)
numbered n [] = []
numbered n (text ∷ texts) = if is_quiet text then numbered (n + 1) texts else (n, text) ∷ numbered (n + 1) texts

-- line n asks for this, and the program can do it
pub record Does (n : ℕ) (text : List ℕ) (asked : What) : Type 0 where
  pub line : IsLine n text asked
  pub built : is_built asked ≡ true

-- each line asks for what stands at its place
abbrev pub AreLines : List (ℕ × List ℕ) → List Line → Type 0
AreLines [] [] = Unit {0}
AreLines [] (line ∷ found) = ⊥
AreLines (text ∷ texts) [] = ⊥
AreLines (text ∷ texts) (line ∷ found) = (line.line ≡ text.0) × Does text.0 text.1 line.what × AreLines texts found

-- the line is refused: it isn't in the language, or the program can't do it
abbrev pub IsRefused : ℕ → List ℕ → Why → Type 0
IsRefused n text reason = IsBadLine text reason ⊎ ((asked : What) × IsLine n text asked × (is_built asked ≡ false) × (reason ≡ why.Unbuilt))

-- the first line that is refused is this one, for this reason
abbrev pub IsFirstRefused : List (ℕ × List ℕ) → ℕ → Why → Type 0
IsFirstRefused [] line reason = ⊥
IsFirstRefused (text ∷ texts) line reason =
    ((line ≡ text.0) × IsRefused text.0 text.1 reason)
    ⊎ (((asked : What) × Does text.0 text.1 asked) × IsFirstRefused texts line reason)

-- the lines of a script that do something. Lines end with a line feed and lose one carriage return before it; the
-- last line may lack the line feed
abbrev pub lines_of : List ℕ → List (ℕ × List ℕ)
lines_of text = numbered 1 (lines text)

-- the text is that of this script
abbrev pub IsScript : List ℕ → List Line → Type 0
IsScript text script = AreLines (lines_of text) script

-- the text is refused at this line for this reason
abbrev pub IsRefusedAt : List ℕ → ℕ → Why → Type 0
IsRefusedAt text line reason = IsFirstRefused (lines_of text) line reason
