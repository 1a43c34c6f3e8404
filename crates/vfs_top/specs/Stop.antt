-- Why a run ends before any call, and what is printed then.
use Rattle.std.specs.Prelude.{◌≡◌, ℕ, Option, List, [], ◌∷◌, ◌++◌, codes, decimal}
use Rattle.vfs_outside.specs.Causes.{Rose}
use Rattle.session_script.specs.Limits.{HasTooManyLines, ReadsTooMuch}
use Rattle.session_script.specs.Reasons.{limit_text, most_of, why_text}
use Rattle.session_script.specs.Script.{IsScript, IsRefusedAt}
use Rattle.session_script.specs.declared.call.Line.{Line}
use Rattle.session_script.specs.declared.limits.Limit.{Limit}
use Rattle.session_script.specs.declared.limits.Limit.TheVariants as limit
use Rattle.session_text.specs.Lines.{end_text}
use Rattle.vfs_top.specs.Script.{IsTooLong, IsWhole}
use Rattle.vfs_top.specs.Words.{IsRow}
use Rattle.vfs_top.specs.declared.stop.Stop.{Stop}
use Rattle.vfs_top.specs.declared.stop.Stop.TheVariants.{Usage, Refused, Source, Limit as Above, Remote, Disk, Slots, NoMemory}

abbrev pub status_of : Stop → ℕ
status_of Usage = 2
status_of (Refused n reason) = 3
status_of Source = 4
status_of (Above what) = 7
status_of Remote = 6
status_of Disk = 6
status_of Slots = 7
status_of NoMemory = 8

abbrev pub reason_text : Stop → List ℕ
reason_text Usage = codes "usage: vfs run --remote DIR --cache DIR [options]"
reason_text (Refused n reason) = codes "script line " ++ decimal n ++ codes ": " ++ why_text reason
reason_text Source = codes "source fault"
reason_text (Above what) = codes "limit " ++ limit_text what ++ codes " " ++ decimal (most_of what)
reason_text Remote = codes "remote fault"
reason_text Disk = codes "disk fault"
reason_text Slots = codes "limit slots 0"
reason_text NoMemory = codes "no memory"

-- the reason on a line of its own, and the last line
abbrev pub stop_text : Stop → List ℕ
stop_text stop = reason_text stop ++ 10 ∷ [] ++ end_text (status_of stop)

-- what is printed where memory was wanting
abbrev pub no_memory_text : List ℕ
no_memory_text = codes "no memory" ++ 10 ∷ codes "end 8" ++ 10 ∷ []

-- the text of a script is above a limit
abbrev pub IsAbove : List ℕ → Limit → Type 0
IsAbove text limit.Script = ⊥
IsAbove text limit.Lines = HasTooManyLines text
IsAbove text limit.Reads = (¬ HasTooManyLines text) × (script : List Line) × IsScript text script × ReadsTooMuch script

-- why the text of a script is refused
abbrev pub RefusesText : List ℕ → Stop → Type 0
RefusesText text Usage = ⊥
RefusesText text (Refused n reason) = (¬ HasTooManyLines text) × IsRefusedAt text n reason
RefusesText text Source = ⊥
RefusesText text (Above what) = IsAbove text what
RefusesText text Remote = ⊥
RefusesText text Disk = ⊥
RefusesText text Slots = ⊥
RefusesText text NoMemory = Unit {0}

-- more came than a script may have, or all was read and is refused
abbrev pub RefusesScript : Option (List ℕ) → Option (List ℕ) → Stop → Type 0
RefusesScript left left' (Above limit.Script) = IsTooLong left left'
RefusesScript left left' stop = (text : List ℕ) × IsWhole left left' text × RefusesText text stop

-- why a run of these words stops before its remote and its disk are asked for anything, by what the source had left and how often it
-- failed, before and after
abbrev pub Stops : List (List ℕ) → Option (List ℕ) → Option (List ℕ) → ℕ → ℕ → Stop → Type 0
Stops words left left' before now Usage = (¬ IsRow words) × (left' ≡ left)
Stops words left left' before now (Refused n reason) = IsRow words × RefusesScript left left' (Refused n reason)
Stops words left left' before now Source = IsRow words × Rose before now
Stops words left left' before now (Above what) = IsRow words × RefusesScript left left' (Above what)
Stops words left left' before now Remote = ⊥
Stops words left left' before now Disk = ⊥
Stops words left left' before now Slots = ⊥
Stops words left left' before now NoMemory = Unit {0}
