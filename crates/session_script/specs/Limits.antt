-- The limits on a script.
use Rattle.std.specs.Prelude.{ℕ, ◌+◌, ◌<◌, List, [], ◌∷◌, length, min}
use Rattle.std.specs.Str.Lines.{lines}
use Rattle.session_script.specs.declared.call.Call.{Call}
use Rattle.session_script.specs.declared.call.Call.TheVariants as call
use Rattle.session_script.specs.declared.call.What.{What}
use Rattle.session_script.specs.declared.call.What.TheVariants as what
use Rattle.session_script.specs.declared.call.Line.{Line}

-- a script is too long above 16 MiB, and above 65,536 lines, counted as they are numbered
abbrev pub IsTooBig : List ℕ → Type 0
IsTooBig text = 16777216 < length text

abbrev pub HasTooManyLines : List ℕ → Type 0
HasTooManyLines text = 65536 < length (lines text)

-- how many bytes a call may read: a longer read is refused, and reads none
abbrev pub bytes_of_call : Call → ℕ
bytes_of_call (call.Read h pos len) = min len 131072
bytes_of_call (call.Open h path how) = 0
bytes_of_call (call.Write h pos payload) = 0
bytes_of_call (call.Size h size) = 0
bytes_of_call (call.Close h) = 0
bytes_of_call (call.Stat path) = 0
bytes_of_call (call.List path) = 0
bytes_of_call (call.MakeDir path) = 0
bytes_of_call (call.RemoveDir path) = 0
bytes_of_call (call.Unlink path) = 0
bytes_of_call (call.Rename from to) = 0

abbrev pub bytes_of : What → ℕ
bytes_of (what.Call c) = bytes_of_call c.call
bytes_of (what.Advance ms) = 0
bytes_of what.Tick = 0
bytes_of what.Clean = 0
bytes_of what.Poll = 0
bytes_of what.Join = 0
bytes_of what.Restart = 0

-- what the read lines of a script ask for together, each counted up to 131,072 bytes
abbrev pub bytes_read : List Line → ℕ
bytes_read [] = 0
bytes_read (line ∷ script) = bytes_of line.what + bytes_read script

abbrev pub ReadsTooMuch : List Line → Type 0
ReadsTooMuch script = 67108864 < bytes_read script
