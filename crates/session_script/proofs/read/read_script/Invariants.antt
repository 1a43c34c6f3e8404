use Rattle.std.proofs.Common.{◌≤◌, ◌+◌, ◌++◌, ℕ, List, length}
use Rattle.std.specs.Str.Lines.{lines}
use Rattle.session_script.specs.declared.call.Line.{Line}
use Rattle.session_script.specs.declared.why.Why.{Why}
use Rattle.session_script.specs.Script.{AreLines, IsFirstRefused, IsScript, IsRefusedAt, numbered}
use Rattle.session_script.proofs.read.read_script.Given as goal

-- what the lines left ask for completes the script; the first refused of the lines left is the first of all
abbrev pub invariant-loop-rest : goal.invariant-loop-rest
invariant-loop-rest l = record {
  numbers : l.done + length l.rest ≤ length l.text;
  found : (more : List Line) → AreLines (numbered (l.done + 1) (lines l.rest)) more → IsScript l.text (l.lines.items ++ more);
  refused : (line : ℕ) (why : Why) → IsFirstRefused (numbered (l.done + 1) (lines l.rest)) line why → IsRefusedAt l.text line why;
}

abbrev pub decreases-loop-rest : goal.decreases-loop-rest
decreases-loop-rest l = length l.rest
