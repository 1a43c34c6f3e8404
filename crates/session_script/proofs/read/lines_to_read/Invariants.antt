use Rattle.std.proofs.Common.{◌≤◌, ◌<◌, ◌+◌, ◌*◌, length}
use Rattle.session_script.proofs.read.lines_to_read.Given as goal

-- five bytes for each line that was counted, but for the line feed of the last
abbrev pub invariant-loop-rest : goal.invariant-loop-rest
invariant-loop-rest l = record {
  more : 0 < length l.rest → 5 * l.count + length l.rest ≤ length l.text;
  last : 5 * l.count + length l.rest ≤ length l.text + 1;
}

abbrev pub decreases-loop-rest : goal.decreases-loop-rest
decreases-loop-rest l = length l.rest
