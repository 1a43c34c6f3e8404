use Rattle.std.proofs.Common.{◌≡◌, ◌≤◌, ◌+◌, drop}
use Rattle.session_script.specs.Limits.{bytes_read}
use Rattle.session_script.proofs.limits.check_lines_read.Given as goal

abbrev pub invariant-loop-line : goal.invariant-loop-line
invariant-loop-line l = record {
  counted : l.total + bytes_read (drop l.line-index l.lines) ≡ bytes_read l.lines;
  small : l.total ≤ 67108864;
}
