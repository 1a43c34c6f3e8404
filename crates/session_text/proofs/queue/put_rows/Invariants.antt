use Rattle.std.proofs.Common.{◌≡◌, ◌++◌, drop}
use Rattle.session_text.specs.Lines.{queue_lines}
use Rattle.session_text.specs.Printed.{Keeps}
use Rattle.session_text.proofs.queue.put_rows.Given as goal

abbrev pub invariant-loop-row : goal.invariant-loop-row
invariant-loop-row l = (l.out ++ queue_lines (drop l.row-index l.rows) ≡ l.fn.out ++ queue_lines l.rows) × Keeps l.fn.out l.out
