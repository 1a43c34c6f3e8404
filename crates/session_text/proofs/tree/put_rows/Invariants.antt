use Rattle.std.proofs.Common.{◌≡◌, ◌++◌, drop, map}
use Rattle.session_text.specs.Printed.{Keeps}
use Rattle.session_text.specs.Tree.{row_text}
use Rattle.session_text.specs.Words.{spaced}
use Rattle.session_text.proofs.tree.put_rows.Given as goal

abbrev pub invariant-loop-row : goal.invariant-loop-row
invariant-loop-row l = (l.out ++ spaced (map row_text (drop l.row-index l.rows)) ≡ l.fn.out ++ spaced (map row_text l.rows)) × Keeps l.fn.out l.out
