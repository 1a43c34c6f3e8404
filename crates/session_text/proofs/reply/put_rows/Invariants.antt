use Rattle.std.proofs.Common.{◌≡◌, ◌++◌, drop, map}
use Rattle.session_text.specs.Printed.{Keeps}
use Rattle.session_text.specs.Replies.{name_text}
use Rattle.session_text.specs.Words.{spaced}
use Rattle.session_text.proofs.reply.put_rows.Given as goal

abbrev pub invariant-loop-row : goal.invariant-loop-row
invariant-loop-row l = (l.out ++ spaced (map name_text (drop l.row-index l.rows)) ≡ l.fn.out ++ spaced (map name_text l.rows)) × Keeps l.fn.out l.out
