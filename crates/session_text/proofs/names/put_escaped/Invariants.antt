use Rattle.std.proofs.Common.{◌≡◌, ◌++◌, drop}
use Rattle.session_script.specs.Escape.{escape}
use Rattle.session_text.specs.Printed.{Keeps}
use Rattle.session_text.proofs.names.put_escaped.Given as goal

abbrev pub invariant-loop-byte : goal.invariant-loop-byte
invariant-loop-byte l = (l.out ++ escape (drop l.byte-index l.bytes) ≡ l.fn.out ++ escape l.bytes) × Keeps l.fn.out l.out
