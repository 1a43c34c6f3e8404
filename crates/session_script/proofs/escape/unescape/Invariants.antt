use Rattle.std.proofs.Common.{◌≡◌, ◌++◌, length}
use Rattle.session_script.specs.Escape.{escape}
use Rattle.session_script.proofs.escape.unescape.Given as goal

abbrev pub invariant-loop-byte : goal.invariant-loop-byte
invariant-loop-byte l = l.word ≡ escape l.bytes.items ++ l.rest

abbrev pub decreases-loop-byte : goal.decreases-loop-byte
decreases-loop-byte l = length l.rest
