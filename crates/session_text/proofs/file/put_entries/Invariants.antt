use Rattle.std.proofs.Common.{◌≡◌, ◌++◌, drop}
use Rattle.session_text.specs.Entries.{entry_lines}
use Rattle.session_text.specs.Printed.{Keeps}
use Rattle.session_text.proofs.file.put_entries.Given as goal

abbrev pub invariant-loop-index : goal.invariant-loop-index
invariant-loop-index l = (l.out ++ entry_lines l.index (drop l.index l.entries) ≡ l.fn.out ++ entry_lines 0 l.entries) × Keeps l.fn.out l.out
