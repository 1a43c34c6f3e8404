use Rattle.std.proofs.Common.{◌≡◌, ◌++◌, drop}
use Rattle.session_text.specs.Printed.{Keeps}
use Rattle.session_text.specs.Tree.{tree_entry_lines}
use Rattle.session_text.proofs.tree.put_entries.Given as goal

abbrev pub invariant-loop-index : goal.invariant-loop-index
invariant-loop-index l = (l.out ++ tree_entry_lines l.index (drop l.index l.entries) ≡ l.fn.out ++ tree_entry_lines 0 l.entries) × Keeps l.fn.out l.out
