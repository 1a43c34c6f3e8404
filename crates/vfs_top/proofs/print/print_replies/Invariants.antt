use Rattle.std.proofs.Common.{◌≡◌, ◌++◌, drop, map}
use Rattle.session_text.specs.declared.shown.Shown.TheVariants.{Replied}
use Rattle.vfs_top.specs.Transcript.{shown_texts}
use Rattle.vfs_top.proofs.print.print_replies.Given as goal

abbrev pub invariant-loop-done : goal.invariant-loop-done
invariant-loop-done l = l.out ++ shown_texts (map Replied (drop l.done-index l.records)) ≡ l.fn.out ++ shown_texts (map Replied l.records)
