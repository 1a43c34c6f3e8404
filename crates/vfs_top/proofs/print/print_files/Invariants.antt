use Rattle.std.proofs.Common.{◌≡◌, ◌++◌, drop, map}
use Rattle.vfs_top.specs.Epoch.{history_of}
use Rattle.vfs_top.specs.Transcript.{file_texts}
use Rattle.vfs_top.proofs.print.print_files.Given as goal

abbrev pub invariant-loop-index : goal.invariant-loop-index
invariant-loop-index l = l.out ++ file_texts l.index (map history_of (drop l.index l.files)) ≡ l.fn.out ++ file_texts 0 (map history_of l.files)
