use Rattle.session_script.specs.Faults.{file}
use Rattle.session_script.proofs.Misfits.{misfit_here}
use Rattle.session_script.proofs.Paths.{no_file}
use Rattle.session_script.proofs.places.file.Goals as goal

pub returns-then-is_root-clause-bad : goal.returns-then-is_root-clause-bad
returns-then-is_root-clause-bad c = λ rest. misfit_here file rest c.args.words.now c.next.new.self c.in-Some.word.now c.in-Some.ensures (no_file c.in-Some.word.now c.in-Ok-Some.path (rw c.in-Ok-Some.field-0-is at c.in-Ok-Some.ensures.found) c.if-is_root.ensures)
