use Rattle.std.proofs.Common.{false}
use Rattle.vfs_outside.specs.declared.file_call.FileCall.TheVariants as kinds
use Rattle.sparse_item.proofs.Moved.{goes_further, then_failed}
use Rattle.sparse_item.proofs.clear.clear_out.Goals as goal

pub returns-in-Ok-clear-clause-goes : goal.returns-in-Ok-clear-clause-goes
returns-in-Ok-clear-clause-goes g c = goes_further c.in-Ok.ensures.goes c.in-Ok-clear.ensures.goes

pub returns-in-Err-clear-clause-goes : goal.returns-in-Err-clear-clause-goes
returns-in-Err-clear-clause-goes g c = goes_further c.in-Ok.ensures.goes c.in-Err-clear.ensures.goes

pub returns-in-Err-clear-clause-moves : goal.returns-in-Err-clear-clause-moves
returns-in-Err-clear-clause-moves g c = then_failed (Unit {0}) (kinds.Cleared false) c.in-Err-clear.why c.in-Ok.ensures.moves c.in-Err-clear.ensures.call
