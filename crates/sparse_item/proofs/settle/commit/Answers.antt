use Rattle.vfs_outside.specs.declared.file_call.FileCall.TheVariants as kinds
use Rattle.sparse_item.proofs.Moved.{goes_further, then_failed}
use Rattle.sparse_item.proofs.settle.commit.Goals as goal

pub returns-in-Ok-save-clause-goes : goal.returns-in-Ok-save-clause-goes
returns-in-Ok-save-clause-goes g c = goes_further c.in-Ok.ensures.goes c.in-Ok-save.ensures.goes

pub returns-in-Err-save-clause-goes : goal.returns-in-Err-save-clause-goes
returns-in-Err-save-clause-goes g c = goes_further c.in-Ok.ensures.goes c.in-Err-save.ensures.goes

pub returns-in-Err-save-clause-moves : goal.returns-in-Err-save-clause-moves
returns-in-Err-save-clause-moves g c = then_failed (Unit {0}) (kinds.Saved c.as_slice.result.now) c.in-Err-save.why c.in-Ok.ensures.moves c.in-Err-save.ensures.call
