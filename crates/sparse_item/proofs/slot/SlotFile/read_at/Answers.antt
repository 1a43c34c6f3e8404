use Rattle.std.proofs.Common.{Ok, Err}
use Rattle.vfs_outside.specs.declared.file_call.FileCall.TheVariants as kinds
use Rattle.sparse_item.proofs.Moved.{slot_goes}
use Rattle.sparse_item.proofs.slot.SlotFile.read_at.Goals as goal

pub returns-in-Ok-clause-goes : goal.returns-in-Ok-clause-goes
returns-in-Ok-clause-goes g c = rw (← c.self.view_is) (slot_goes kinds.Quiet (Ok tt) c.in-Ok.ensures.call c.in-Ok.ensures.told)

pub returns-in-Err-Failed-clause-goes : goal.returns-in-Err-Failed-clause-goes
returns-in-Err-Failed-clause-goes g c = rw (← c.self.view_is) (slot_goes kinds.Quiet (Err c.in-Err-Failed.field-0) c.in-Err-Failed.ensures.call c.in-Err-Failed.ensures.told)
