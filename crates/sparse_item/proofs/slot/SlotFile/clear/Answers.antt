use Rattle.std.proofs.Common.{false, Ok, Err}
use Rattle.vfs_outside.specs.declared.file_call.FileCall.TheVariants as kinds
use Rattle.sparse_item.proofs.Moved.{slot_goes}
use Rattle.sparse_item.proofs.slot.SlotFile.clear.Goals as goal

pub returns-in-Ok-clause-goes : goal.returns-in-Ok-clause-goes
returns-in-Ok-clause-goes g c = rw (← c.self.view_is) (slot_goes (kinds.Cleared false) (Ok tt) c.in-Ok.ensures.call c.in-Ok.ensures.told)

pub returns-in-Err-Failed-clause-goes : goal.returns-in-Err-Failed-clause-goes
returns-in-Err-Failed-clause-goes g c = rw (← c.self.view_is) (slot_goes (kinds.Cleared false) (Err c.in-Err-Failed.field-0) c.in-Err-Failed.ensures.call c.in-Err-Failed.ensures.told)
