use Rattle.sparse_item.specs.Moves.{stays}
use Rattle.sparse_item.proofs.Moved.{no_step, settle_done, settle_failed}
use Rattle.sparse_item.proofs.settle.settle.Goals as goal

pub returns-in_default-clause-moves : goal.returns-in_default-clause-moves
returns-in_default-clause-moves g c = stays (no_step _)

pub returns-in-Ok-clause-moves : goal.returns-in-Ok-clause-moves
returns-in-Ok-clause-moves g c = settle_done c.in-Some.is c.as_slice.ensures c.in-Ok.ensures.call c.without_intent.ensures.meta

pub returns-in-Err-clause-moves : goal.returns-in-Err-clause-moves
returns-in-Err-clause-moves g c = settle_failed (Unit {0}) c.in-Err.why c.in-Some.is c.as_slice.ensures c.in-Err.ensures.call

pub returns-in-Err-clause-calls : goal.returns-in-Err-clause-calls
returns-in-Err-clause-calls g c none = let e = c.in-Some.is in cc
