use Rattle.writeback_queue.proofs.Delays.{computed_delay}
use Rattle.writeback_queue.proofs.delay.delay_after.Goals as goal

pub returns : goal.returns
returns c = computed_delay _ _ _ _ _ _ c.min-doublings.ensures c.max.ensures c.saturating_mul.ensures c.min.ensures
