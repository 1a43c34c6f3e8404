use Rattle.std.proofs.Common.{arith}
use Rattle.std.proofs.lemmas.Grind.{common_steps}
use Rattle.writeback_queue.proofs.Steps.{seen}
use Rattle.writeback_queue.proofs.book.QueueBook.due.Goals as goal

pub returns : goal.returns
returns c =
    let h = seen _ _ _ _ _ c.self.invariant.0 c.deref.ensures.value c.args.item _ c.member_of.ensures in grind (arith, common_steps, h)
