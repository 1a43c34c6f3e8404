use Rattle.std.proofs.Common.{◌≡◌, ◌∙◌, ap, true}
use Rattle.writeback_queue.specs.History.{is_member}
use Rattle.writeback_queue.specs.Queue.{past_of}
use Rattle.one_session.specs.Queued.{id_of}
use Rattle.one_session.proofs.queue.push_row.Goals as goal

pub row_at-requires : goal.row_at-requires
row_at-requires c = ap (λ n. is_member (past_of c.args.queue.now) (id_of n)) c.in_ok-item.ensures ∙ c.requires c.if-waits.true
