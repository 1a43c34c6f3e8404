use Rattle.std.proofs.Common.{◌≡◌, ◌++◌, ℕ}
use Rattle.item_core.specs.History.{is_owed}
use Rattle.sparse_item.specs.Item.{Item}
use Rattle.one_session.specs.Queued.{item_rows, row_at}
use Rattle.one_session.proofs.Rest.{rest}
use Rattle.one_session.proofs.queue.rows_of.Given as goal

abbrev pub invariant-loop-index : goal.invariant-loop-index
invariant-loop-index g l = l.rows.items ++ rest (λ (file : ℕ × Item). is_owed file.1.log.past) (λ (file : ℕ × Item). row_at l.queue.terms.write_back l.queue.entries file.0) l.index l.files ≡ item_rows l.queue.terms.write_back l.queue.entries l.files
