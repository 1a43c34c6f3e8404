use Rattle.std.proofs.Common.{◌≡◌, true, false}
use Rattle.item_core.proofs.Stored.{no_later}
use Rattle.item_core.proofs.allow.is_timely.Goals as goal

pub returns-then-not-is_no_later : goal.returns-then-not-is_no_later
returns-then-not-is_no_later c = (
  λ no. absurd (let lie : false ≡ true = no in cc),
  λ timely. rw c.if-not-is_no_later.true at (c.is_no_later.ensures.1 (no_later c.args.entries.now c.loop-index.index c.index-entries-index.result timely c.loop-index-test.true c.index-entries-index.is)),
)
