use Rattle.std.proofs.Common.{◌≡◌, true, false}
use Rattle.item_core.proofs.Stored.{follows}
use Rattle.item_core.proofs.allow.is_legal.Goals as goal

pub returns-then-not-allows : goal.returns-then-not-allows
returns-then-not-allows c = (
  λ no. absurd (let lie : false ≡ true = no in cc),
  λ legal. rw c.if-not-allows.true at (c.allows.ensures.1 (follows c.args.entries.now c.loop-index.index c.index-entries-index.result legal c.loop-index-test.true c.index-entries-index.is)),
)
