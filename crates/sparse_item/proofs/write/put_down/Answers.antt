use Rattle.sparse_item.specs.Moves.{stays}
use Rattle.sparse_item.proofs.Moved.{goes_further, no_step, puts_down}
use Rattle.sparse_item.proofs.write.put_down.Goals as goal

pub returns-in-Ok-commit-clause-ok : goal.returns-in-Ok-commit-clause-ok
returns-in-Ok-commit-clause-ok g c = puts_down c.in-Ok.ensures.meta c.in-Ok-commit.ensures.ok c.in-Ok-commit.ensures.saves c.in-Ok-commit.ensures.at c.settle-written.ensures.moves

pub returns-in-Ok-commit-clause-goes : goal.returns-in-Ok-commit-clause-goes
returns-in-Ok-commit-clause-goes g c = goes_further c.in-Ok-commit.ensures.goes c.settle-written.ensures.goes

pub returns-in_default-clause-moves : goal.returns-in_default-clause-moves
returns-in_default-clause-moves g c = stays (no_step _)

pub returns-in_default-write_meta-clause-moves : goal.returns-in_default-write_meta-clause-moves
returns-in_default-write_meta-clause-moves g c = stays (no_step _)
