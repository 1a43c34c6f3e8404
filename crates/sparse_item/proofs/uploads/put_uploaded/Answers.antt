use Rattle.sparse_item.specs.Moves.{stays}
use Rattle.sparse_item.proofs.Moved.{no_step}
use Rattle.sparse_item.proofs.uploads.put_uploaded.Goals as goal

pub returns-in_default-clause-moves : goal.returns-in_default-clause-moves
returns-in_default-clause-moves g c = stays (no_step _)

pub returns-in_default-write_meta-clause-moves : goal.returns-in_default-write_meta-clause-moves
returns-in_default-write_meta-clause-moves g c = stays (no_step _)
