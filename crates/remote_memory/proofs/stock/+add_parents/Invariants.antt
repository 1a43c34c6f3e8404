use Rattle.std.proofs.Common.{length}
use Rattle.remote_memory.proofs.stock.+add_parents.Given as goal

abbrev pub decreases-add_parents : goal.decreases-add_parents
decreases-add_parents l = length l.path.now
