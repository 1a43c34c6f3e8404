use Rattle.std.proofs.Common.{length}
use Rattle.remote_memory.proofs.below.+rest_below.Given as goal

abbrev pub decreases-rest_below : goal.decreases-rest_below
decreases-rest_below l = length l.dir.now
