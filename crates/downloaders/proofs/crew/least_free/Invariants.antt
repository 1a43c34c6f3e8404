use Rattle.std.proofs.Common.{◌≡◌, ◌-◌, length}
use Rattle.downloaders.specs.Crew.{free_from, least_free}
use Rattle.downloaders.proofs.crew.least_free.Given as goal

abbrev pub invariant-loop-run : goal.invariant-loop-run
invariant-loop-run l = free_from (length l.members - l.run) l.run l.members ≡ least_free l.members
