use Rattle.std.proofs.Common.{◌≤◌, ◌-◌}
use Rattle.sparse_item.specs.Fetching.{Beside, Puts}
use Rattle.sparse_item.specs.Moves.{GoesOn}
use Rattle.sparse_item.proofs.store.put_runs.Given as goal

abbrev pub invariant-loop-at : goal.invariant-loop-at
invariant-loop-at g l = record {
  puts : Puts g.F.CacheFile.tells l.here l.block l.at l.initial.slot l.slot;
  beside : Beside g.F.CacheFile.tells l.here l.initial.slot l.slot;
  goes : GoesOn g.F.CacheFile.tells l.initial.slot l.slot;
  from : l.block.pos ≤ l.at;
  to : l.at ≤ l.end;
}

abbrev pub decreases-loop-at : goal.decreases-loop-at
decreases-loop-at g l = l.end - l.at
