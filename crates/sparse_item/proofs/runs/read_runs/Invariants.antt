use Rattle.std.proofs.Common.{◌≤◌, ◌-◌, Option}
use Rattle.item_meta.specs.declared.meta.Meta.{Meta}
use Rattle.sparse_item.specs.Moves.{GoesOn, Moves}
use Rattle.sparse_item.specs.Reading.{Fills, SameData}
use Rattle.sparse_item.proofs.runs.read_runs.Given as goal

abbrev pub invariant-loop-at : goal.invariant-loop-at
invariant-loop-at g l = record {
  fills : Fills g.F.CacheFile.tells l.initial.slot l.here l.pos l.at l.initial.into l.into;
  data_is : SameData g.F.CacheFile.tells l.initial.slot l.slot;
  moves : (meta : Option Meta) → Moves g.F.CacheFile.tells meta l.initial.slot meta l.slot;
  goes : GoesOn g.F.CacheFile.tells l.initial.slot l.slot;
  from : l.pos ≤ l.at;
  to : l.at ≤ l.end;
}

abbrev pub decreases-loop-at : goal.decreases-loop-at
decreases-loop-at g l = l.end - l.at
