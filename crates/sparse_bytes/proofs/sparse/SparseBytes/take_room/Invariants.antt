use Rattle.std.proofs.Common.{◌-◌, ◌≤◌}
use Rattle.sparse_bytes.specs.Bytes.{byte_of, HasBytes}
use Rattle.sparse_bytes.specs.Blocks.{HasRoom}
use Rattle.sparse_bytes.proofs.sparse.SparseBytes.take_room.Given as goal

abbrev pub invariant-loop-at : goal.invariant-loop-at
invariant-loop-at l = record {
  from : l.pos ≤ l.at;
  to : l.at ≤ l.end;
  same : HasBytes l.self (byte_of l.initial.self);
  room : HasRoom l.self l.pos l.at;
}

abbrev pub decreases-loop-at : goal.decreases-loop-at
decreases-loop-at l = l.end - l.at
