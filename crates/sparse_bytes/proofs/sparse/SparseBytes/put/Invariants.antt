use Rattle.std.proofs.Common.{◌-◌, ◌≤◌}
use Rattle.sparse_bytes.specs.Bytes.{byte_of, HasBytes}
use Rattle.sparse_bytes.specs.Blocks.{written_between, HasRoom}
use Rattle.sparse_bytes.proofs.sparse.SparseBytes.put.Given as goal

abbrev pub invariant-loop-at : goal.invariant-loop-at
invariant-loop-at l = record {
  from : l.pos ≤ l.at;
  to : l.at ≤ l.end;
  done : HasBytes l.self (written_between (byte_of l.initial.self) l.pos l.payload l.pos l.at);
  room : HasRoom l.self l.pos l.end;
}

abbrev pub decreases-loop-at : goal.decreases-loop-at
decreases-loop-at l = l.end - l.at
