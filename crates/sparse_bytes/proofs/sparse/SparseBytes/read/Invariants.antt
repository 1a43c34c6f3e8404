use Rattle.std.proofs.Common.{◌≡◌, ◌-◌, ◌≤◌}
use Rattle.sparse_bytes.specs.Bytes.{byte_of, bytes_from}
use Rattle.sparse_bytes.proofs.sparse.SparseBytes.read.Given as goal

abbrev pub invariant-loop-at : goal.invariant-loop-at
invariant-loop-at l = record {
  from : l.pos ≤ l.at;
  to : l.at ≤ l.end;
  read : l.bytes.items ≡ bytes_from (byte_of l.self) l.pos (l.at - l.pos);
}

abbrev pub decreases-loop-at : goal.decreases-loop-at
decreases-loop-at l = l.end - l.at
