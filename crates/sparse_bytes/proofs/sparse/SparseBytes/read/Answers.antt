use Rattle.std.proofs.Common.{arith}
use Rattle.sparse_bytes.specs.Bytes.{byte_of}
use Rattle.sparse_bytes.proofs.Positions.{held_byte}
use Rattle.sparse_bytes.proofs.Runs.{read_more}
use Rattle.sparse_bytes.proofs.sparse.SparseBytes.read.Goals as goal

pub loop-at-preserved : goal.loop-at-preserved
loop-at-preserved c = record {
  from = omega arith;
  to = omega arith;
  read =
      read_more (byte_of c.args.self.now) c.loop-at.bytes.items c.append.new.out.items c.block-held.result.now c.args.pos c.loop-at.at c.part_len-n.result c.loop-at.invariant.from
      (λ i lt. held_byte c.args.self.now c.block-held.result.now c.loop-at.at i c.block-held.ensures (omega arith)) c.loop-at.invariant.read c.in_ok-append.ensures;
}
