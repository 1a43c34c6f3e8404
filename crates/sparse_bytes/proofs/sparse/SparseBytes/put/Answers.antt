use Rattle.std.proofs.Common.{◌+◌, ◌-◌, length, arith}
use Rattle.sparse_bytes.specs.Bytes.{block_of}
use Rattle.sparse_bytes.proofs.Positions.{room_for_part}
use Rattle.sparse_bytes.proofs.sparse.SparseBytes.put.Goals as goal

pub put_part-requires-clause-room : goal.put_part-requires-clause-room
put_part-requires-clause-room c =
    room_for_part (λ k. length (block_of c.loop-at.self k)) c.loop-at.at c.part_len-n.result c.part_len-n.ensures.some c.part_len-n.ensures.one_block
    (c.loop-at.invariant.room (c.loop-at.at + (c.part_len-n.result - 1)) (omega arith) (omega arith))
