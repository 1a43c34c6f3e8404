use Rattle.std.proofs.Common.{◌%◌, ◌/◌}
use Rattle.sparse_bytes.specs.declared.sparse.SparseBytes.{SparseBytes}
use Rattle.sparse_bytes.proofs.Positions.{bytes_cut, block_cut, no_block_cut}
use Rattle.sparse_bytes.proofs.sparse.SparseBytes.cut.Goals as goal

pub returns-in-Some : goal.returns-in-Some
returns-in-Some c =
    let dropped : SparseBytes = c.drop_blocks_from.new.self in
    let after : SparseBytes = record { alloc = dropped.alloc; blocks = c.get_mut.follows.lender c.truncate.new.self } in
    bytes_cut c.args.self.now dropped after c.args.n c.div_ceil.result c.div_ceil.ensures c.drop_blocks_from.ensures.below c.drop_blocks_from.ensures.gone
    (block_cut dropped after (c.args.n / 4096) (c.args.n % 4096) c.in-Some.block.now c.truncate.new.self c.in-Some.ensures.value (c.get_mut.follows.holds c.truncate.new.self)
    c.truncate.ensures.items)

pub returns-in_default : goal.returns-in_default
returns-in_default c =
    let dropped : SparseBytes = c.drop_blocks_from.new.self in
    let after : SparseBytes = record { alloc = dropped.alloc; blocks = c.get_mut.follows.lender-at-none } in
    bytes_cut c.args.self.now dropped after c.args.n c.div_ceil.result c.div_ceil.ensures c.drop_blocks_from.ensures.below c.drop_blocks_from.ensures.gone
    (no_block_cut dropped after (c.args.n / 4096) (c.args.n % 4096) c.in_default.ensures.value c.get_mut.follows.holds-at-none)
