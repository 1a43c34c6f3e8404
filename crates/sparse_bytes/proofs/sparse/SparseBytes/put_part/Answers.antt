use Rattle.std.proofs.Common.{ℕ, ◌+◌, ◌-◌, ◌%◌, Vec, Global, arith}
use Rattle.std.specs.Vec.{with_items}
use borrow.Rule.Slice.PartMut.{put_mid}
use Rattle.sparse_bytes.specs.declared.sparse.SparseBytes.{SparseBytes}
use Rattle.sparse_bytes.proofs.Positions.{part_put}
use Rattle.sparse_bytes.proofs.sparse.SparseBytes.put_part.Goals as goal

pub returns-in-Some-clause-bytes : goal.returns-in-Some-clause-bytes
returns-in-Some-clause-bytes c =
    let size : ℕ = c.args.at % 4096 + c.args.n - c.args.at % 4096 in
    let block : Vec ℕ Global = with_items c.in-Some.block.now (put_mid (c.args.at % 4096) size c.deref_mut.result.now c.put.new.part) in
    let after : SparseBytes = record { alloc = c.args.self.now.alloc; blocks = c.get_mut.follows.lender block } in
    part_put c.args.self.now after c.in-Some.block.now c.deref_mut.result.now c.put.new.part c.args.payload.now c.args.at c.args.n c.args.from size (omega arith) c.requires.one_block
    c.requires.room c.requires.start c.in-Some.ensures.value c.deref_mut.ensures.value c.put.auto.part c.put.ensures (c.get_mut.follows.holds block)
