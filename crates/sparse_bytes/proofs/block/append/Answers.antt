use Rattle.std.proofs.Common.{arith}
use Rattle.sparse_bytes.proofs.Runs.{appended}
use Rattle.sparse_bytes.proofs.block.append.Goals as goal

pub returns : goal.returns
returns c =
    appended c.args.out.now.items c.args.block.now c.extend_from_slice.new.self.items c.resize.new.self.items c.args.start c.args.n c.min-low.result c.min-high.result _ _
    c.min-low.ensures c.min-high.ensures c.in_ok-extend_from_slice.ensures.items c.extend_from_slice.new.self.ok.0 (omega arith) c.in_ok-resize.ensures.items
