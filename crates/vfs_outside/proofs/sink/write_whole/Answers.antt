use Rattle.vfs_outside.proofs.Told.{piece_after}
use Rattle.vfs_outside.proofs.sink.write_whole.Goals as goal

pub loop-rest-preserved : goal.loop-rest-preserved
loop-rest-preserved g c = piece_after _ _ c.loop-rest.invariant.0 c.in-Ok.count _ _ _ c.loop-rest.invariant.1 c.loop-rest.invariant.2 c.in-Ok.ensures.bytes
