use Rattle.std.proofs.Common.{arith}
use Rattle.vfs_top.proofs.Still.{some_slot}
use Rattle.vfs_top.proofs.start.check_empty.Goals as goal

pub returns-in-Ok-clause-causes : goal.returns-in-Ok-clause-causes
returns-in-Ok-clause-causes g c = λ moment old new kept.
    some_slot (g.D.CacheDisk.disk c.args.disk.now) c.in-Ok.slots.items c.requires.free (c.in-Ok.ensures.all (g.met.D.CacheDisk.told_by_files kept)) (grind (arith, c.is_empty.ensures, c.if-is_empty.false))
