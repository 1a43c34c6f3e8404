use Rattle.vfs_top.proofs.Still.{causes_before}
use Rattle.vfs_top.proofs.start.attach_disk.Goals as goal

pub returns-in-Ok-clause-causes : goal.returns-in-Ok-clause-causes
returns-in-Ok-clause-causes g c = λ moment old new.
    causes_before g.D.File.CacheFile.tells moment old new (g.D.CacheDisk.disk c.args.disk.now) (g.D.CacheDisk.disk c.attach.new.self) (g.D.CacheDisk.disk c.check_empty.new.disk) c.check_empty.result c.attach.ensures.fault.later
    (λ kept slot. c.attach.ensures.told (g.met.D.CacheDisk.told_by_files kept) slot) (c.check_empty.ensures.causes moment old new)
