use Rattle.vfs_top.proofs.Still.{remote_cause}
use Rattle.vfs_top.proofs.start.attach.Goals as goal

pub returns-in-Ok-clause-causes : goal.returns-in-Ok-clause-causes
returns-in-Ok-clause-causes g c = λ moment. c.attach_disk.ensures.causes moment (g.R.Remote.outside c.args.remote.now) (g.R.Remote.outside c.attach_remote.new.remote)

pub returns-in-Err-clause-causes : goal.returns-in-Err-clause-causes
returns-in-Err-clause-causes g c = λ moment. remote_cause g.D.File.CacheFile.tells moment (g.R.Remote.outside c.args.remote.now) (g.R.Remote.outside c.attach_remote.new.remote) (g.D.CacheDisk.disk c.args.disk.now) (g.D.CacheDisk.disk c.args.disk.now) c.in-Err.stop c.in-Err.ensures.causes
