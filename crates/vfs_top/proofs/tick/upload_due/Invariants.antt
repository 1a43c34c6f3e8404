use Rattle.std.proofs.Common.{◌≡◌, ◌+◌, ◌-◌, ◌^◌, false}
use Rattle.run_words.specs.Words.{meaning}
use Rattle.vfs_top.specs.Going.{SendsDue}
use Rattle.vfs_top.proofs.tick.upload_due.Given as goal

abbrev pub invariant-loop-alloc : goal.invariant-loop-alloc
invariant-loop-alloc g l = SendsDue g.F.CacheFile.tells g.R.Object.Object.tells (meaning l.run) l.by l.fn.session l.session (g.R.Remote.outside l.fn.remote) (g.R.Remote.outside l.remote) l.ticked × (l.ticked.whole ≡ false)

abbrev pub decreases-loop-alloc : goal.decreases-loop-alloc
decreases-loop-alloc g l = 2 ^ 33 - (l.ticked.uploaded + l.ticked.failed)
