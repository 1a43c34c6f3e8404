use Rattle.std.proofs.Common.{drop, length}
use Rattle.one_session.specs.Slots.{Lends}
use Rattle.run_words.specs.Words.{meaning}
use Rattle.vfs_top.specs.Around.{around}
use Rattle.vfs_top.specs.Going.{IsUnderWay, now}
use Rattle.vfs_top.proofs.lines.do_lines.Given as goal

abbrev pub invariant-loop-line : goal.invariant-loop-line
invariant-loop-line g l =
    IsUnderWay g.D.File.CacheFile.tells g.R.Object.Object.tells (meaning l.run)
    (now l.fn.session (g.K.Sink.written l.fn.sink) (g.K.Sink.faults l.fn.sink) (around (g.C.Clock.moment l.fn.clock) (g.R.Remote.outside l.fn.remote) (g.D.CacheDisk.disk l.fn.disk)))
    l.lines (drop l.line-index l.lines) l.phase
    (now l.session (g.K.Sink.written l.sink) (g.K.Sink.faults l.sink) (around (g.C.Clock.moment l.clock) (g.R.Remote.outside l.remote) (g.D.CacheDisk.disk l.disk)))
    × Lends g.D.CacheDisk.tells (length l.session.files) (g.D.CacheDisk.disk l.disk)
