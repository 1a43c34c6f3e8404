use Rattle.std.proofs.Common.{List, length, refl, subst, sym}
use Rattle.one_session.specs.Slots.{Lends}
use Rattle.one_session.specs.State.{History}
use Rattle.run_words.specs.Words.{meaning}
use Rattle.vfs_top.specs.Around.{around}
use Rattle.vfs_top.proofs.Begun.{all_left}
use Rattle.vfs_top.proofs.Joining.{broken_at, gone_at, next_at}
use Rattle.vfs_top.proofs.Told.{to_the_end}
use Rattle.vfs_top.proofs.lines.do_lines.Goals as goal

pub loop-line-init : goal.loop-line-init
loop-line-init g c =
    let o = g.R.Remote.outside c.args.remote.now in
    let d = g.D.CacheDisk.disk c.args.disk.now in (
      all_left g.D.File.CacheFile.tells g.R.Object.Object.tells (meaning c.args.run.now) (around (g.C.Clock.moment c.args.clock.now) o d) (around (g.C.Clock.moment c.first_phase-phase.new.clock) o d)
          (g.K.Sink.written c.args.sink.now) (g.K.Sink.faults c.args.sink.now) c.args.lines.now _ c.args.session.now
          c.first_phase-phase.ensures.by c.first_phase-phase.ensures.before c.first_phase-phase.ensures.later refl refl (c.requires.new o.handed) c.requires.limit c.requires.terms c.requires.none
          c.requires.untouched c.requires.can c.requires.few c.requires.room c.first_phase-phase.ensures.most,
      subst (λ (files : List History). Lends g.D.CacheDisk.tells (length files) d) (sym c.requires.none) c.requires.lends,
    )

pub loop-line-preserved : goal.loop-line-preserved
loop-line-preserved g c = (
  next_at g.D.File.CacheFile.tells g.R.Object.Object.tells (meaning c.args.run.now) _ _ _ c.args.lines.now c.loop-line.line-index c.line-item.result _ _ c.loop-line-test.true c.line-item.is c.loop-line.invariant.0 c.in-Ok.ensures.does,
  c.in-Ok.ensures.lends,
)

pub returns-in-Err-clause-gone : goal.returns-in-Err-clause-gone
returns-in-Err-clause-gone g c =
    broken_at g.D.File.CacheFile.tells g.R.Object.Object.tells (meaning c.args.run.now) _ _ _ c.args.lines.now c.loop-line.line-index c.line-item.result _ _ c.loop-line-test.true c.line-item.is c.in-Err.why c.loop-line.invariant.0 c.in-Err.ensures.does

pub returns-clause-gone : goal.returns-clause-gone
returns-clause-gone g c =
    gone_at g.D.File.CacheFile.tells g.R.Object.Object.tells (meaning c.args.run.now) _ _ c.args.lines.now c.loop-line.line-index c.loop-line.phase _ _ c.write_replies.result c.loop-line-test.false c.loop-line.invariant.0
    (rw (c.records.ensures, to_the_end) at c.write_replies.ensures)
