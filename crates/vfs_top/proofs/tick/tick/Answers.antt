use Rattle.std.proofs.Common.{◌∙◌, ◌+◌, ap, arith, length, sym}
use Rattle.vfs_names.specs.declared.who.By.{By}
use Rattle.run_words.specs.Words.{meaning}
use Rattle.vfs_top.specs.Around.{around}
use Rattle.vfs_top.specs.Event.{main_at, maker_at}
use Rattle.vfs_top.specs.Going.{now}
use Rattle.vfs_top.specs.declared.write.Unwritten.TheVariants.{NoMemory}
use Rattle.vfs_top.proofs.Joining.{past_next, stops_here}
use Rattle.vfs_top.proofs.Ticking.{is_whole, starved, tick_broken, tick_ends}
use Rattle.vfs_top.proofs.Told.{to_the_end}
use Rattle.vfs_top.proofs.tick.tick.Goals as goal

pub returns-in-Err-clause-ticks : goal.returns-in-Err-clause-ticks
returns-in-Err-clause-ticks g c = λ disk start lines left u. (tt, stops_here g.F.CacheFile.tells g.R.Object.Object.tells (meaning c.args.run.now) start (now c.args.session.now (g.K.Sink.written c.args.sink.now) (g.K.Sink.faults c.args.sink.now) (around (g.C.Clock.moment c.args.clock.now) (g.R.Remote.outside c.args.remote.now) disk)) lines _ c.args.phase.now _ _ _ tt u (rw (c.records-records.ensures, to_the_end) at c.in-Err.ensures))

pub upload_due-ticked-requires-clause-past : goal.upload_due-ticked-requires-clause-past
upload_due-ticked-requires-clause-past g c = past_next c.args.session.now c.args.phase.now.by c.main_at-by.result (omega (arith, ap (λ (b : By). b.who.phase) c.main_at-by.ensures)) (omega (arith, ap (λ (b : By). b.now) c.main_at-by.ensures, c.requires.clock, c.now-moment.ensures.later)) c.requires.past

pub returns-then-ticked-clause-ticks : goal.returns-then-ticked-clause-ticks
returns-then-ticked-clause-ticks g c = λ disk start lines left u. (
  tt,
  tick_broken g.F.CacheFile.tells g.R.Object.Object.tells (meaning c.args.run.now) start (now c.args.session.now (g.K.Sink.written c.args.sink.now) (g.K.Sink.faults c.args.sink.now) (around (g.C.Clock.moment c.args.clock.now) (g.R.Remote.outside c.args.remote.now) disk)) lines left c.args.line (g.C.Clock.moment c.now-moment.new.self) c.args.phase.now c.main_at-by.result c.upload_due-ticked.new.session (g.R.Remote.outside c.upload_due-ticked.new.remote) c.upload_due-ticked.result
      (g.K.Sink.written c.write_replies.new.sink) (g.K.Sink.faults c.write_replies.new.sink) u (c.main_at-by.ensures ∙ ap (main_at (c.args.phase.now.by.who.phase + 1)) (sym c.now-moment.ensures.moment)) (omega (arith, c.now-moment.ensures.later, c.now-moment.ensures.moment)) c.upload_due-ticked.ensures.due
      (rw (c.records-records.ensures, to_the_end) at c.in-Ok.ensures) _ _ NoMemory (starved _ _ _),
)

pub returns-clause-ticks : goal.returns-clause-ticks
returns-clause-ticks g c = λ disk start lines left u. tick_ends g.F.CacheFile.tells g.R.Object.Object.tells (meaning c.args.run.now) start (now c.args.session.now (g.K.Sink.written c.args.sink.now) (g.K.Sink.faults c.args.sink.now) (around (g.C.Clock.moment c.args.clock.now) (g.R.Remote.outside c.args.remote.now) disk)) lines left c.args.line (g.C.Clock.moment c.now-moment.new.self) c.args.phase.now c.main_at-by.result c.upload_due-ticked.new.session (g.R.Remote.outside c.upload_due-ticked.new.remote) c.upload_due-ticked.result
    (g.K.Sink.written c.write_replies.new.sink) (g.K.Sink.faults c.write_replies.new.sink) u (c.main_at-by.ensures ∙ ap (main_at (c.args.phase.now.by.who.phase + 1)) (sym c.now-moment.ensures.moment)) (omega (arith, c.now-moment.ensures.later, c.now-moment.ensures.moment)) c.upload_due-ticked.ensures.due
    (rw (c.records-records.ensures, to_the_end) at c.in-Ok.ensures) _ _ _ c.write_ticked.result (c.maker_at.ensures ∙ ap (maker_at (c.main_at-by.result.who.phase + 1)) (sym c.now-moment.ensures.moment)) (ap length c.records-records.ensures) (omega (arith, c.now-moment.ensures.most, c.now-moment.ensures.moment)) (is_whole c.upload_due-ticked.result.whole c.if-not-ticked.false) c.write_ticked.ensures
