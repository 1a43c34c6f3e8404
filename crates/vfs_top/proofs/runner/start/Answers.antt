use Rattle.std.proofs.Common.{[], ap, arith, inl, inr, map, refl}
use Rattle.run_words.specs.Words.{meaning}
use Rattle.vfs_top.specs.Epoch.{epoch_of}
use Rattle.vfs_top.proofs.Breaking.{all_before, some_before, starved_before}
use Rattle.vfs_top.proofs.runner.start.Goals as goal

pub returns-in-Ok-clause-all : goal.returns-in-Ok-clause-all
returns-in-Ok-clause-all g c = λ e. let a = c.attach.ensures in
    all_before g.D.File.CacheFile.tells g.R.Object.Object.tells (meaning c.args.run.now) _ _ _ refl [] a.faults a.changes a.handed a.disk a.still _ _ c.args.lines.now _ (c.run_script.ensures.all e)

pub returns-in-Ok-clause-some : goal.returns-in-Ok-clause-some
returns-in-Ok-clause-some g c = λ e. let a = c.attach.ensures in
    inr (some_before g.D.File.CacheFile.tells g.R.Object.Object.tells (meaning c.args.run.now) _ _ _ refl [] a.faults a.changes a.handed a.disk a.still _ _ c.args.lines.now _ (c.run_script.ensures.some e))

pub returns-in-Ok-clause-starved : goal.returns-in-Ok-clause-starved
returns-in-Ok-clause-starved g c = λ e. let a = c.attach.ensures in
    starved_before g.D.File.CacheFile.tells g.R.Object.Object.tells (meaning c.args.run.now) _ _ _ refl [] a.faults a.changes a.handed a.disk a.still _ _ c.args.lines.now _ (c.run_script.ensures.starved e)

pub returns-in-Err-clause-all : goal.returns-in-Err-clause-all
returns-in-Err-clause-all g c = λ e. absurd (c.run_stop.ensures.never e)

pub returns-in-Err-clause-stopped : goal.returns-in-Err-clause-stopped
returns-in-Err-clause-stopped g c = λ a b d. record {
  stop = c.in-Err.stop;
  ends = c.run_stop.ensures.stopped b d;
  cause = c.in-Err.ensures.causes (g.C.Clock.moment c.args.clock.now);
  text = c.run_stop.ensures.text b d;
  none = ap (map epoch_of) c.run_stop.ensures.none;
  still = c.attach.ensures.still;
}

pub returns-in-Err-clause-some : goal.returns-in-Err-clause-some
returns-in-Err-clause-some g c = λ e. inl (record {
  stop = c.in-Err.stop;
  cause = c.in-Err.ensures.causes (g.C.Clock.moment c.args.clock.now);
  text = c.run_stop.ensures.front;
  none = ap (map epoch_of) c.run_stop.ensures.none;
  still = c.attach.ensures.still;
})

pub returns-in-Err-clause-starved : goal.returns-in-Err-clause-starved
returns-in-Err-clause-starved g c = λ e. inr (inl (record {
  stop = c.in-Err.stop;
  cause = c.in-Err.ensures.causes (g.C.Clock.moment c.args.clock.now);
  text = c.run_stop.ensures.front;
  none = ap (map epoch_of) c.run_stop.ensures.none;
  still = c.attach.ensures.still;
}))
