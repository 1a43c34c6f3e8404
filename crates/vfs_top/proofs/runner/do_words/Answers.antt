use Rattle.std.proofs.Common.{ap, inl, inr, map, refl}
use Rattle.run_words.specs.Words.{meaning}
use Rattle.vfs_top.specs.Epoch.{epoch_of}
use Rattle.vfs_top.proofs.Breaking.{broken_run, starved_run, starved_stop}
use Rattle.vfs_top.proofs.runner.do_words.Goals as goal

pub returns-in-Ok-clause-done : goal.returns-in-Ok-clause-done
returns-in-Ok-clause-done g c = λ e. record {
  asked = meaning c.in-Ok.job.run;
  script = c.in-Ok.job.script;
  ready = c.in-Ok.ensures.ready;
  all = rw c.lines-lines.ensures at (c.start.ensures.all e);
}

pub returns-in-Ok-clause-stopped : goal.returns-in-Ok-clause-stopped
returns-in-Ok-clause-stopped g c = λ a b d. let s = c.start.ensures.stopped a b d in record {
  stop = s.stop;
  ends = s.ends;
  cause = inr (record { asked = meaning c.in-Ok.job.run; script = c.in-Ok.job.script; ready = c.in-Ok.ensures.ready; cause = s.cause });
  text = s.text;
  none = s.none;
  still = s.still;
}

pub returns-in-Ok-clause-broken : goal.returns-in-Ok-clause-broken
returns-in-Ok-clause-broken g c = λ e. record {
  rose = c.start.ensures.rose e;
  front = broken_run g.D.File.CacheFile.tells g.R.Object.Object.tells _ _ _ (meaning c.in-Ok.job.run) c.in-Ok.job.script _ c.in-Ok.ensures.ready (rw c.lines-lines.ensures at (c.start.ensures.some e));
}

pub returns-in-Ok-clause-starved : goal.returns-in-Ok-clause-starved
returns-in-Ok-clause-starved g c = λ e.
    starved_run g.D.File.CacheFile.tells g.R.Object.Object.tells _ _ _ (meaning c.in-Ok.job.run) c.in-Ok.job.script _ c.in-Ok.ensures.ready (rw c.lines-lines.ensures at (c.start.ensures.starved e))

pub returns-in-Err-NoMemory-clause-starved : goal.returns-in-Err-NoMemory-clause-starved
returns-in-Err-NoMemory-clause-starved g c = λ e.
    starved_stop g.D.File.CacheFile.tells g.R.Object.Object.tells _ _ _ (map epoch_of c.no_memory.result.epochs.items)
    (record { none = ap (map epoch_of) c.no_memory.ensures.none; same = refl; still = record { out = λ slot. refl; told = λ k slot. refl } })
