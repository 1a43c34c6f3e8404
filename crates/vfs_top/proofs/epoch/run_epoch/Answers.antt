use Rattle.std.proofs.Common.{List, arith, length, refl, subst, sym}
use Rattle.run_words.specs.Words.{meaning}
use Rattle.vfs_top.specs.Around.{around}
use Rattle.vfs_top.specs.Epoch.{epoch_of}
use Rattle.vfs_top.proofs.Ending.{not_started, started}
use Rattle.vfs_top.proofs.epoch.run_epoch.Goals as goal

pub returns-in-Ok : goal.returns-in-Ok
returns-in-Ok g c = started g.D.File.CacheFile.tells g.R.Object.Object.tells (meaning c.args.run.now) _ _ _ _ _ _ _ _ c.args.lines.now _ _ c.in-Ok.ensures c.run_lines.ensures

pub returns-in-Err : goal.returns-in-Err
returns-in-Err g c =
    let o = g.R.Remote.outside c.args.remote.now in
    let log = c.into_log.ensures in
    not_started g.D.File.CacheFile.tells g.R.Object.Object.tells (meaning c.args.run.now) (around (g.C.Clock.moment c.args.clock.now) o (g.D.CacheDisk.disk c.args.disk.now)) _ _ _ _ _ c.args.lines.now c.args.session (epoch_of c.into_log.result) c.in-Err.why
    (λ kept slot. c.requires.lends.blank (g.met.D.CacheDisk.told_by_files kept) slot (omega arith))
    (c.requires.new o.handed) c.requires.limit c.requires.terms c.requires.none c.requires.untouched c.requires.can c.requires.few c.requires.room
    (record {
      tree = log.tree;
      files = log.files;
      told = log.told;
      queue = log.queue;
      queued = log.queued;
      records = log.records;
      steps = log.steps;
      whole = log.whole;
      moment = refl;
      remote = refl;
      faults = log.faults;
      back = log.back;
      images = λ kept. log.images (g.met.D.CacheDisk.told_by_files kept);
    })
    c.in-Err.ensures
