use Rattle.std.proofs.Common.{arith, refl}
use Rattle.run_words.specs.Words.{meaning}
use Rattle.vfs_top.specs.Epoch.{epoch_of}
use Rattle.vfs_top.proofs.Ending.{lines_broken, lines_done}
use Rattle.vfs_top.proofs.epoch.run_lines.Goals as goal

pub returns-in-Ok : goal.returns-in-Ok
returns-in-Ok g c = let log = c.into_log-log.ensures in
    lines_done g.D.File.CacheFile.tells g.R.Object.Object.tells (meaning c.args.run.now) _ _ _ c.args.lines.now (epoch_of c.into_log-log.result) _ _ _ c.queue_rows-rows.result (λ rows. rows.items)
    (λ kept slot. c.requires.lends.blank (g.met.D.CacheDisk.told_by_files kept) slot (omega arith)) c.in-Ok.ensures.gone
    (record {
      tree = log.tree;
      files = log.files;
      told = log.told;
      queue = log.queue;
      queued = log.queued;
      records = log.records;
      steps = log.steps;
      whole = log.whole;
      moment = refl;
      remote = refl;
      faults = log.faults;
      back = log.back;
      images = λ kept. log.images (g.met.D.CacheDisk.told_by_files kept);
    })
    c.queue_rows-rows.ensures c.write_end-wrote.ensures

pub returns-in-Err : goal.returns-in-Err
returns-in-Err g c = let log = c.into_log.ensures in
    lines_broken g.D.File.CacheFile.tells g.R.Object.Object.tells (meaning c.args.run.now) _ _ _ c.args.lines.now (epoch_of c.into_log.result) c.in-Err.why
    (λ kept slot. c.requires.lends.blank (g.met.D.CacheDisk.told_by_files kept) slot (omega arith)) c.in-Err.ensures.gone
    (record {
      tree = log.tree;
      files = log.files;
      told = log.told;
      queue = log.queue;
      queued = log.queued;
      records = log.records;
      steps = log.steps;
      whole = log.whole;
      moment = refl;
      remote = refl;
      faults = log.faults;
      back = log.back;
      images = λ kept. log.images (g.met.D.CacheDisk.told_by_files kept);
    })
