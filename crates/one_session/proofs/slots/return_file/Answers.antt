use Rattle.std.proofs.Common.{◌≡◌, ◌∙◌, ap, sym, subst, length}
use Rattle.vfs_outside.specs.Image.{meta_in}
use Rattle.vfs_outside.specs.Slot.{Slot, image}
use Rattle.one_session.proofs.Lending.{back_lends, unmade_blank}
use Rattle.one_session.proofs.slots.return_file.Goals as goal

pub returns-clause-lends : goal.returns-clause-lends
returns-clause-lends g c = back_lends g.D.CacheDisk.tells c.args.n (g.D.File.CacheFile.slot c.into_parts-file.result.file).told (g.D.CacheDisk.disk c.args.disk.now) (g.D.CacheDisk.disk c.give_back.new.self)
    c.requires.lends c.give_back.ensures.out c.give_back.ensures.told
    (λ t. let told = g.met.D.CacheDisk.told_files t in
    ap (λ (s : Slot). meta_in (image s.told)) c.into_parts-file.ensures.file
    ∙ unmade_blank g.D.File.CacheFile.tells g.O.Object.tells c.args.book c.requires.none c.requires.ungiven (c.requires.blank told)
    (subst (λ (s : Slot). length s.told.since ≡ s.calls) c.into_parts-file.ensures.file (g.met.D.File.CacheFile.counted told c.into_parts-file.result.file))
    (c.images.ensures told))

pub returns-clause-faults : goal.returns-clause-faults
returns-clause-faults g c = c.give_back.ensures.faults.0
