use Rattle.std.proofs.Common.{◌≡◌, ◌∙◌, ap, sym, subst, length}
use Rattle.vfs_outside.specs.Disk.{Shelf}
use Rattle.vfs_outside.specs.Slot.{Slot}
use Rattle.vfs_names.specs.declared.who.SlotId.{SlotId}
use Rattle.one_session.proofs.Lending.{stands_back}
use Rattle.one_session.proofs.files.return_item.Goals as goal

pub returns-clause-faults : goal.returns-clause-faults
returns-clause-faults g c = c.give_back.ensures.faults.0

pub returns-clause-stands : goal.returns-clause-stands
returns-clause-stands g c = λ t. let told = g.met.D.CacheDisk.told_files t in
    stands_back g.D.File.CacheFile.tells g.O.Object.tells c.requires.sound.1 c.requires.sound.0 c.args.file ((g.D.CacheDisk.disk c.give_back.new.self).shelf c.args.file.slot_id.0).now c.requires.sound.2 told
    (subst (λ (i : SlotId). ((g.D.CacheDisk.disk c.give_back.new.self).shelf i.0).now ≡ (g.D.File.CacheFile.slot c.into_parts-file.result.file).told) c.slot_id-slot.ensures
    (ap (λ (x : Shelf). x.now) (c.give_back.ensures.told t).here) ∙ ap (λ (s : Slot). s.told) c.into_parts-file.ensures.file)
    (subst (λ (s : Slot). length s.told.since ≡ s.calls) c.into_parts-file.ensures.file (g.met.D.File.CacheFile.counted told c.into_parts-file.result.file))
    (c.images.ensures told)
