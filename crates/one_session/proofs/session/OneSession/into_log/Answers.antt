use Rattle.std.proofs.Common.{◌≡◌, refl, subst, sym, [], length}
use Rattle.one_session.specs.Causes.{AreGiven, AreSaved}
use Rattle.one_session.specs.Slots.{ImagesStand, Lends}
use Rattle.one_session.specs.Standing.{state_of}
use Rattle.one_session.specs.Views.{given_all, histories}
use Rattle.one_session.specs.Whole.{IsWhole}
use Rattle.one_session.proofs.Ending.{images_stand, lends_items}
use Rattle.one_session.proofs.Served.{whole}
use Rattle.one_session.proofs.session.OneSession.into_log.Goals as goal

pub into_logs-files-requires-clause-lends : goal.into_logs-files-requires-clause-lends
into_logs-files-requires-clause-lends g c = lends_items g.D.CacheDisk.tells c.self.inside.store.files.items (g.D.CacheDisk.disk c.args.disk.now)
    (subst (λ s. Lends g.D.CacheDisk.tells (length s.files) (g.D.CacheDisk.disk c.args.disk.now)) (sym c.self.view_is) c.requires.lends)

pub returns-clause-told : goal.returns-clause-told
returns-clause-told g c = subst (λ s. s.files ≡ histories s.items) c.self.view_is refl

pub returns-clause-whole : goal.returns-clause-whole
returns-clause-whole g c = subst (λ s. IsWhole 1 s.tree s.files) c.self.view_is (whole (state_of c.self.inside.store [] [] 0) _ c.self.invariant.sound c.into_logs-files.ensures.legal)

pub returns-clause-images : goal.returns-clause-images
returns-clause-images g c = λ told handed given saved. let disk = g.D.CacheDisk.disk c.into_logs-files.new.disk in
    subst (λ s. ImagesStand g.O.Object.tells handed disk s.files) c.self.view_is
    (images_stand g.F.CacheFile.tells g.O.Object.tells (g.met.D.CacheDisk.told_files told) handed c.self.inside.store.files.items disk (c.into_logs-files.ensures.images told)
    (subst (λ s. AreGiven g.O.Object.tells handed (given_all s.items)) (sym c.self.view_is) given)
    (subst (λ s. AreSaved g.F.CacheFile.tells g.O.Object.tells handed s.files) (sym c.self.view_is) saved))
