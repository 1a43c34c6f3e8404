use Rattle.std.proofs.Common.{◌<◌, ap, sym, subst, length}
use Rattle.one_session.specs.Queued.{IsQueued, owed_in, owed_item}
use Rattle.one_session.specs.Slots.{IsSoundItem, ItemStands}
use Rattle.one_session.specs.State.{item_in}
use Rattle.one_session.specs.Views.{Shelf, histories}
use Rattle.one_session.proofs.Queued.{owed_seen, queued_along}
use Rattle.one_session.proofs.files.Files.into_logs.Goals as goal

pub logs_of-requires-clause-items : goal.logs_of-requires-clause-items
logs_of-requires-clause-items g c = let e = ap (λ v. v.items) c.self.view_is in
    (c.args.self.limit, λ n lt. subst (λ l. IsSoundItem g.F.CacheFile.tells c.args.self.limit n (item_in l n)) (sym e) (c.requires.items n (subst (λ l. n < length l) e lt)))

pub returns-clause-images : goal.returns-clause-images
returns-clause-images g c = let e = ap (λ v. v.items) c.self.view_is in
    λ t n lt. subst (λ l. ItemStands g.O.Object.tells (item_in l n) ((g.D.CacheDisk.disk c.logs_of.new.disk).shelf n).now) e (c.logs_of.ensures.images t n (subst (λ l. n < length l) (sym e) lt))

pub returns-clause-queued : goal.returns-clause-queued
returns-clause-queued g c = subst (λ (v : Shelf). IsQueued v.queue.terms (owed_in (histories v.items)) v.queue.entries) c.self.view_is
    (queued_along c.self.inside.queue.terms (owed_item c.self.inside.files.items) (owed_in (histories c.self.inside.files.items)) c.self.inside.queue.entries (owed_seen c.self.inside.files.items) c.self.invariant.3)
