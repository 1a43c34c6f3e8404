use Rattle.std.proofs.Common.{◌≤◌, ◌++◌, ◌∙◌, ◌∷◌, [], ap, subst, sym, refl, min, ◌-◌, vec_len, vec_capacity, length}
use Rattle.std.specs.List.{AllByRecursion}
use Rattle.vfs_outside.specs.declared.tree.TreeEntry.{TreeEntry}
use Rattle.one_session.specs.Causes.{AreGiven, AreSaved}
use Rattle.one_session.specs.Did.{Did}
use Rattle.one_session.specs.Served.{Knows, Serves, tree_phase}
use Rattle.one_session.specs.Slots.{Lends}
use Rattle.one_session.specs.Standing.{recorded, state_of}
use Rattle.one_session.specs.Steps.{QueuesStep, TakesStep}
use Rattle.one_session.specs.Views.{Shelf, given_all}
use Rattle.one_session.specs.Whole.{IsUpTo}
use Rattle.one_session.proofs.Ending.{lends_files, lends_items}
use Rattle.one_session.proofs.Saving.{files_no_later, saved_after}
use Rattle.one_session.proofs.Served.{serves}
use Rattle.one_session.proofs.session.OneSession.serve.Goals as goal

pub answer-reply-requires-clause-lends : goal.answer-reply-requires-clause-lends
answer-reply-requires-clause-lends g c = lends_items g.D.CacheDisk.tells c.self.inside.store.files.items (g.D.CacheDisk.disk c.args.disk.now)
    (subst (λ s. Lends g.D.CacheDisk.tells (length s.files) (g.D.CacheDisk.disk c.args.disk.now)) (sym c.self.view_is) c.requires.lends)

pub returns-clause-served : goal.returns-clause-served
returns-clause-served g c =
    let kept = g.F.CacheFile.tells in
    let tells = g.O.Object.tells in
    let before = (g.R.Remote.outside c.args.remote.now).handed in
    let faults = (g.D.CacheDisk.disk c.args.disk.now).faults in
    let faults' = (g.D.CacheDisk.disk c.answer-reply.new.disk).faults in
    let line = c.args.line.now in
    let done = recorded line.line c.answer-reply.result in
    let old = state_of c.self.inside.store [] [] 0 in
    let new = state_of c.answer-reply.new.self [] [] 0 in
    let room = min (vec_capacity c.push.new.self - vec_len c.push.new.self) (vec_capacity c.push-2.new.self - vec_len c.push-2.new.self) in
    let has = min (vec_capacity c.self.inside.records - vec_len c.self.inside.records) (vec_capacity c.self.inside.steps - vec_len c.self.inside.steps) in
    let cause = c.answer-reply.ensures.cause line.line in
    let stepped = c.answer-reply.ensures.stepped line.line in
    let given = subst (λ s. AreGiven tells before (given_all s.items)) (sym c.self.view_is) c.requires.given in
    let saved = subst (λ s. AreSaved kept tells before s.files) (sym c.self.view_is) c.requires.saved in
    let tree_later = subst (λ s. AllByRecursion (λ (e : TreeEntry). tree_phase e ≤ c.args.by.who.phase) s.tree) (sym c.self.view_is) c.requires.tree_later in
    let later = subst (λ s. IsUpTo c.args.by s.files) (sym c.self.view_is) c.requires.later in
    let file_later = files_no_later _ _ _ _ c.args.by c.self.invariant.sound later in
    let added = (rw c.unwrap-2.ensures at c.push-2.ensures.items)
    ∙ ap (λ (f : Shelf). c.self.inside.steps.items ++ record { before = f.items; after = c.of-after.result.value.items } ∷ []) c.of-before.ensures
    ∙ ap (λ (f : Shelf). c.self.inside.steps.items ++ record { before = c.self.inside.store.files.items; after = f.items } ∷ []) c.of-after.ensures in (
      done,
      subst (λ s. Serves 1 kept tells before (g.R.Remote.outside c.answer-reply.new.remote).handed c.args.by line done s (state_of c.answer-reply.new.self c.push.new.self.items c.push-2.new.self.items room)) c.self.view_is
          (subst (λ x. Serves 1 kept tells before x c.args.by line done (state_of c.self.inside.store c.self.inside.records.items c.self.inside.steps.items has) (state_of c.answer-reply.new.self c.push.new.self.items c.push-2.new.self.items room)) (sym cause.handed)
          (serves kept tells cause.more before c.args.by line done old new c.self.inside.records.items c.push.new.self.items c.self.inside.steps.items c.push-2.new.self.items has room c.requires.actor refl (rw c.unwrap.ensures at c.push.ensures.items) tree_later file_later
          (subst (λ x. Did 1 (Knows kept tells x) c.args.by line.call done old new) cause.handed (c.answer-reply.ensures.did given saved line.line)))),
      cause,
      subst (λ s. TakesStep c.args.plan.now faults faults' line.call done s (state_of c.answer-reply.new.self c.push.new.self.items c.push-2.new.self.items room)) c.self.view_is
          (record { added = added; placed = stepped.0; does = stepped.1 }),
      subst (λ s. QueuesStep c.args.by line.call done s (state_of c.answer-reply.new.self c.push.new.self.items c.push-2.new.self.items room)) c.self.view_is
          (c.answer-reply.ensures.terms, c.answer-reply.ensures.queued line.line),
    )

pub returns-clause-lends : goal.returns-clause-lends
returns-clause-lends g c = lends_files g.D.CacheDisk.tells c.answer-reply.new.self.files.items (g.D.CacheDisk.disk c.answer-reply.new.disk) c.answer-reply.ensures.lends

pub returns-clause-given : goal.returns-clause-given
returns-clause-given g c = c.answer-reply.ensures.given (subst (λ s. AreGiven g.O.Object.tells (g.R.Remote.outside c.args.remote.now).handed (given_all s.items)) (sym c.self.view_is) c.requires.given)

pub returns-clause-saved : goal.returns-clause-saved
returns-clause-saved g c =
    let kept = g.F.CacheFile.tells in
    let tells = g.O.Object.tells in
    let before = (g.R.Remote.outside c.args.remote.now).handed in
    let line = c.args.line.now in
    let done = recorded line.line c.answer-reply.result in
    let old = state_of c.self.inside.store [] [] 0 in
    let new = state_of c.answer-reply.new.self [] [] 0 in
    let cause = c.answer-reply.ensures.cause line.line in
    let given = subst (λ s. AreGiven tells before (given_all s.items)) (sym c.self.view_is) c.requires.given in
    let saved = subst (λ s. AreSaved kept tells before s.files) (sym c.self.view_is) c.requires.saved in
    subst (λ handed. AreSaved kept tells handed new.files) (sym cause.handed)
    (saved_after kept tells (Knows kept tells (g.R.Remote.outside c.answer-reply.new.remote).handed) cause.more before c.args.by line.call done old new (c.answer-reply.ensures.did given saved line.line) saved)
