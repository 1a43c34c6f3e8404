use Rattle.std.proofs.Common.{◌≡◌, ◌<◌, ◌≤◌, ◌∙◌, ap, subst, sym}
use Rattle.item_core.specs.History.{is_owed}
use Rattle.item_core.specs.Log.{free}
use Rattle.sparse_item.specs.Item.{Item}
use Rattle.one_session.specs.Calls.{free_in}
use Rattle.one_session.specs.State.{entries_in}
use Rattle.one_session.specs.Views.{histories}
use Rattle.one_session.proofs.Shelves.{not_full, on_ok, seen_found, seen_free, seen_given, seen_limits, seen_moved, seen_one, seen_same}
use Rattle.one_session.proofs.Waiting.{same_queued}
use Rattle.one_session.proofs.files.Files.reserve.Goals as goal

pub returns-clause-room : goal.returns-clause-room
returns-clause-room g c = on_ok c.reserve.result (λ h. subst (λ (x : Item). c.args.n ≤ x.log.spare) (sym (seen_found c.self.inside.files.items c.args.self.now.items (ap (λ v. v.items) c.self.view_is) c.args.item c.index_mut.result.now c.requires.inside c.index_mut.ensures.value c.reserve.new.self)) h) c.reserve.ensures.ok

pub returns-clause-files : goal.returns-clause-files
returns-clause-files g c = seen_same c.self.inside.files.items c.args.self.now.items (ap (λ v. v.items) c.self.view_is) c.args.item c.index_mut.result.now c.requires.inside c.index_mut.ensures.value c.reserve.new.self (ap (λ x. x.log.past) c.reserve.ensures.same) (ap (λ x. x.names) c.reserve.ensures.same)

pub returns-clause-places : goal.returns-clause-places
returns-clause-places g c = seen_moved c.self.inside.files.items c.args.self.now.items (ap (λ v. v.items) c.self.view_is) c.args.item c.index_mut.result.now c.requires.inside c.index_mut.ensures.value
    (λ (old new : Item). new.log.limit ≡ old.log.limit) c.reserve.new.self
    (ap (λ x. x.log.limit) c.reserve.ensures.same)

pub returns-clause-given : goal.returns-clause-given
returns-clause-given g c = seen_given c.self.inside.files.items c.args.self.now.items (ap (λ v. v.items) c.self.view_is) c.args.item c.index_mut.result.now c.requires.inside c.index_mut.ensures.value c.reserve.new.self (ap (λ x. x.pairs) c.reserve.ensures.same)

pub returns-clause-full : goal.returns-clause-full
returns-clause-full g c = λ h. subst (λ n. n < c.args.n)
    (sym (sym (ap (λ v. free_in v.limit (entries_in (histories v.items) c.args.item)) c.self.view_is) ∙ ap (λ l. free_in c.self.inside.limit (entries_in (histories l) c.args.item)) (ap (λ v. v.items) c.self.view_is)
    ∙ seen_free c.self.inside.files.items c.args.self.now.items (ap (λ v. v.items) c.self.view_is) c.args.item c.index_mut.result.now c.requires.inside c.index_mut.ensures.value c.self.inside.limit c.self.invariant.2)) (c.reserve.ensures.full.0 h)

pub invariant_of-self : goal.invariant_of-self
invariant_of-self g c = (c.self.invariant.0, c.self.invariant.1, seen_limits c.self.inside.files.items c.args.self.now.items (ap (λ v. v.items) c.self.view_is) c.args.item c.index_mut.result.now c.requires.inside c.index_mut.ensures.value c.self.inside.limit c.self.invariant.2 c.reserve.new.self (ap (λ x. x.log.limit) c.reserve.ensures.same), same_queued c.self.inside.files.items c.args.self.now.items (ap (λ v. v.items) c.self.view_is) c.args.item c.index_mut.result.now c.requires.inside c.index_mut.ensures.value c.self.inside.queue.terms c.self.inside.queue.entries c.reserve.new.self (ap (λ (x : Item). is_owed x.log.past) c.reserve.ensures.same) c.self.invariant.3, c.self.invariant.4)

pub returns-clause-one : goal.returns-clause-one
returns-clause-one g c = seen_one c.self.inside.files.items c.args.self.now.items (ap (λ v. v.items) c.self.view_is) c.args.item c.index_mut.result.now c.requires.inside c.index_mut.ensures.value c.reserve.new.self

pub returns-clause-free : goal.returns-clause-free
returns-clause-free g c = on_ok c.reserve.result (λ h. subst (λ (x : Item). c.args.n ≤ free x.log) (sym (seen_found c.self.inside.files.items c.args.self.now.items (ap (λ v. v.items) c.self.view_is) c.args.item c.index_mut.result.now c.requires.inside c.index_mut.ensures.value c.reserve.new.self))
    (subst (λ l. c.args.n ≤ free l) (sym (ap (λ x. x.log) c.reserve.ensures.same)) h)) (not_full c.reserve.result c.args.n (free c.index_mut.result.now.log) c.reserve.ensures.full)

pub returns-clause-same : goal.returns-clause-same
returns-clause-same g c = seen_moved c.self.inside.files.items c.args.self.now.items (ap (λ v. v.items) c.self.view_is) c.args.item c.index_mut.result.now c.requires.inside c.index_mut.ensures.value
    (λ (old new : Item). new ≡ record old { log = new.log }) c.reserve.new.self
    (c.reserve.ensures.same ∙ ap (λ l. record c.index_mut.result.now { log = l }) (sym (ap (λ x. x.log) c.reserve.ensures.same)))
