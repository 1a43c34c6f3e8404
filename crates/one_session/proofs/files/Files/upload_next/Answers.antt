use Rattle.std.proofs.Common.{◌≡◌, ◌<◌, ◌≤◌, ◌^◌, ◌++◌, ◌∙◌, ap, append_assoc, append-nil, arith, length, refl, reverse, set, subst, sym, true, ℕ, List, Err, IsOk}
use Rattle.vfs_names.specs.declared.refusal.Refusal.TheVariants.{HistoryFull}
use Rattle.item_core.specs.History.{is_kept}
use Rattle.item_upload.specs.Whole.{is_saved}
use Rattle.sparse_item.specs.Item.{Item}
use Rattle.sparse_item.specs.Sound.{is_begun}
use Rattle.writeback_queue.specs.declared.entry.QueueKind.TheVariants.{Take}
use Rattle.writeback_queue.specs.declared.entry.QueueTerms.{QueueTerms}
use Rattle.writeback_queue.specs.Legal.{IsLegal, IsNext}
use Rattle.writeback_queue.specs.Queue.{IsIdle, Queue, entry, past_of}
use Rattle.one_session.specs.Queued.{IsQueued, id_of, owed_item, settled_by, turn_by}
use Rattle.one_session.specs.Sending.{Sends}
use Rattle.one_session.specs.Turns.{IfStored, IsGoal, TakesTurn, ended_of}
use Rattle.one_session.proofs.Queued.{put}
use Rattle.one_session.proofs.Shelves.{seen_item, seen_limits, seen_moved, seen_one}
use Rattle.one_session.proofs.Turning.{idle, next_inside, next_member, next_owed, next_up, turned, under_way}
use Rattle.one_session.proofs.Waiting.{put_queued, seen_owed}
use Rattle.one_session.proofs.files.Files.upload_next.Goals as goal

pub index_mut-file-requires : goal.index_mut-file-requires
index_mut-file-requires g c = omega (arith, next_inside c.self.inside.files.items c.self.inside.queue.terms c.self.inside.queue.entries _ c.args.by.now c.reserve.new.self c.self.invariant.3 c.in-Ok.ensures.ok c.in-Some.item c.in-Some.ensures.next)

pub send-turn-requires-clause-owed : goal.send-turn-requires-clause-owed
send-turn-requires-clause-owed g c = seen_owed c.self.inside.files.items c.args.self.now.items (ap (λ v. v.items) c.self.view_is) c.in-Some.item.0 c.index_mut-file.result.now (subst (λ (l : List Item). c.in-Some.item.0 < length l) (ap (λ v. v.items) c.self.view_is) (next_inside c.self.inside.files.items c.self.inside.queue.terms c.self.inside.queue.entries _ c.args.by.now c.reserve.new.self c.self.invariant.3 c.in-Ok.ensures.ok c.in-Some.item c.in-Some.ensures.next)) c.index_mut-file.ensures.value ∙ next_owed c.self.inside.files.items c.self.inside.queue.terms c.self.inside.queue.entries _ c.args.by.now c.reserve.new.self c.self.invariant.3 c.in-Ok.ensures.ok c.in-Some.item c.in-Some.ensures.next

pub send-turn-requires-clause-kept : goal.send-turn-requires-clause-kept
send-turn-requires-clause-kept g c = subst (λ (x : Item). is_kept x.log.past ≡ true) (seen_item c.self.inside.files.items c.args.self.now.items (ap (λ v. v.items) c.self.view_is) c.in-Some.item.0 c.index_mut-file.result.now (subst (λ (l : List Item). c.in-Some.item.0 < length l) (ap (λ v. v.items) c.self.view_is) (next_inside c.self.inside.files.items c.self.inside.queue.terms c.self.inside.queue.entries _ c.args.by.now c.reserve.new.self c.self.invariant.3 c.in-Ok.ensures.ok c.in-Some.item c.in-Some.ensures.next)) c.index_mut-file.ensures.value)
    (c.requires.kept c.in-Some.item.0 (subst (λ (l : List Item). c.in-Some.item.0 < length l) (ap (λ v. v.items) c.self.view_is) (next_inside c.self.inside.files.items c.self.inside.queue.terms c.self.inside.queue.entries _ c.args.by.now c.reserve.new.self c.self.invariant.3 c.in-Ok.ensures.ok c.in-Some.item c.in-Some.ensures.next)))

pub send-turn-requires-clause-begun : goal.send-turn-requires-clause-begun
send-turn-requires-clause-begun g c = subst (λ (x : Item). is_begun x.log.past ≡ true) (seen_item c.self.inside.files.items c.args.self.now.items (ap (λ v. v.items) c.self.view_is) c.in-Some.item.0 c.index_mut-file.result.now (subst (λ (l : List Item). c.in-Some.item.0 < length l) (ap (λ v. v.items) c.self.view_is) (next_inside c.self.inside.files.items c.self.inside.queue.terms c.self.inside.queue.entries _ c.args.by.now c.reserve.new.self c.self.invariant.3 c.in-Ok.ensures.ok c.in-Some.item c.in-Some.ensures.next)) c.index_mut-file.ensures.value)
    (c.requires.begun c.in-Some.item.0 (subst (λ (l : List Item). c.in-Some.item.0 < length l) (ap (λ v. v.items) c.self.view_is) (next_inside c.self.inside.files.items c.self.inside.queue.terms c.self.inside.queue.entries _ c.args.by.now c.reserve.new.self c.self.invariant.3 c.in-Ok.ensures.ok c.in-Some.item c.in-Some.ensures.next)))

pub settle_turn-requires-clause-uploads : goal.settle_turn-requires-clause-uploads
settle_turn-requires-clause-uploads g c = under_way c.self.inside.queue.terms (owed_item c.self.inside.files.items) c.self.inside.queue.entries c.self.invariant.3 c.args.by c.in-Some.item.0 (next_member c.self.inside.files.items c.self.inside.queue.terms c.self.inside.queue.entries _ c.args.by.now c.reserve.new.self c.self.invariant.3 c.in-Ok.ensures.ok c.in-Some.item c.in-Some.ensures.next) c.take.new.self.entries
    (c.in-Some.ensures.entries ∙ ap (λ (x : Queue). x.entries ++ entry c.args.by (Take c.in-Some.item)) c.in-Ok.ensures.ok)

pub invariant_of-self-in-Some : goal.invariant_of-self-in-Some
invariant_of-self-in-Some g c =
    let saved = is_saved (ended_of c.send-turn.result) in
    let after = c.settle_turn.new.queue in
    let terms : after.terms ≡ c.self.inside.queue.terms = c.settle_turn.ensures.terms ∙ c.in-Some.ensures.terms ∙ ap (λ (x : Queue). x.terms) c.in-Ok.ensures.ok in
    let entered : after.entries ≡ (c.self.inside.queue.entries ++ entry c.args.by (Take c.in-Some.item)) ++ settled_by c.args.by c.in-Some.item.0 saved =
    c.settle_turn.ensures.entries ∙ ap (λ b. c.take.new.self.entries ++ settled_by c.args.by c.in-Some.item.0 b) c.is_stored.ensures
    ∙ ap (λ l. l ++ settled_by c.args.by c.in-Some.item.0 saved) (c.in-Some.ensures.entries ∙ ap (λ (x : Queue). x.entries ++ entry c.args.by (Take c.in-Some.item)) c.in-Ok.ensures.ok) in
    let queued = turned c.self.inside.queue.terms (owed_item c.self.inside.files.items) c.self.inside.queue.entries c.self.invariant.3 c.args.by c.in-Some.item.0 (next_member c.self.inside.files.items c.self.inside.queue.terms c.self.inside.queue.entries _ c.args.by.now c.reserve.new.self c.self.invariant.3 c.in-Ok.ensures.ok c.in-Some.item c.in-Some.ensures.next) saved after.entries entered
    (subst (λ t. IsLegal t (reverse after.entries)) terms c.settle_turn.ensures.legal) in (
      c.self.invariant.0,
      c.self.invariant.1,
      seen_limits c.self.inside.files.items c.args.self.now.items (ap (λ v. v.items) c.self.view_is) c.in-Some.item.0 c.index_mut-file.result.now (subst (λ (l : List Item). c.in-Some.item.0 < length l) (ap (λ v. v.items) c.self.view_is) (next_inside c.self.inside.files.items c.self.inside.queue.terms c.self.inside.queue.entries _ c.args.by.now c.reserve.new.self c.self.invariant.3 c.in-Ok.ensures.ok c.in-Some.item c.in-Some.ensures.next)) c.index_mut-file.ensures.value c.self.inside.limit c.self.invariant.2 c.send-turn.new.file c.send-turn.ensures.sends.same.limit,
      subst (λ t. IsQueued t (owed_item (set c.self.inside.files.items c.in-Some.item.0 c.send-turn.new.file)) after.entries) (sym terms)
          (put_queued c.self.inside.files.items c.args.self.now.items (ap (λ v. v.items) c.self.view_is) c.in-Some.item.0 c.index_mut-file.result.now (subst (λ (l : List Item). c.in-Some.item.0 < length l) (ap (λ v. v.items) c.self.view_is) (next_inside c.self.inside.files.items c.self.inside.queue.terms c.self.inside.queue.entries _ c.args.by.now c.reserve.new.self c.self.invariant.3 c.in-Ok.ensures.ok c.in-Some.item c.in-Some.ensures.next)) c.index_mut-file.ensures.value c.self.inside.queue.terms after.entries c.send-turn.new.file
          (subst (λ b. IsQueued c.self.inside.queue.terms (put (owed_item c.self.inside.files.items) c.in-Some.item.0 b) after.entries) (sym c.send-turn.ensures.sends.owed) queued)),
      subst (λ (t : QueueTerms). t.write_back ≤ 2 ^ 62) (sym terms) c.self.invariant.4,
    )

pub invariant_of-self-in-None : goal.invariant_of-self-in-None
invariant_of-self-in-None g c =
    let terms = c.in-None.ensures.terms ∙ ap (λ (x : Queue). x.terms) c.in-Ok.ensures.ok in
    let entries = c.in-None.ensures.entries ∙ append-nil c.reserve.new.self.entries ∙ ap (λ (x : Queue). x.entries) c.in-Ok.ensures.ok in (
      c.self.invariant.0,
      c.self.invariant.1,
      c.self.invariant.2,
      subst (λ t. IsQueued t (owed_item c.self.inside.files.items) c.take.new.self.entries) (sym terms) (subst (IsQueued c.self.inside.queue.terms (owed_item c.self.inside.files.items)) (sym entries) c.self.invariant.3),
      subst (λ (t : QueueTerms). t.write_back ≤ 2 ^ 62) (sym terms) c.self.invariant.4,
    )

pub returns-in-Some-clause-turn : goal.returns-in-Some-clause-turn
returns-in-Some-clause-turn g c =
    let saved = is_saved (ended_of c.send-turn.result) in
    let o = g.R.Remote.outside c.args.remote.now in
    let o' = g.R.Remote.outside c.send-turn.new.remote in
    let full = c.args.ready ≡ Err HistoryFull in
    let turn = turn_by c.args.by c.in-Some.item.0 saved in
    let entered = c.settle_turn.ensures.entries ∙ ap (λ b. c.take.new.self.entries ++ settled_by c.args.by c.in-Some.item.0 b) c.is_stored.ensures
    ∙ ap (λ l. l ++ settled_by c.args.by c.in-Some.item.0 saved) (c.in-Some.ensures.entries ∙ ap (λ (x : Queue). x.entries ++ entry c.args.by (Take c.in-Some.item)) c.in-Ok.ensures.ok)
    ∙ append_assoc c.self.inside.queue.entries (entry c.args.by (Take c.in-Some.item)) (settled_by c.args.by c.in-Some.item.0 saved)
    ∙ ap (λ (x : Queue). x.entries ++ turn) (ap (λ v. v.queue) c.self.view_is) in
    record {
      item = c.in-Some.item.0;
      inside = subst (λ (l : List Item). c.in-Some.item.0 < length l) (ap (λ v. v.items) c.self.view_is) (next_inside c.self.inside.files.items c.self.inside.queue.terms c.self.inside.queue.entries _ c.args.by.now c.reserve.new.self c.self.invariant.3 c.in-Ok.ensures.ok c.in-Some.item c.in-Some.ensures.next);
      next = subst (λ (x : Queue). IsNext x.terms.write_back (past_of x) c.args.by.now c.in-Some.item) (ap (λ v. v.queue) c.self.view_is) (next_up c.self.inside.files.items c.self.inside.queue.terms c.self.inside.queue.entries _ c.args.by.now c.reserve.new.self c.self.invariant.3 c.in-Ok.ensures.ok c.in-Some.item c.in-Some.ensures.next);
      one = seen_one c.self.inside.files.items c.args.self.now.items (ap (λ v. v.items) c.self.view_is) c.in-Some.item.0 c.index_mut-file.result.now (subst (λ (l : List Item). c.in-Some.item.0 < length l) (ap (λ v. v.items) c.self.view_is) (next_inside c.self.inside.files.items c.self.inside.queue.terms c.self.inside.queue.entries _ c.args.by.now c.reserve.new.self c.self.invariant.3 c.in-Ok.ensures.ok c.in-Some.item c.in-Some.ensures.next)) c.index_mut-file.ensures.value c.send-turn.new.file;
      sends = seen_moved c.self.inside.files.items c.args.self.now.items (ap (λ v. v.items) c.self.view_is) c.in-Some.item.0 c.index_mut-file.result.now (subst (λ (l : List Item). c.in-Some.item.0 < length l) (ap (λ v. v.items) c.self.view_is) (next_inside c.self.inside.files.items c.self.inside.queue.terms c.self.inside.queue.entries _ c.args.by.now c.reserve.new.self c.self.invariant.3 c.in-Ok.ensures.ok c.in-Some.item c.in-Some.ensures.next)) c.index_mut-file.ensures.value (λ old new. Sends g.F.CacheFile.tells g.R.Remote.tells g.O.Object.tells c.args.by full old new o o' (ended_of c.send-turn.result)) c.send-turn.new.file c.send-turn.ensures.sends;
      goal = subst (λ (x : Item). IfStored c.send-turn.result (λ goal print. IsOk c.args.ready × IsGoal x goal)) (sym (seen_item c.self.inside.files.items c.args.self.now.items (ap (λ v. v.items) c.self.view_is) c.in-Some.item.0 c.index_mut-file.result.now (subst (λ (l : List Item). c.in-Some.item.0 < length l) (ap (λ v. v.items) c.self.view_is) (next_inside c.self.inside.files.items c.self.inside.queue.terms c.self.inside.queue.entries _ c.args.by.now c.reserve.new.self c.self.invariant.3 c.in-Ok.ensures.ok c.in-Some.item c.in-Some.ensures.next)) c.index_mut-file.ensures.value)) c.send-turn.ensures.goal;
      queue = entered;
    }

pub returns-in-None-clause-none : goal.returns-in-None-clause-none
returns-in-None-clause-none g c = subst (λ (x : Queue). IsIdle x c.args.by.now) (ap (λ v. v.queue) c.self.view_is)
    (idle c.self.inside.files.items c.self.inside.queue.terms c.self.inside.queue.entries _ c.args.by.now c.reserve.new.self c.self.invariant.3 c.in-Ok.ensures.ok
    (subst (λ (x : Queue). 0 < x.terms.transfers) (sym (ap (λ v. v.queue) c.self.view_is)) c.requires.transfers) (c.in-None.ensures.none.0 refl))
