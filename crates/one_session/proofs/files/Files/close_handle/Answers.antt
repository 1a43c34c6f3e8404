use Rattle.std.proofs.Common.{◌≡◌, ◌<◌, ◌≤◌, ◌^◌, ◌++◌, ◌∙◌, ◌&&◌, ap, eqb, false, inl, reverse, set, subst, sym}
use Rattle.item_core.specs.History.{is_dirty, is_owed, opens_by, opens_of}
use Rattle.sparse_item.specs.Item.{Item}
use Rattle.writeback_queue.specs.declared.entry.QueueTerms.{QueueTerms}
use Rattle.writeback_queue.specs.History.{is_member, is_uploading}
use Rattle.writeback_queue.specs.Legal.{IsLegal}
use Rattle.writeback_queue.specs.Queue.{Queue, past_of}
use Rattle.one_session.specs.Books.{ClosesBook, HasSame, IsSameFile}
use Rattle.one_session.specs.Queued.{IsQueued, id_of, owed_item, queue_news, rested_by}
use Rattle.one_session.specs.State.{item_in}
use Rattle.one_session.proofs.Queued.{rested}
use Rattle.one_session.proofs.Shelves.{goes_on_same, seen_item, seen_limits, seen_moved, seen_one}
use Rattle.one_session.proofs.Waiting.{Rests, closes, put_queued, seen_owed, shut_news}
use Rattle.one_session.proofs.files.Files.close_handle.Goals as goal

pub close_handle-dirty-requires-clause-open : goal.close_handle-dirty-requires-clause-open
close_handle-dirty-requires-clause-open g c = subst (λ (x : Item). 0 < opens_by c.args.by.pass x.log.past) (seen_item c.self.inside.files.items c.args.self.now.items (ap (λ v. v.items) c.self.view_is) c.args.item c.index_mut.result.now c.requires.inside c.index_mut.ensures.value) c.requires.open

pub settle_close-requires-clause-idle : goal.settle_close-requires-clause-idle
settle_close-requires-clause-idle g c = subst (λ (q : Queue). is_uploading (past_of q) (id_of c.args.item) ≡ false) (sym c.in-Ok.ensures.ok) (c.self.invariant.3.idle (id_of c.args.item))

pub settle_close-requires-clause-small : goal.settle_close-requires-clause-small
settle_close-requires-clause-small g c = subst (λ (q : Queue). q.terms.write_back ≤ 2 ^ 62) (sym c.in-Ok.ensures.ok) c.self.invariant.4

pub returns-clause-dirty : goal.returns-clause-dirty
returns-clause-dirty g c = c.close_handle-dirty.ensures.dirty ∙ ap (λ (x : Item). is_dirty x.log.past) (sym (seen_item c.self.inside.files.items c.args.self.now.items (ap (λ v. v.items) c.self.view_is) c.args.item c.index_mut.result.now c.requires.inside c.index_mut.ensures.value))

pub returns-clause-did : goal.returns-clause-did
returns-clause-did g c = seen_moved c.self.inside.files.items c.args.self.now.items (ap (λ v. v.items) c.self.view_is) c.args.item c.index_mut.result.now c.requires.inside c.index_mut.ensures.value
    (λ old new. ClosesBook g.F.CacheFile.tells c.args.by old new) c.close_handle-dirty.new.self
    (record {
      same = record {
        id = ap (λ x. x.id) c.close_handle-dirty.ensures.same;
        slot_id = ap (λ x. x.slot_id) c.close_handle-dirty.ensures.same;
        saved = ap (λ x. x.saved) c.close_handle-dirty.ensures.same;
        limit = c.close_handle-dirty.ensures.limit;
        slot = goes_on_same g.F.CacheFile.tells c.index_mut.result.now.slot c.close_handle-dirty.new.self.slot (ap (λ x. x.slot) c.close_handle-dirty.ensures.same);
      };
      has_same = record { names = ap (λ x. x.names) c.close_handle-dirty.ensures.same; pairs = ap (λ x. x.pairs) c.close_handle-dirty.ensures.same };
      past = c.close_handle-dirty.ensures.past;
    })

pub returns-clause-queue : goal.returns-clause-queue
returns-clause-queue g c = subst (λ (q : Queue). c.settle_close.new.queue.entries ≡ q.entries ++ queue_news q.terms.write_back c.args.by c.args.item (item_in c.args.self.now.items c.args.item).log.past (item_in (set c.self.inside.files.items c.args.item c.close_handle-dirty.new.self) c.args.item).log.past) (ap (λ v. v.queue) c.self.view_is)
    (shut_news c.self.inside.files.items c.args.self.now.items (ap (λ v. v.items) c.self.view_is) c.args.item c.index_mut.result.now c.requires.inside c.index_mut.ensures.value c.self.inside.queue.terms c.self.inside.queue.entries c.settle_close.new.queue.entries c.self.invariant.3 c.args.by c.close_handle-dirty.new.self c.rests.result (subst (λ b. Rests b c.index_mut.result.now.log.past c.close_handle-dirty.new.self.log.past) (sym c.rests.ensures)
    (subst (λ l. Rests (eqb c.opens-opens.result 1 && c.close_handle-dirty.result) c.index_mut.result.now.log.past l) (sym c.close_handle-dirty.ensures.past)
    (closes c.args.by c.close_handle-dirty.new.self.slot.calls c.index_mut.result.now.log.past c.close_handle-dirty.result (eqb c.opens-opens.result 1) c.close_handle-dirty.ensures.dirty
    (ap (λ n. eqb n 1) (c.opens-opens.ensures ∙ ap (λ (x : Item). opens_of x.log.past) (sym (seen_item c.self.inside.files.items c.args.self.now.items (ap (λ v. v.items) c.self.view_is) c.args.item c.index.result.now c.requires.inside c.index.ensures) ∙ seen_item c.self.inside.files.items c.args.self.now.items (ap (λ v. v.items) c.self.view_is) c.args.item c.index_mut.result.now c.requires.inside c.index_mut.ensures.value)))))) (subst (λ (x : Queue). c.settle_close.new.queue.entries ≡ x.entries ++ rested_by c.rests.result x.terms.write_back c.args.by c.args.item (is_member (past_of x) (id_of c.args.item))) c.in-Ok.ensures.ok c.settle_close.ensures.entries))

pub returns-clause-terms : goal.returns-clause-terms
returns-clause-terms g c = c.settle_close.ensures.terms ∙ ap (λ (q : Queue). q.terms) c.in-Ok.ensures.ok ∙ ap (λ v. v.queue.terms) c.self.view_is

pub invariant_of-self-2 : goal.invariant_of-self-2
invariant_of-self-2 g c =
    let terms : c.settle_close.new.queue.terms ≡ c.self.inside.queue.terms = c.settle_close.ensures.terms ∙ ap (λ (q : Queue). q.terms) c.in-Ok.ensures.ok in
    let facts : Rests c.rests.result c.index_mut.result.now.log.past c.close_handle-dirty.new.self.log.past = (subst (λ b. Rests b c.index_mut.result.now.log.past c.close_handle-dirty.new.self.log.past) (sym c.rests.ensures)
    (subst (λ l. Rests (eqb c.opens-opens.result 1 && c.close_handle-dirty.result) c.index_mut.result.now.log.past l) (sym c.close_handle-dirty.ensures.past)
    (closes c.args.by c.close_handle-dirty.new.self.slot.calls c.index_mut.result.now.log.past c.close_handle-dirty.result (eqb c.opens-opens.result 1) c.close_handle-dirty.ensures.dirty
    (ap (λ n. eqb n 1) (c.opens-opens.ensures ∙ ap (λ (x : Item). opens_of x.log.past) (sym (seen_item c.self.inside.files.items c.args.self.now.items (ap (λ v. v.items) c.self.view_is) c.args.item c.index.result.now c.requires.inside c.index.ensures) ∙ seen_item c.self.inside.files.items c.args.self.now.items (ap (λ v. v.items) c.self.view_is) c.args.item c.index_mut.result.now c.requires.inside c.index_mut.ensures.value)))))) in (
      c.self.invariant.0,
      c.self.invariant.1,
      seen_limits c.self.inside.files.items c.args.self.now.items (ap (λ v. v.items) c.self.view_is) c.args.item c.index_mut.result.now c.requires.inside c.index_mut.ensures.value c.self.inside.limit c.self.invariant.2 c.close_handle-dirty.new.self c.close_handle-dirty.ensures.limit,
      subst (λ t. IsQueued t (owed_item (set c.self.inside.files.items c.args.item c.close_handle-dirty.new.self)) c.settle_close.new.queue.entries) (sym terms)
          (put_queued c.self.inside.files.items c.args.self.now.items (ap (λ v. v.items) c.self.view_is) c.args.item c.index_mut.result.now c.requires.inside c.index_mut.ensures.value c.self.inside.queue.terms c.settle_close.new.queue.entries c.close_handle-dirty.new.self
          (rested c.self.inside.queue.terms (owed_item c.self.inside.files.items) c.self.inside.queue.entries c.self.invariant.3 c.args.by c.args.item c.rests.result (is_owed c.close_handle-dirty.new.self.log.past) c.settle_close.new.queue.entries
          (λ e. (facts.yes e).0) (λ e. facts.no e ∙ seen_owed c.self.inside.files.items c.args.self.now.items (ap (λ v. v.items) c.self.view_is) c.args.item c.index_mut.result.now c.requires.inside c.index_mut.ensures.value) (subst (λ (x : Queue). c.settle_close.new.queue.entries ≡ x.entries ++ rested_by c.rests.result x.terms.write_back c.args.by c.args.item (is_member (past_of x) (id_of c.args.item))) c.in-Ok.ensures.ok c.settle_close.ensures.entries) (subst (λ t. IsLegal t (reverse c.settle_close.new.queue.entries)) terms c.settle_close.ensures.legal))),
      subst (λ (t : QueueTerms). t.write_back ≤ 2 ^ 62) (sym terms) c.self.invariant.4,
    )

pub returns-clause-one : goal.returns-clause-one
returns-clause-one g c = seen_one c.self.inside.files.items c.args.self.now.items (ap (λ v. v.items) c.self.view_is) c.args.item c.index_mut.result.now c.requires.inside c.index_mut.ensures.value c.close_handle-dirty.new.self
