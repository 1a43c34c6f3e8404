use Rattle.std.proofs.Common.{OnErr, ◌≡◌, ◌<◌, ◌≤◌, ◌^◌, ◌++◌, ◌∙◌, ap, inl, reverse, set, subst, sym, true}
use Rattle.std.specs.Prelude.{is_ok}
use Rattle.item_core.specs.History.{is_kept, is_owed, opens_by}
use Rattle.sparse_item.specs.Item.{Item}
use Rattle.writeback_queue.specs.declared.entry.QueueTerms.{QueueTerms}
use Rattle.writeback_queue.specs.History.{is_member}
use Rattle.writeback_queue.specs.Legal.{IsLegal}
use Rattle.writeback_queue.specs.Queue.{Queue}
use Rattle.one_session.specs.Queued.{IsQueued, id_of, owed_item, queue_news, withdrawn_by}
use Rattle.one_session.specs.Books.{HasSame, IsSameFile, SizesBook}
use Rattle.one_session.proofs.Queued.{withdrawn}
use Rattle.one_session.proofs.Shelves.{seen_item, seen_limits, seen_moved, seen_one}
use Rattle.one_session.specs.State.{item_in}
use Rattle.one_session.proofs.Waiting.{begun_news, ok_anyway, put_queued, seen_owed, sizes, unsized}
use Rattle.one_session.proofs.files.Files.set_size.Goals as goal

pub set_size-sized-requires : goal.set_size-sized-requires
set_size-sized-requires g c = record {
  kept = subst (λ (x : Item). is_kept x.log.past ≡ true) (seen_item c.self.inside.files.items c.args.self.now.items (ap (λ v. v.items) c.self.view_is) c.args.item c.index_mut.result.now c.requires.inside c.index_mut.ensures.value) c.requires.kept;
  «open» = inl (subst (λ (x : Item). 0 < opens_by c.args.by.pass x.log.past) (seen_item c.self.inside.files.items c.args.self.now.items (ap (λ v. v.items) c.self.view_is) c.args.item c.index_mut.result.now c.requires.inside c.index_mut.ensures.value) c.requires.open);
}

pub returns-clause-did : goal.returns-clause-did
returns-clause-did g c = seen_moved c.self.inside.files.items c.args.self.now.items (ap (λ v. v.items) c.self.view_is) c.args.item c.index_mut.result.now c.requires.inside c.index_mut.ensures.value
    (λ old new. SizesBook g.F.CacheFile.tells c.args.by c.args.size old new c.set_size-sized.result) c.set_size-sized.new.self
    (record {
      same = record {
        id = ap (λ x. x.id) c.set_size-sized.ensures.same;
        slot_id = ap (λ x. x.slot_id) c.set_size-sized.ensures.same;
        saved = ap (λ x. x.saved) c.set_size-sized.ensures.same;
        limit = c.set_size-sized.ensures.limit;
        slot = c.set_size-sized.ensures.slot;
      };
      has_same = record { names = ap (λ x. x.names) c.set_size-sized.ensures.same; pairs = ap (λ x. x.pairs) c.set_size-sized.ensures.same };
      ok = c.set_size-sized.ensures.ok;
      err = c.set_size-sized.ensures.err;
      big = c.set_size-sized.ensures.big.0;
      full = λ h. (c.set_size-sized.ensures.full.0 h).1;
      causes = c.set_size-sized.ensures.causes;
    })

pub invariant_of-self : goal.invariant_of-self
invariant_of-self g c = let facts = (sizes c.args.by c.args.size c.index_mut.result.now c.set_size-sized.new.self c.set_size-sized.result c.set_size-sized.ensures.ok c.set_size-sized.ensures.err) in let began : c.is_ok.result ≡ (is_ok c.set_size-sized.result) = c.is_ok.ensures.value in (
  c.self.invariant.0,
  c.self.invariant.1,
  seen_limits c.self.inside.files.items c.args.self.now.items (ap (λ v. v.items) c.self.view_is) c.args.item c.index_mut.result.now c.requires.inside c.index_mut.ensures.value c.self.inside.limit c.self.invariant.2 c.set_size-sized.new.self c.set_size-sized.ensures.limit,
  subst (λ t. IsQueued t (owed_item (set c.self.inside.files.items c.args.item c.set_size-sized.new.self)) c.withdraw.new.queue.entries) (sym c.withdraw.ensures.terms)
      (put_queued c.self.inside.files.items c.args.self.now.items (ap (λ v. v.items) c.self.view_is) c.args.item c.index_mut.result.now c.requires.inside c.index_mut.ensures.value c.self.inside.queue.terms c.withdraw.new.queue.entries c.set_size-sized.new.self
      (withdrawn c.self.inside.queue.terms (owed_item c.self.inside.files.items) c.self.inside.queue.entries c.self.invariant.3 c.args.by c.args.item (is_ok c.set_size-sized.result) (is_owed c.set_size-sized.new.self.log.past) c.withdraw.new.queue.entries facts.yes (λ e. facts.no e ∙ seen_owed c.self.inside.files.items c.args.self.now.items (ap (λ v. v.items) c.self.view_is) c.args.item c.index_mut.result.now c.requires.inside c.index_mut.ensures.value) (c.withdraw.ensures.entries ∙ ap (λ b. c.self.inside.queue.entries ++ withdrawn_by c.args.by c.args.item b (is_member (reverse c.self.inside.queue.entries) (id_of c.args.item))) began)
      (subst (λ t. IsLegal t (reverse c.withdraw.new.queue.entries)) c.withdraw.ensures.terms c.withdraw.ensures.legal))),
  subst (λ (t : QueueTerms). t.write_back ≤ 2 ^ 62) (sym c.withdraw.ensures.terms) c.self.invariant.4,
)

pub returns-clause-one : goal.returns-clause-one
returns-clause-one g c = seen_one c.self.inside.files.items c.args.self.now.items (ap (λ v. v.items) c.self.view_is) c.args.item c.index_mut.result.now c.requires.inside c.index_mut.ensures.value c.set_size-sized.new.self

pub returns-clause-queue : goal.returns-clause-queue
returns-clause-queue g c = let began : c.is_ok.result ≡ (is_ok c.set_size-sized.result) = c.is_ok.ensures.value in
    ok_anyway c.set_size-sized.result (subst (λ (q : Queue). c.withdraw.new.queue.entries ≡ q.entries ++ queue_news q.terms.write_back c.args.by c.args.item (item_in c.args.self.now.items c.args.item).log.past (item_in (set c.self.inside.files.items c.args.item c.set_size-sized.new.self) c.args.item).log.past) (ap (λ v. v.queue) c.self.view_is)
    (begun_news c.self.inside.files.items c.args.self.now.items (ap (λ v. v.items) c.self.view_is) c.args.item c.index_mut.result.now c.requires.inside c.index_mut.ensures.value c.self.inside.queue.terms c.self.inside.queue.entries c.withdraw.new.queue.entries c.self.invariant.3 c.args.by c.set_size-sized.new.self (is_ok c.set_size-sized.result) (sizes c.args.by c.args.size c.index_mut.result.now c.set_size-sized.new.self c.set_size-sized.result c.set_size-sized.ensures.ok c.set_size-sized.ensures.err)
    (c.withdraw.ensures.entries ∙ ap (λ b. c.self.inside.queue.entries ++ withdrawn_by c.args.by c.args.item b (is_member (reverse c.self.inside.queue.entries) (id_of c.args.item))) began)))

pub returns-clause-still : goal.returns-clause-still
returns-clause-still g c = let began : c.is_ok.result ≡ (is_ok c.set_size-sized.result) = c.is_ok.ensures.value in
    subst (λ (q : Queue). OnErr c.set_size-sized.result (c.withdraw.new.queue.entries ≡ q.entries)) (ap (λ v. v.queue) c.self.view_is)
    (unsized c.args.by c.args.item c.self.inside.queue.entries c.withdraw.new.queue.entries (is_member (reverse c.self.inside.queue.entries) (id_of c.args.item)) c.set_size-sized.result
    (c.withdraw.ensures.entries ∙ ap (λ b. c.self.inside.queue.entries ++ withdrawn_by c.args.by c.args.item b (is_member (reverse c.self.inside.queue.entries) (id_of c.args.item))) began))
