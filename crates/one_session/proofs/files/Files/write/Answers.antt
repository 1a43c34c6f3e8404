use Rattle.std.proofs.Common.{OnErr, ◌≡◌, ◌<◌, ◌≤◌, ◌^◌, ◌++◌, ◌∙◌, ap, reverse, set, subst, sym}
use Rattle.item_core.specs.History.{is_owed, opens_by}
use Rattle.sparse_item.specs.Item.{Item}
use Rattle.writeback_queue.specs.declared.entry.QueueTerms.{QueueTerms}
use Rattle.writeback_queue.specs.History.{is_member}
use Rattle.writeback_queue.specs.Legal.{IsLegal}
use Rattle.writeback_queue.specs.Queue.{Queue}
use Rattle.one_session.specs.Queued.{IsQueued, began_by, id_of, owed_item, queue_news, withdrawn_by}
use Rattle.one_session.specs.Books.{HasSame, IsSameFile, WritesBook}
use Rattle.one_session.proofs.Queued.{withdrawn}
use Rattle.one_session.proofs.Shelves.{seen_item, seen_limits, seen_moved, seen_one}
use Rattle.one_session.specs.State.{item_in}
use Rattle.one_session.proofs.Waiting.{begun_news, ok_anyway, put_queued, seen_owed, writes, unwritten}
use Rattle.one_session.proofs.files.Files.write.Goals as goal

pub write-wrote-requires : goal.write-wrote-requires
write-wrote-requires g c = record { «open» = subst (λ (x : Item). 0 < opens_by c.args.by.pass x.log.past) (seen_item c.self.inside.files.items c.args.self.now.items (ap (λ v. v.items) c.self.view_is) c.args.item c.index_mut.result.now c.requires.inside c.index_mut.ensures.value) c.requires.open }

pub returns-clause-did : goal.returns-clause-did
returns-clause-did g c = seen_moved c.self.inside.files.items c.args.self.now.items (ap (λ v. v.items) c.self.view_is) c.args.item c.index_mut.result.now c.requires.inside c.index_mut.ensures.value
    (λ old new. WritesBook g.F.CacheFile.tells c.args.by c.args.pos c.args.payload old new c.write-wrote.result) c.write-wrote.new.self
    (record {
      same = record {
        id = ap (λ x. x.id) c.write-wrote.ensures.same;
        slot_id = ap (λ x. x.slot_id) c.write-wrote.ensures.same;
        saved = ap (λ x. x.saved) c.write-wrote.ensures.same;
        limit = c.write-wrote.ensures.limit;
        slot = c.write-wrote.ensures.slot;
      };
      has_same = record { names = ap (λ x. x.names) c.write-wrote.ensures.same; pairs = ap (λ x. x.pairs) c.write-wrote.ensures.same };
      count = c.write-wrote.ensures.count;
      ok = c.write-wrote.ensures.ok;
      err = c.write-wrote.ensures.err;
      big = c.write-wrote.ensures.big.0;
      full = λ h. (c.write-wrote.ensures.full.0 h).1;
      causes = c.write-wrote.ensures.causes;
    })

pub invariant_of-self : goal.invariant_of-self
invariant_of-self g c = let facts = (writes c.args.by _ c.args.pos c.args.payload c.index_mut.result.now c.write-wrote.new.self c.write-wrote.result c.write-wrote.ensures.count c.write-wrote.ensures.ok c.write-wrote.ensures.err) in let began : c.begins.result ≡ (began_by c.write-wrote.result) = c.begins.ensures in (
  c.self.invariant.0,
  c.self.invariant.1,
  seen_limits c.self.inside.files.items c.args.self.now.items (ap (λ v. v.items) c.self.view_is) c.args.item c.index_mut.result.now c.requires.inside c.index_mut.ensures.value c.self.inside.limit c.self.invariant.2 c.write-wrote.new.self c.write-wrote.ensures.limit,
  subst (λ t. IsQueued t (owed_item (set c.self.inside.files.items c.args.item c.write-wrote.new.self)) c.withdraw.new.queue.entries) (sym c.withdraw.ensures.terms)
      (put_queued c.self.inside.files.items c.args.self.now.items (ap (λ v. v.items) c.self.view_is) c.args.item c.index_mut.result.now c.requires.inside c.index_mut.ensures.value c.self.inside.queue.terms c.withdraw.new.queue.entries c.write-wrote.new.self
      (withdrawn c.self.inside.queue.terms (owed_item c.self.inside.files.items) c.self.inside.queue.entries c.self.invariant.3 c.args.by c.args.item (began_by c.write-wrote.result) (is_owed c.write-wrote.new.self.log.past) c.withdraw.new.queue.entries facts.yes (λ e. facts.no e ∙ seen_owed c.self.inside.files.items c.args.self.now.items (ap (λ v. v.items) c.self.view_is) c.args.item c.index_mut.result.now c.requires.inside c.index_mut.ensures.value) (c.withdraw.ensures.entries ∙ ap (λ b. c.self.inside.queue.entries ++ withdrawn_by c.args.by c.args.item b (is_member (reverse c.self.inside.queue.entries) (id_of c.args.item))) began)
      (subst (λ t. IsLegal t (reverse c.withdraw.new.queue.entries)) c.withdraw.ensures.terms c.withdraw.ensures.legal))),
  subst (λ (t : QueueTerms). t.write_back ≤ 2 ^ 62) (sym c.withdraw.ensures.terms) c.self.invariant.4,
)

pub returns-clause-one : goal.returns-clause-one
returns-clause-one g c = seen_one c.self.inside.files.items c.args.self.now.items (ap (λ v. v.items) c.self.view_is) c.args.item c.index_mut.result.now c.requires.inside c.index_mut.ensures.value c.write-wrote.new.self

pub returns-clause-queue : goal.returns-clause-queue
returns-clause-queue g c = let began : c.begins.result ≡ (began_by c.write-wrote.result) = c.begins.ensures in
    ok_anyway c.write-wrote.result (subst (λ (q : Queue). c.withdraw.new.queue.entries ≡ q.entries ++ queue_news q.terms.write_back c.args.by c.args.item (item_in c.args.self.now.items c.args.item).log.past (item_in (set c.self.inside.files.items c.args.item c.write-wrote.new.self) c.args.item).log.past) (ap (λ v. v.queue) c.self.view_is)
    (begun_news c.self.inside.files.items c.args.self.now.items (ap (λ v. v.items) c.self.view_is) c.args.item c.index_mut.result.now c.requires.inside c.index_mut.ensures.value c.self.inside.queue.terms c.self.inside.queue.entries c.withdraw.new.queue.entries c.self.invariant.3 c.args.by c.write-wrote.new.self (began_by c.write-wrote.result) (writes c.args.by _ c.args.pos c.args.payload c.index_mut.result.now c.write-wrote.new.self c.write-wrote.result c.write-wrote.ensures.count c.write-wrote.ensures.ok c.write-wrote.ensures.err)
    (c.withdraw.ensures.entries ∙ ap (λ b. c.self.inside.queue.entries ++ withdrawn_by c.args.by c.args.item b (is_member (reverse c.self.inside.queue.entries) (id_of c.args.item))) began)))

pub returns-clause-still : goal.returns-clause-still
returns-clause-still g c = let began : c.begins.result ≡ (began_by c.write-wrote.result) = c.begins.ensures in
    subst (λ (q : Queue). OnErr c.write-wrote.result (c.withdraw.new.queue.entries ≡ q.entries)) (ap (λ v. v.queue) c.self.view_is)
    (unwritten c.args.by c.args.item c.self.inside.queue.entries c.withdraw.new.queue.entries (is_member (reverse c.self.inside.queue.entries) (id_of c.args.item)) c.write-wrote.result
    (c.withdraw.ensures.entries ∙ ap (λ b. c.self.inside.queue.entries ++ withdrawn_by c.args.by c.args.item b (is_member (reverse c.self.inside.queue.entries) (id_of c.args.item))) began))
