use Rattle.std.proofs.Common.{◌<◌, ap, subst, sym}
use Rattle.item_core.specs.History.{opens_by}
use Rattle.sparse_item.specs.Item.{Item}
use Rattle.one_session.specs.Books.{HasSame, IsSameFile, ReadsBook}
use Rattle.one_session.proofs.Shelves.{seen_item, seen_limits, seen_moved, seen_one}
use Rattle.one_session.proofs.Waiting.{reads, same_queued}
use Rattle.one_session.proofs.files.Files.read.Goals as goal

pub read-requires : goal.read-requires
read-requires g c = record {
  chunk = c.requires.chunk;
  «open» = subst (λ (x : Item). 0 < opens_by c.args.by.pass x.log.past) (seen_item c.self.inside.files.items c.args.self.now.items (ap (λ v. v.items) c.self.view_is) c.args.item c.index_mut.result.now c.requires.inside c.index_mut.ensures.value) c.requires.open;
}

pub returns-clause-did : goal.returns-clause-did
returns-clause-did g c = seen_moved c.self.inside.files.items c.args.self.now.items (ap (λ v. v.items) c.self.view_is) c.args.item c.index_mut.result.now c.requires.inside c.index_mut.ensures.value
    (λ old new. ReadsBook g.F.CacheFile.tells g.O.Object.tells c.args.plan.now c.args.by c.args.pos c.args.len old new c.read.result) c.read.new.self
    (record {
      same = record {
        id = ap (λ x. x.id) c.read.ensures.same;
        slot_id = ap (λ x. x.slot_id) c.read.ensures.same;
        saved = ap (λ x. x.saved) c.read.ensures.same;
        limit = c.read.ensures.limit;
        slot = c.read.ensures.slot;
      };
      has_same = record { names = ap (λ x. x.names) c.read.ensures.same; pairs = ap (λ x. x.pairs) c.read.ensures.same };
      ok = c.read.ensures.ok;
      count = c.read.ensures.count;
      bytes = c.read.ensures.bytes;
      err = c.read.ensures.err;
      big = c.read.ensures.big.0;
      full = λ h. (c.read.ensures.full.0 h).1;
      asks = c.read.ensures.asks;
      all = c.read.ensures.all;
      here = c.read.ensures.here;
      causes = c.read.ensures.causes;
    })

pub invariant_of-self : goal.invariant_of-self
invariant_of-self g c = (
  c.self.invariant.0,
  c.self.invariant.1,
  seen_limits c.self.inside.files.items c.args.self.now.items (ap (λ v. v.items) c.self.view_is) c.args.item c.index_mut.result.now c.requires.inside c.index_mut.ensures.value c.self.inside.limit c.self.invariant.2 c.read.new.self c.read.ensures.limit,
  same_queued c.self.inside.files.items c.args.self.now.items (ap (λ v. v.items) c.self.view_is) c.args.item c.index_mut.result.now c.requires.inside c.index_mut.ensures.value c.self.inside.queue.terms c.self.inside.queue.entries c.read.new.self
      (reads c.args.by c.args.pos c.args.len c.index_mut.result.now c.read.new.self c.read.result c.read.ensures.ok c.read.ensures.err).owed c.self.invariant.3,
  c.self.invariant.4,
)

pub returns-clause-one : goal.returns-clause-one
returns-clause-one g c = seen_one c.self.inside.files.items c.args.self.now.items (ap (λ v. v.items) c.self.view_is) c.args.item c.index_mut.result.now c.requires.inside c.index_mut.ensures.value c.read.new.self
