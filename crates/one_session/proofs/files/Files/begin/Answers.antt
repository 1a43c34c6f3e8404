use Rattle.std.proofs.Common.{◌≡◌, ◌<◌, ◌≤◌, ap, subst, sym, true}
use Rattle.item_core.specs.Log.{free}
use Rattle.sparse_item.specs.Item.{Item}
use Rattle.sparse_item.specs.Sound.{is_begun}
use Rattle.one_session.specs.Books.{OpensBook}
use Rattle.one_session.specs.Start.{MayStart, front_of, given_by, named_by}
use Rattle.one_session.specs.declared.start.Start.TheVariants.{Kept}
use Rattle.one_session.proofs.Shelves.{seen_item, seen_limits, seen_moved, seen_one}
use Rattle.one_session.proofs.Waiting.{opens, same_queued}
use Rattle.one_session.proofs.files.Files.begin.Goals as goal

pub begin-requires : goal.begin-requires
begin-requires g c =
    let e = seen_item c.self.inside.files.items c.args.self.now.items (ap (λ v. v.items) c.self.view_is) c.args.item c.index_mut.result.now c.requires.inside c.index_mut.ensures.value in
    record {
      room = subst (λ (x : Item). 4 ≤ x.log.spare) e c.requires.room;
      places = subst (λ (x : Item). 4 ≤ free x.log) e c.requires.places;
      file = c.requires.file;
      may = subst (λ (x : Item). MayStart g.O.Object.print_of c.args.start x.log.past) e c.requires.may;
      begun = subst (λ (x : Item). c.args.start ≡ Kept → is_begun x.log.past ≡ true) e c.requires.begun;
    }

pub returns-clause-did : goal.returns-clause-did
returns-clause-did g c = seen_moved c.self.inside.files.items c.args.self.now.items (ap (λ v. v.items) c.self.view_is) c.args.item c.index_mut.result.now c.requires.inside c.index_mut.ensures.value
    (λ old new. OpensBook g.F.CacheFile.tells c.args.by c.args.access (front_of g.O.Object.print_of c.args.start) (named_by c.args.path c.args.start)
    (given_by g.O.Object.print_of g.O.Object.bytes c.args.start) old new c.begin.result) c.begin.new.file c.begin.ensures.did

pub invariant_of-self : goal.invariant_of-self
invariant_of-self g c = (
  c.self.invariant.0,
  c.self.invariant.1,
  seen_limits c.self.inside.files.items c.args.self.now.items (ap (λ v. v.items) c.self.view_is) c.args.item c.index_mut.result.now c.requires.inside c.index_mut.ensures.value c.self.inside.limit c.self.invariant.2 c.begin.new.file c.begin.ensures.did.same.limit,
  same_queued c.self.inside.files.items c.args.self.now.items (ap (λ v. v.items) c.self.view_is) c.args.item c.index_mut.result.now c.requires.inside c.index_mut.ensures.value c.self.inside.queue.terms c.self.inside.queue.entries c.begin.new.file
      (opens g.O.Object.print_of g.F.CacheFile.tells c.args.by c.args.access c.args.start _ _ c.index_mut.result.now c.begin.new.file c.begin.result (subst (λ (x : Item). MayStart g.O.Object.print_of c.args.start x.log.past) (seen_item c.self.inside.files.items c.args.self.now.items (ap (λ v. v.items) c.self.view_is) c.args.item c.index_mut.result.now c.requires.inside c.index_mut.ensures.value) c.requires.may) c.begin.ensures.did) c.self.invariant.3,
  c.self.invariant.4,
)

pub returns-clause-one : goal.returns-clause-one
returns-clause-one g c = seen_one c.self.inside.files.items c.args.self.now.items (ap (λ v. v.items) c.self.view_is) c.args.item c.index_mut.result.now c.requires.inside c.index_mut.ensures.value c.begin.new.file
