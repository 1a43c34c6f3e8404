use Rattle.std.proofs.Common.{rules, ◌≡◌, ◌<◌, ℕ, ◌++◌, ◌∷◌, [], ◌∙◌, ap, sym, subst, append_assoc, length, map, reverse}
use Rattle.std.specs.List.{AllByRecursion}
use Rattle.std.specs.Vec.Iter.{into_iter_items}
use Rattle.item_core.specs.Legal.{IsLegal}
use Rattle.one_session.specs.Slots.{IsSoundItem, ItemStands, Lends}
use Rattle.one_session.specs.State.{History, item_in}
use Rattle.one_session.specs.Views.{stored}
use Rattle.one_session.proofs.Lending.{all_back, all_stand, gave_none, legal_more, log_more, next_gave, next_out, next_sound, none_left}
use Rattle.one_session.proofs.files.logs_of.Goals as goal

pub loop-file-init : goal.loop-file-init
loop-file-init g c = record {
  all = search rules;
  left = search rules;
  so_far = search rules;
  room = search rules;
  legal = search rules;
  gave = gave_none g.D.CacheDisk.tells g.O.Object.tells (into_iter_items c.into_iter-file-iterator.result) (g.D.CacheDisk.disk c.args.disk.now)
      (subst (λ l. Lends g.D.CacheDisk.tells (length l) (g.D.CacheDisk.disk c.args.disk.now)) (sym c.into_iter-file-iterator.ensures.into_iter_gives.0) c.requires.lends);
}

pub return_item-requires-clause-sound : goal.return_item-requires-clause-sound
return_item-requires-clause-sound g c =
    let all = into_iter_items c.into_iter-file-iterator.result in
    let comes : c.loop-file.yielded ++ c.in-Some.file ∷ into_iter_items c.next.new.self ≡ all = ap (λ l. c.loop-file.yielded ++ l) (sym c.in-Some.ensures.steps.0) ∙ c.loop-file.invariant.all in (
      length c.loop-file.yielded,
      c.requires.items.0,
      next_sound g.D.File.CacheFile.tells c.requires.items.0 all c.loop-file.yielded (into_iter_items c.next.new.self) c.in-Some.file comes
          (subst (λ l. (n : ℕ) → n < length l → IsSoundItem g.D.File.CacheFile.tells c.requires.items.0 n (item_in l n)) (sym c.into_iter-file-iterator.ensures.into_iter_gives.0) c.requires.items.1),
    )

pub return_item-requires-clause-out : goal.return_item-requires-clause-out
return_item-requires-clause-out g c =
    let all = into_iter_items c.into_iter-file-iterator.result in
    let comes : c.loop-file.yielded ++ c.in-Some.file ∷ into_iter_items c.next.new.self ≡ all = ap (λ l. c.loop-file.yielded ++ l) (sym c.in-Some.ensures.steps.0) ∙ c.loop-file.invariant.all in
    let sound = next_sound g.D.File.CacheFile.tells c.requires.items.0 all c.loop-file.yielded (into_iter_items c.next.new.self) c.in-Some.file comes
    (subst (λ l. (n : ℕ) → n < length l → IsSoundItem g.D.File.CacheFile.tells c.requires.items.0 n (item_in l n)) (sym c.into_iter-file-iterator.ensures.into_iter_gives.0) c.requires.items.1) in
    next_out g.D.CacheDisk.tells g.O.Object.tells g.D.File.CacheFile.tells c.requires.items.0 all c.loop-file.yielded (into_iter_items c.next.new.self) c.in-Some.file (g.D.CacheDisk.disk c.args.disk.now) (g.D.CacheDisk.disk c.loop-file.disk)
    comes sound c.loop-file.invariant.gave

pub loop-file-preserved : goal.loop-file-preserved
loop-file-preserved g c =
    let all = into_iter_items c.into_iter-file-iterator.result in
    let comes : c.loop-file.yielded ++ c.in-Some.file ∷ into_iter_items c.next.new.self ≡ all = ap (λ l. c.loop-file.yielded ++ l) (sym c.in-Some.ensures.steps.0) ∙ c.loop-file.invariant.all in
    let sound = next_sound g.D.File.CacheFile.tells c.requires.items.0 all c.loop-file.yielded (into_iter_items c.next.new.self) c.in-Some.file comes
    (subst (λ l. (n : ℕ) → n < length l → IsSoundItem g.D.File.CacheFile.tells c.requires.items.0 n (item_in l n)) (sym c.into_iter-file-iterator.ensures.into_iter_gives.0) c.requires.items.1) in
    record {
      all = append_assoc c.loop-file.yielded (c.in-Some.file ∷ []) (into_iter_items c.next.new.self) ∙ comes;
      left = search rules;
      so_far = log_more c.loop-file.logs.items c.push.new.self.items c.return_item.result c.loop-file.yielded c.in-Some.file (rw c.unwrap.ensures at c.push.ensures.items) c.loop-file.invariant.so_far c.return_item.ensures.log;
      room = search rules;
      legal = legal_more c.loop-file.yielded c.in-Some.file c.loop-file.invariant.legal c.return_item.ensures.legal;
      gave = next_gave g.D.CacheDisk.tells g.O.Object.tells g.D.File.CacheFile.tells c.requires.items.0 all c.loop-file.yielded (into_iter_items c.next.new.self) c.in-Some.file (g.D.CacheDisk.disk c.args.disk.now) (g.D.CacheDisk.disk c.loop-file.disk) (g.D.CacheDisk.disk c.return_item.new.disk)
          comes sound c.loop-file.invariant.gave c.return_item.ensures.out c.return_item.ensures.faults c.return_item.ensures.stands c.return_item.ensures.others;
    }

pub returns-clause-files : goal.returns-clause-files
returns-clause-files g c =
    let whole = none_left (into_iter_items c.into_iter-file-iterator.result) c.loop-file.yielded (into_iter_items c.loop-file.file-iterator) c.loop-file.invariant.all (sym c.loop-file.invariant.left ∙ c.in-None.ensures.steps.0) in
    c.loop-file.invariant.so_far ∙ ap (λ l. map stored l) (whole ∙ c.into_iter-file-iterator.ensures.into_iter_gives.0)

pub returns-clause-legal : goal.returns-clause-legal
returns-clause-legal g c =
    let whole = none_left (into_iter_items c.into_iter-file-iterator.result) c.loop-file.yielded (into_iter_items c.loop-file.file-iterator) c.loop-file.invariant.all (sym c.loop-file.invariant.left ∙ c.in-None.ensures.steps.0) in
    subst (λ l. AllByRecursion (λ (file : History). IsLegal (reverse file.entries)) (map stored l)) (whole ∙ c.into_iter-file-iterator.ensures.into_iter_gives.0) c.loop-file.invariant.legal

pub returns-clause-back : goal.returns-clause-back
returns-clause-back g c =
    let whole = none_left (into_iter_items c.into_iter-file-iterator.result) c.loop-file.yielded (into_iter_items c.loop-file.file-iterator) c.loop-file.invariant.all (sym c.loop-file.invariant.left ∙ c.in-None.ensures.steps.0) in
    all_back g.D.CacheDisk.tells g.O.Object.tells (into_iter_items c.into_iter-file-iterator.result) c.loop-file.yielded (g.D.CacheDisk.disk c.args.disk.now) (g.D.CacheDisk.disk c.loop-file.disk) whole c.loop-file.invariant.gave

pub returns-clause-images : goal.returns-clause-images
returns-clause-images g c =
    let whole = none_left (into_iter_items c.into_iter-file-iterator.result) c.loop-file.yielded (into_iter_items c.loop-file.file-iterator) c.loop-file.invariant.all (sym c.loop-file.invariant.left ∙ c.in-None.ensures.steps.0) in
    subst (λ l. g.D.CacheDisk.tells → (n : ℕ) → n < length l → ItemStands g.O.Object.tells (item_in l n) ((g.D.CacheDisk.disk c.loop-file.disk).shelf n).now) c.into_iter-file-iterator.ensures.into_iter_gives.0
    (all_stand g.D.CacheDisk.tells g.O.Object.tells (into_iter_items c.into_iter-file-iterator.result) c.loop-file.yielded (g.D.CacheDisk.disk c.args.disk.now) (g.D.CacheDisk.disk c.loop-file.disk) whole c.loop-file.invariant.gave)
