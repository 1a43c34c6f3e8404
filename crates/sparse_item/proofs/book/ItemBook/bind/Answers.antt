use Rattle.std.proofs.Common.{◌≡◌, ◌∷◌, true, sym, refl, ap, ◌∙◌, subst}
use Rattle.std.specs.Prelude.{IsSome}
use Rattle.item_core.specs.History.{held_by, is_kept}
use Rattle.item_image.specs.Premise.{Pairs}
use Rattle.base_object.specs.Base.{Base, facts_of}
use Rattle.sparse_item.specs.Item.{Item}
use Rattle.sparse_item.specs.Views.{pairs_of}
use Rattle.sparse_item.proofs.Given.{given_item}
use Rattle.sparse_item.proofs.Steps.{backed, bound_base, bound_sound, same_given}
use Rattle.sparse_item.proofs.Sums.{pairs_push}
use Rattle.sparse_item.proofs.book.ItemBook.bind.Goals as goal

pub invariant_of-self-then-bind : goal.invariant_of-self-then-bind
invariant_of-self-then-bind g c =
    let o = facts_of g.O.Object.print_of g.O.Object.bytes g.O.Object.faults g.O.Object.changes g.O.Object.asked c.args.object in
    let kept : is_kept c.self.inside.core.past ≡ true = ap (λ (v : Item). is_kept v.log.past) (c.self.view_is ∙ c.reserve.ensures.same) ∙ c.requires.kept in
    let some : IsSome (held_by c.self.inside.core.past) = subst (λ (v : Item). IsSome (held_by v.log.past)) (sym (c.self.view_is ∙ c.reserve.ensures.same)) c.requires.base in
    let b = bound_base c.self.inside.base o c.bind.result (subst IsSome (sym (backed c.self.invariant kept)) some) c.bind.ensures.agrees c.bind.ensures.state c.bind.ensures.object c.bind.ensures.crew c.if-bind.true in
    same_given (bound_sound o c.self.invariant kept (sym (backed c.self.invariant kept) ∙ b.1) (ap (λ (x : Base). x.state) b.0) (ap (λ (x : Base). x.object) b.0))
    refl
    (pairs_push g.O.Object.print_of g.O.Object.bytes _ _ c.of-told.result c.args.object c.push_reserved.ensures.items c.of-told.ensures
    ∙ ap (λ (ps : Pairs). (g.O.Object.print_of c.args.object, g.O.Object.bytes c.args.object) ∷ ps) (ap (pairs_of g.O.Object.print_of g.O.Object.bytes) c.reserve-2.ensures.items))

pub returns-then-bind-clause-bound : goal.returns-then-bind-clause-bound
returns-then-bind-clause-bound g c bound =
    let o = facts_of g.O.Object.print_of g.O.Object.bytes g.O.Object.faults g.O.Object.changes g.O.Object.asked c.args.object in
    let kept : is_kept c.self.inside.core.past ≡ true = ap (λ (v : Item). is_kept v.log.past) (c.self.view_is ∙ c.reserve.ensures.same) ∙ c.requires.kept in
    let some : IsSome (held_by c.self.inside.core.past) = subst (λ (v : Item). IsSome (held_by v.log.past)) (sym (c.self.view_is ∙ c.reserve.ensures.same)) c.requires.base in
    let b = bound_base c.self.inside.base o c.bind.result (subst IsSome (sym (backed c.self.invariant kept)) some) c.bind.ensures.agrees c.bind.ensures.state c.bind.ensures.object c.bind.ensures.crew c.if-bind.true in
    given_item c.args.self.now (g.O.Object.print_of c.args.object, g.O.Object.bytes c.args.object) (c.self.view_is ∙ c.reserve.ensures.same) c.note.ensures.same
    (pairs_push g.O.Object.print_of g.O.Object.bytes _ _ c.of-told.result c.args.object c.push_reserved.ensures.items c.of-told.ensures
    ∙ ap (λ (ps : Pairs). (g.O.Object.print_of c.args.object, g.O.Object.bytes c.args.object) ∷ ps) (ap (pairs_of g.O.Object.print_of g.O.Object.bytes) c.reserve-2.ensures.items))
    b.0
