use Rattle.std.proofs.Common.{sym, ap, ◌∙◌, subst}
use Rattle.std.specs.Prelude.{IsSome}
use Rattle.item_core.specs.History.{held_by, is_kept}
use Rattle.sparse_item.specs.Item.{Item}
use Rattle.sparse_item.proofs.Steps.{backed, lost_sound}
use Rattle.sparse_item.proofs.book.ItemBook.lose.Goals as goal

pub invariant_of-self : goal.invariant_of-self
invariant_of-self g c = lost_sound c.args.found c.self.invariant
    (subst IsSome (sym (backed c.self.invariant (ap (λ (v : Item). is_kept v.log.past) c.self.view_is ∙ c.requires.kept)))
    (subst (λ (v : Item). IsSome (held_by v.log.past)) (sym c.self.view_is) c.requires.base))
    c.lose.ensures.state c.lose.ensures.object
