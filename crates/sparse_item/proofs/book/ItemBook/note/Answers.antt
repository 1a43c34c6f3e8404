use Rattle.std.proofs.Common.{◌≡◌, ◌||◌, true, sym, subst}
use Rattle.item_core.specs.Effects.{is_opened, is_start}
use Rattle.item_core.specs.History.{base_end_of}
use Rattle.sparse_item.specs.Item.{Item, IsSupplied}
use Rattle.sparse_item.proofs.Steps.{noted_sound, same_past}
use Rattle.sparse_item.proofs.book.ItemBook.note.Goals as goal

pub invariant_of-self : goal.invariant_of-self
invariant_of-self g c = same_past (noted_sound c.args.by _ c.args.kind c.self.invariant c.calls-at.ensures c.requires.plain
    (subst (λ (v : Item). (is_opened c.args.kind || is_start c.args.kind) ≡ true → IsSupplied v.base.state v.here (base_end_of v.log.past)) (sym c.self.view_is) c.requires.supplied)
    c.atime_after-self-inside.ensures) c.push.ensures.past
