use Rattle.std.proofs.Common.{ap}
use Rattle.item_meta.specs.declared.meta.Meta.{Meta}
use Rattle.sparse_item.proofs.Steps.{moved_sound, same_past, sized_sound, with_meta}
use Rattle.sparse_item.proofs.book.ItemBook.set_size.Goals as goal

pub invariant_of-self : goal.invariant_of-self
invariant_of-self g c = same_past (sized_sound c.args.by c.in-Ok.at c.args.size (with_meta c.self.invariant c.in-Some.is) c.in-Ok.ensures.ok c.in-Ok.ensures.cut c.in-Ok.ensures.at)
    c.push.ensures.past

pub invariant_of-self-in-Err-cut_down : goal.invariant_of-self-in-Err-cut_down
invariant_of-self-in-Err-cut_down g c = moved_sound (with_meta c.self.invariant c.in-Some.is) c.in-Err-cut_down.ensures.moves (ap (λ (m : Meta). m.ranges) c.in-Err-cut_down.ensures.same)
