use Rattle.std.proofs.Common.{ap}
use Rattle.item_meta.specs.declared.meta.Meta.{Meta}
use Rattle.sparse_item.proofs.Steps.{evicted_sound, moved_sound, same_past, with_meta}
use Rattle.sparse_item.proofs.book.ItemBook.evict.Goals as goal

pub invariant_of-self : goal.invariant_of-self
invariant_of-self g c = same_past (evicted_sound c.args.by c.in-Ok.at (with_meta c.self.invariant c.in-Some.is) c.in-Ok.ensures.ok c.in-Ok.ensures.at c.none.ensures.state c.none.ensures.object)
    c.push.ensures.past

pub invariant_of-self-in-Err-clear_out : goal.invariant_of-self-in-Err-clear_out
invariant_of-self-in-Err-clear_out g c = moved_sound (with_meta c.self.invariant c.in-Some.is) c.in-Err-clear_out.ensures.moves (ap (λ (m : Meta). m.ranges) c.in-Err-clear_out.ensures.same)
