use Rattle.std.proofs.Common.{refl, ap}
use Rattle.item_meta.specs.declared.meta.Meta.{Meta}
use Rattle.sparse_item.proofs.Steps.{moved_sound, renamed_sound, same_past, touched_sound, with_meta}
use Rattle.sparse_item.proofs.book.ItemBook.rename_to.Goals as goal

pub invariant_of-self : goal.invariant_of-self
invariant_of-self g c = same_past (renamed_sound c.args.by c.in-Ok.at c.args.path (touched_sound c.self.inside.atime (with_meta c.self.invariant c.in-Some.is) refl)
    c.in-Ok.ensures.ok c.in-Ok.ensures.renamed c.in-Ok.ensures.at) c.push.ensures.past

pub invariant_of-self-in-Err-Failed : goal.invariant_of-self-in-Err-Failed
invariant_of-self-in-Err-Failed g c = moved_sound (touched_sound c.self.inside.atime (with_meta c.self.invariant c.in-Some.is) refl) c.in-Err-Failed.ensures.moves
    (ap (λ (m : Meta). m.ranges) c.in-Err-Failed.ensures.same)

pub invariant_of-self-in-Err-NoMemory : goal.invariant_of-self-in-Err-NoMemory
invariant_of-self-in-Err-NoMemory g c = moved_sound (touched_sound c.self.inside.atime (with_meta c.self.invariant c.in-Some.is) refl) c.in-Err-NoMemory.ensures.moves
    (ap (λ (m : Meta). m.ranges) c.in-Err-NoMemory.ensures.same)
