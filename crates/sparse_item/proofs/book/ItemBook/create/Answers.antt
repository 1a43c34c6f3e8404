use Rattle.std.proofs.Common.{ℕ, List, reverse, refl, ap, ◌∙◌}
use Rattle.item_image.specs.Next.{fresh_meta}
use Rattle.sparse_item.specs.Views.{pairs_of}
use Rattle.sparse_item.proofs.Moved.{idles_move}
use Rattle.sparse_item.proofs.Steps.{created_sound, moved_sound, same_given, same_past}
use Rattle.sparse_item.proofs.Sums.{names_push}
use Rattle.sparse_item.proofs.book.ItemBook.create.Goals as goal

pub invariant_of-self-in-Ok-save : goal.invariant_of-self-in-Ok-save
invariant_of-self-in-Ok-save g c = same_past (same_given
    (created_sound c.args.by c.in-Ok-save.at c.args.path c.self.invariant c.in-Ok-save.ensures.ok
    (c.fresh-next.ensures.meta ∙ ap (λ (p : List ℕ). fresh_meta p c.args.by.now) c.in-Ok.ensures) c.in-Ok-save.ensures.at c.none.ensures.state c.none.ensures.object)
    (names_push _ _ _ c.args.path c.make_room.ensures.names c.push_reserved.ensures.items)
    (ap (pairs_of g.O.Object.print_of g.O.Object.bytes) c.make_room.ensures.given))
    c.push.ensures.past

pub invariant_of-self-in-Err-Failed : goal.invariant_of-self-in-Err-Failed
invariant_of-self-in-Err-Failed g c = same_given (moved_sound c.self.invariant (idles_move c.in-Err-Failed.ensures.err) refl)
    (ap reverse c.make_room.ensures.names) (ap (pairs_of g.O.Object.print_of g.O.Object.bytes) c.make_room.ensures.given)

pub invariant_of-self-in-Err-NoMemory : goal.invariant_of-self-in-Err-NoMemory
invariant_of-self-in-Err-NoMemory g c = same_given (moved_sound c.self.invariant (idles_move c.in-Err-NoMemory.ensures.err) refl)
    (ap reverse c.make_room.ensures.names) (ap (pairs_of g.O.Object.print_of g.O.Object.bytes) c.make_room.ensures.given)
