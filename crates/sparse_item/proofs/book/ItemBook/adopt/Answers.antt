use Rattle.std.proofs.Common.{ℕ, List, ◌∷◌, reverse, refl, ap, ◌∙◌}
use Rattle.vfs_names.specs.declared.fingerprint.Fingerprint.{Fingerprint}
use Rattle.item_core.specs.declared.entry.FileKind.TheVariants as kinds
use Rattle.item_image.specs.Entries.{made}
use Rattle.item_image.specs.Next.{adopted_meta}
use Rattle.item_image.specs.Premise.{Pairs}
use Rattle.base_object.specs.Base.{facts_of}
use Rattle.sparse_item.specs.Views.{pairs_of}
use Rattle.sparse_item.proofs.Moved.{idles_move}
use Rattle.sparse_item.proofs.Steps.{adopted_sound, moved_sound, same_given, same_past}
use Rattle.sparse_item.proofs.Sums.{names_push, pairs_push}
use Rattle.sparse_item.proofs.book.ItemBook.adopt.Goals as goal

pub invariant_of-self-in-Ok-save : goal.invariant_of-self-in-Ok-save
invariant_of-self-in-Ok-save g c =
    let o = facts_of g.O.Object.print_of g.O.Object.bytes g.O.Object.faults g.O.Object.changes g.O.Object.asked c.args.object in
    same_past (same_given
    (adopted_sound c.args.by c.in-Ok-save.at c.args.path o c.self.invariant c.in-Ok-save.ensures.ok
    (c.adopted-next.ensures.meta ∙ ap (λ (p : List ℕ). adopted_meta p c.print-print.result c.args.by.now) c.in-Ok.ensures
    ∙ ap (λ (f : Fingerprint). adopted_meta c.args.path f c.args.by.now) c.print-print.ensures)
    c.in-Ok-save.ensures.at c.of-in-Ok-save.ensures.state c.of-in-Ok-save.ensures.object)
    (names_push _ _ _ c.args.path c.make_room.ensures.names c.push_reserved.ensures.items)
    (pairs_push g.O.Object.print_of g.O.Object.bytes _ _ c.of.result c.args.object c.push_reserved-in-Ok-save.ensures.items c.of.ensures
    ∙ ap (λ (ps : Pairs). (g.O.Object.print_of c.args.object, g.O.Object.bytes c.args.object) ∷ ps) (ap (pairs_of g.O.Object.print_of g.O.Object.bytes) c.make_room.ensures.given)))
    (c.push.ensures.past ∙ ap (λ (f : Fingerprint). made c.args.by c.in-Ok-save.at (kinds.Adopt f) ∷ c.self.inside.core.past) c.print-print.ensures)

pub invariant_of-self-in-Err-Failed : goal.invariant_of-self-in-Err-Failed
invariant_of-self-in-Err-Failed g c = same_given (moved_sound c.self.invariant (idles_move c.in-Err-Failed.ensures.err) refl)
    (ap reverse c.make_room.ensures.names) (ap (pairs_of g.O.Object.print_of g.O.Object.bytes) c.make_room.ensures.given)

pub invariant_of-self-in-Err-NoMemory : goal.invariant_of-self-in-Err-NoMemory
invariant_of-self-in-Err-NoMemory g c = same_given (moved_sound c.self.invariant (idles_move c.in-Err-NoMemory.ensures.err) refl)
    (ap reverse c.make_room.ensures.names) (ap (pairs_of g.O.Object.print_of g.O.Object.bytes) c.make_room.ensures.given)
