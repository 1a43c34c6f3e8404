use Rattle.std.proofs.Common.{◌∙◌, List, ap, sym, subst, refl}
use Rattle.byte_ranges.specs.declared.Span.{Span}
use Rattle.item_core.specs.History.{is_kept, size_of}
use Rattle.item_meta.specs.declared.meta.Meta.{Meta}
use Rattle.sparse_item.specs.Item.{IsAllHere, Item}
use Rattle.sparse_item.specs.Views.{here_of}
use Rattle.sparse_item.proofs.Kept.{no_meta}
use Rattle.sparse_item.proofs.Steps.{moved_sound, same_past, touched_sound, with_meta}
use Rattle.sparse_item.proofs.UploadSteps.{saved_kept, uploaded_sound}
use Rattle.sparse_item.proofs.book.ItemBook.upload_save.Goals as goal

pub unreachable-requires : goal.unreachable-requires
unreachable-requires g c =
    no_meta c.self.invariant
    (ap (λ (v : Item). is_kept v.log.past) c.self.view_is
    ∙ saved_kept c.args.self.now.log.past c.args.upload.now.start c.args.print c.args.by c.entries.ensures.legal c.requires.legal)
    c.in_default.is

pub invariant_of-self : goal.invariant_of-self
invariant_of-self g c =
    let past = c.self.inside.core.past in
    let all : IsAllHere (here_of c.self.inside.meta) (size_of past) = subst (λ (v : Item). IsAllHere v.here (size_of v.log.past)) (sym c.self.view_is) c.requires.whole in
    let whole : IsAllHere c.in-Some.meta.ranges (size_of past) = subst (λ (h : List Span). IsAllHere h (size_of past)) (ap here_of c.in-Some.is) all in
    same_past (uploaded_sound c.args.by c.in-Ok.at _ c.args.print (touched_sound c.self.inside.atime (with_meta c.self.invariant c.in-Some.is) refl) c.in-Ok.ensures.ok c.in-Ok.ensures.uploaded
    whole c.in-Ok.ensures.at c.unbound.ensures.state c.unbound.ensures.object) c.push.ensures.past

pub invariant_of-self-in-Err-Failed : goal.invariant_of-self-in-Err-Failed
invariant_of-self-in-Err-Failed g c = moved_sound (touched_sound c.self.inside.atime (with_meta c.self.invariant c.in-Some.is) refl) c.in-Err-Failed.ensures.moves
    (ap (λ (m : Meta). m.ranges) c.in-Err-Failed.ensures.same)

pub invariant_of-self-in-Err-NoMemory : goal.invariant_of-self-in-Err-NoMemory
invariant_of-self-in-Err-NoMemory g c = moved_sound (touched_sound c.self.inside.atime (with_meta c.self.invariant c.in-Some.is) refl) c.in-Err-NoMemory.ensures.moves
    (ap (λ (m : Meta). m.ranges) c.in-Err-NoMemory.ensures.same)
