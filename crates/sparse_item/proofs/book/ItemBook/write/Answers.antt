use Rattle.std.proofs.Common.{◌+◌, length, sym, ap, ◌∙◌, subst}
use Rattle.item_core.specs.declared.entry.FileKind.TheVariants as kinds
use Rattle.item_core.specs.History.{is_kept}
use Rattle.item_core.specs.Legal.{Allows}
use Rattle.item_meta.specs.declared.meta.Meta.{Meta}
use Rattle.sparse_item.specs.Answers.{IsWritable}
use Rattle.sparse_item.specs.Item.{Item}
use Rattle.sparse_item.proofs.Kept.{no_meta, opened_kept}
use Rattle.sparse_item.proofs.Steps.{moved_sound, same_past, with_meta, wrote_sound}
use Rattle.sparse_item.proofs.Writing.{adds_grow, may_write}
use Rattle.sparse_item.proofs.book.ItemBook.write.Goals as goal

pub note-requires-clause-allowed : goal.note-requires-clause-allowed
note-requires-clause-allowed g c =
    let fits = subst (λ n. IsWritable c.start_of-pos.result n) c.len-len.ensures (c.is_too_far.ensures.near c.if-is_too_far.false) in
    subst (λ past. Allows past (kinds.Write c.start_of-pos.result c.args.payload) c.args.by) (sym (ap (λ (v : Item). v.log.past) c.reserve.ensures.same))
    (may_write c.args.self.now.log.past c.start_of-pos.result c.args.payload c.args.by c.start_of-pos.ensures.legal c.requires.open fits)

pub unreachable-requires : goal.unreachable-requires
unreachable-requires g c =
    no_meta c.self.invariant
    (ap (λ (v : Item). is_kept v.log.past) (c.self.view_is ∙ c.reserve.ensures.same) ∙ opened_kept c.args.self.now.log.past c.args.by.pass c.start_of-pos.ensures.legal c.requires.open)
    c.in_default-meta.is

pub invariant_of-self : goal.invariant_of-self
invariant_of-self g c = same_past (wrote_sound c.args.by c.in-Ok-put_down.at c.args.payload (with_meta c.self.invariant c.in-Some.is) c.in-Ok-put_down.ensures.ok c.in-Ok.ensures
    (adds_grow _ _ (record { start = c.start_of-pos.result; end = c.start_of-pos.result + length c.in-Ok.bytes }) c.in-Ok-put_down.ensures.adds)) c.push.ensures.past

pub invariant_of-self-in-Err-put_down : goal.invariant_of-self-in-Err-put_down
invariant_of-self-in-Err-put_down g c = moved_sound (with_meta c.self.invariant c.in-Some.is) c.in-Err-put_down.ensures.moves (ap (λ (m : Meta). m.ranges) c.in-Err-put_down.ensures.same)
