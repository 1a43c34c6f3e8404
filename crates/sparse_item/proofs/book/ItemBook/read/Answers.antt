use Rattle.std.proofs.Common.{◌≡◌, ◌∙◌, ◌<◌, List, sym, ap, subst, arith}
use Rattle.item_core.specs.declared.entry.Entry.{Entry}
use Rattle.item_core.specs.declared.entry.FileKind.TheVariants as kinds
use Rattle.item_core.specs.History.{is_kept, opens_of}
use Rattle.item_core.specs.Legal.{Allows}
use Rattle.item_core.proofs.Counts.{opens_by_le}
use Rattle.sparse_item.specs.Item.{Item}
use Rattle.sparse_item.specs.Reading.{Shows}
use Rattle.sparse_item.specs.Sound.{is_begun}
use Rattle.sparse_item.proofs.Kept.{opened_kept}
use Rattle.sparse_item.proofs.Opened.{begun_open}
use Rattle.sparse_item.proofs.book.ItemBook.read.Goals as goal

pub show-requires-clause-begun : goal.show-requires-clause-begun
show-requires-clause-begun g c =
    let past = c.args.self.now.log.past in
    let some : 0 < opens_of past = omega (arith, opens_by_le past c.entries.ensures.legal c.args.by.pass, c.requires.open) in
    ap (λ (v : Item). is_begun v.log.past) c.reserve.ensures.same ∙ begun_open past some

pub show-requires-clause-kept : goal.show-requires-clause-kept
show-requires-clause-kept g c =
    ap (λ (v : Item). is_kept v.log.past) c.reserve.ensures.same ∙ opened_kept c.args.self.now.log.past c.args.by.pass c.entries.ensures.legal c.requires.open

pub note-requires-clause-allowed : goal.note-requires-clause-allowed
note-requires-clause-allowed g c =
    let past = c.args.self.now.log.past in
    let same : c.show.new.self.log.past ≡ past = ap (λ (v : Item). v.log.past) c.in-Ok.ensures.same ∙ ap (λ (v : Item). v.log.past) c.reserve.ensures.same in
    subst (λ (xs : List Entry). Allows xs (kinds.Read c.args.pos c.args.len) c.args.by) (sym same)
    (opened_kept past c.args.by.pass c.entries.ensures.legal c.requires.open, c.requires.open, c.if-len-gt-MOST.false)

pub returns-in-Ok-clause-bytes : goal.returns-in-Ok-clause-bytes
returns-in-Ok-clause-bytes g c =
    subst (λ (v : Item). Shows g.F.CacheFile.tells g.O.Object.tells v c.args.pos c.args.len c.in-Ok.bytes) c.reserve.ensures.same c.in-Ok.ensures.bytes
