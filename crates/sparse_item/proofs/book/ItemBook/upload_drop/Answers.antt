use Rattle.std.proofs.Common.{◌≡◌, ap, sym, subst}
use Rattle.item_core.specs.declared.entry.FileKind.{FileKind}
use Rattle.item_core.specs.declared.entry.FileKind.TheVariants as kinds
use Rattle.item_core.specs.Legal.{Allows}
use Rattle.sparse_item.specs.Uploading.{Uploading, dropped_as}
use Rattle.sparse_item.proofs.UploadSteps.{may_drop}
use Rattle.sparse_item.proofs.book.ItemBook.upload_drop.Goals as goal

pub note-requires-clause-allowed : goal.note-requires-clause-allowed
note-requires-clause-allowed g c =
    let past = c.args.self.now.log.past in
    let start : c.args.upload.start ≡ c.upload.inside.start = sym (ap (λ (u : Uploading). u.start) c.upload.view_is) in
    let why : dropped_as past c.args.upload ≡ c.dropped_as-why.result = sym c.dropped_as-why.ensures in
    subst (λ (k : FileKind). Allows past k c.args.by) (λ i. kinds.UploadDropped (start i) (why i)) (may_drop past c.args.upload c.args.by c.requires.«open» c.requires.cause)
