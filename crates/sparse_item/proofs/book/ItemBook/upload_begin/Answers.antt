use Rattle.std.proofs.Common.{◌≡◌, ◌∙◌, ap}
use Rattle.item_core.specs.History.{is_kept, is_owed, version_of}
use Rattle.sparse_item.specs.Item.{Item}
use Rattle.sparse_item.proofs.UploadSteps.{owed_kept}
use Rattle.sparse_item.proofs.book.ItemBook.upload_begin.Goals as goal

pub note-requires-clause-allowed : goal.note-requires-clause-allowed
note-requires-clause-allowed g c =
    let past = c.args.self.now.log.past in
    let same : c.reserve.new.self.log.past ≡ past = ap (λ (v : Item). v.log.past) c.reserve.ensures.same in (
      ap is_kept same ∙ owed_kept past c.entries.ensures.legal c.requires.owed,
      ap is_owed same ∙ c.requires.owed,
      c.version-version.ensures ∙ ap (λ (v : Item). version_of v.log.past) c.self.view_is,
    )
