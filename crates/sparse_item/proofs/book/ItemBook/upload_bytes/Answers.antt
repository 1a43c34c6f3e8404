use Rattle.sparse_item.proofs.UploadSteps.{upload_begun}
use Rattle.sparse_item.proofs.book.ItemBook.upload_bytes.Goals as goal

pub block-requires-clause-begun : goal.block-requires-clause-begun
block-requires-clause-begun g c = upload_begun c.args.self.now.log.past c.args.upload.now.start c.args.upload.now.version c.requires.upload
