use Rattle.item_upload.proofs.Standing.{open_started}
use Rattle.item_upload.proofs.tests.bench.stands.Goals as goal

pub returns-clause-begun : goal.returns-clause-begun
returns-clause-begun g c is = open_started c.args.book.now.log.past c.args.upload.now.start (record { version = c.args.upload.now.version; pass = 0 }) (c.is_open.ensures is)
