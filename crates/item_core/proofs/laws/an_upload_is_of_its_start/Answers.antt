use Rattle.item_core.proofs.LawProofs.{of_its_start}
use Rattle.item_core.proofs.LawProofs.{whole}
use Rattle.item_core.proofs.laws.an_upload_is_of_its_start.Goals as goal

pub returns-clause-whole : goal.returns-clause-whole
returns-clause-whole c = whole

pub returns-clause-content : goal.returns-clause-content
returns-clause-content c = of_its_start
