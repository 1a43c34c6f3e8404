use Rattle.item_core.proofs.LawProofs.{open_kept}
use Rattle.item_core.proofs.LawProofs.{dirty_kept}
use Rattle.item_core.proofs.laws.changed_files_are_kept.Goals as goal

pub returns-clause-dirty : goal.returns-clause-dirty
returns-clause-dirty c = dirty_kept

pub returns-clause-open : goal.returns-clause-open
returns-clause-open c = open_kept
