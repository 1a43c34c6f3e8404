use Rattle.item_image.proofs.LawProofs.{quiet_stands}
use Rattle.item_image.proofs.laws.a_quiet_call_changes_nothing.Goals as goal

pub returns : goal.returns
returns c = quiet_stands
