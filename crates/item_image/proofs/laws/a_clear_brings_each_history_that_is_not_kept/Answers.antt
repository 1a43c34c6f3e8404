use Rattle.item_image.proofs.LawProofs.{clear_stands}
use Rattle.item_image.proofs.laws.a_clear_brings_each_history_that_is_not_kept.Goals as goal

pub returns : goal.returns
returns c = clear_stands
