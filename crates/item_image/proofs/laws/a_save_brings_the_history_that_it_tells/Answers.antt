use Rattle.item_image.proofs.LawProofs.{save_stands}
use Rattle.item_image.proofs.laws.a_save_brings_the_history_that_it_tells.Goals as goal

pub returns : goal.returns
returns c = save_stands
