use Rattle.item_image.proofs.LawProofs.{restart_finds}
use Rattle.item_image.proofs.laws.a_restart_finds_the_file.Goals as goal

pub returns : goal.returns
returns c = restart_finds
