use Rattle.item_core.proofs.LawProofs.{zero_past}
use Rattle.item_core.proofs.laws.a_growth_shows_zeros.Goals as goal

pub returns : goal.returns
returns c = zero_past
