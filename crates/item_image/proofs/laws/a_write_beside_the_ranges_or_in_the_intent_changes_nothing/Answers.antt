use Rattle.item_image.proofs.LawProofs.{beside_stands, intent_stands}
use Rattle.item_image.proofs.laws.a_write_beside_the_ranges_or_in_the_intent_changes_nothing.Goals as goal

pub returns-clause-beside : goal.returns-clause-beside
returns-clause-beside c = beside_stands

pub returns-clause-intent : goal.returns-clause-intent
returns-clause-intent c = intent_stands
