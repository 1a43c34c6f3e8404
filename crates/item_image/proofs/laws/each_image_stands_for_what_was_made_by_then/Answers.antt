use Rattle.item_image.proofs.Steps.{images}
use Rattle.item_image.proofs.laws.each_image_stands_for_what_was_made_by_then.Goals as goal

pub returns : goal.returns
returns c past names saved pairs meta slot b known f i k h = images b tt known f i k h
