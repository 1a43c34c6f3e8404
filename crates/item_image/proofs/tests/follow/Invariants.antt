use Rattle.item_meta.specs.InRange.{IsMeta}
use Rattle.item_image.proofs.tests.follow.Given as goal

abbrev pub invariant-loop-now : goal.invariant-loop-now
invariant-loop-now g l = IsMeta l.meta
