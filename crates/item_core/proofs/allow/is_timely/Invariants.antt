use Rattle.std.proofs.Common.{take, reverse}
use Rattle.item_core.specs.Legal.{IsTimely}
use Rattle.item_core.proofs.allow.is_timely.Given as goal

abbrev pub invariant-loop-index : goal.invariant-loop-index
invariant-loop-index l = IsTimely (reverse (take l.index l.entries))
