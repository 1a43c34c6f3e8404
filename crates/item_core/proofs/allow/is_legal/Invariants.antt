use Rattle.std.proofs.Common.{take, reverse}
use Rattle.item_core.specs.Legal.{IsLegal}
use Rattle.item_core.proofs.allow.is_legal.Given as goal

abbrev pub invariant-loop-index : goal.invariant-loop-index
invariant-loop-index l = IsLegal (reverse (take l.index l.entries))
