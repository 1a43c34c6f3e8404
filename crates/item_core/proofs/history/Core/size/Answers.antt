use Rattle.std.proofs.Common.{arith}
use Rattle.item_core.proofs.Steps.{sized}
use Rattle.item_core.proofs.history.Core.size.Goals as goal

pub returns-clause-small : goal.returns-clause-small
returns-clause-small c = omega (arith, c.self.invariant.0.size, sized _ c.self.invariant.0.legal)
