use Rattle.std.proofs.Common.{◌≤◌, reverse, subst, arith}
use Rattle.item_core.specs.History.{base_end_of, size_of}
use Rattle.item_core.specs.Log.{Log}
use Rattle.item_core.proofs.Steps.{based}
use Rattle.item_core.proofs.history.Core.base_end.Goals as goal

pub returns-clause-within : goal.returns-clause-within
returns-clause-within c =
    let P : Log → Type 0 = λ log. c.self.inside.facts.base_end ≤ size_of log.past in
    let h : base_end_of (reverse c.self.inside.entries.items) ≤ size_of (reverse c.self.inside.entries.items) = based _ c.self.invariant.0.legal in
    subst P c.self.view_is (omega (arith, c.self.invariant.0.base_end))
