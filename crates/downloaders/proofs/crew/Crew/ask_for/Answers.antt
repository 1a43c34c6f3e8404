use Rattle.std.proofs.Common.{arith}
use Rattle.downloaders.specs.Crew.{IsTeam}
use Rattle.downloaders.proofs.Steps.{near_order}
use Rattle.downloaders.proofs.crew.Crew.ask_for.Goals as goal

pub pull_len-requires-clause-order : goal.pull_len-requires-clause-order
pull_len-requires-clause-order c =
    let ok : IsTeam c.args.self.now = rw (← c.self.view_is) c.self.invariant in
    (near_order c.args.self.now c.args.byte _ ok c.in-Some.ensures).1

pub pull_len-requires-clause-before : goal.pull_len-requires-clause-before
pull_len-requires-clause-before c =
    let ok : IsTeam c.args.self.now = rw (← c.self.view_is) c.self.invariant in
    omega (arith, (near_order c.args.self.now c.args.byte _ ok c.in-Some.ensures).0)
