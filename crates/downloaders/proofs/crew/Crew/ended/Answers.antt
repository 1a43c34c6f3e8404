use Rattle.downloaders.proofs.Teams.{less_team}
use Rattle.downloaders.proofs.crew.Crew.ended.Goals as goal

pub invariant_of-self : goal.invariant_of-self
invariant_of-self c = rw c.leave_out.ensures (less_team _ c.args.run c.self.invariant)
