use Rattle.downloaders.proofs.Teams.{last_is}
use Rattle.downloaders.proofs.crew.last_run.Goals as goal

pub returns-in-len1-up : goal.returns-in-len1-up
returns-in-len1-up c = last_is c.args.members.now _ c.in-len1-up.len_at_least
