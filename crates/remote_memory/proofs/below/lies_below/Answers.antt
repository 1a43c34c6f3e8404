use Rattle.std.proofs.Common.{sym}
use Rattle.remote_memory.proofs.Beneath.{below_by, below_none}
use Rattle.remote_memory.proofs.below.lies_below.Goals as goal

pub returns-in-Some : goal.returns-in-Some
returns-in-Some c = sym (below_by c.args.dir.now c.args.path.now c.in-Some._rest.now c.in-Some.ensures.some)

pub returns-in-None : goal.returns-in-None
returns-in-None c = sym (below_none c.args.dir.now c.args.path.now c.in-None.ensures.none)
