use Rattle.vfs_names.proofs.Slashes.{last_slash_is, no_slash_is}
use Rattle.vfs_names.proofs.path.last_slash.Goals as goal

pub returns-clause-found : goal.returns-clause-found
returns-clause-found c = last_slash_is _ _ c.rfind.ensures.cases

pub returns-clause-none : goal.returns-clause-none
returns-clause-none c = no_slash_is _ _ c.rfind.ensures.cases
