use Rattle.std.proofs.Common.{rules}
use Rattle.pass_lock.proofs.Keeps.{looks}
use Rattle.pass_lock.proofs.lock.PassLock.audit.Goals as goal

pub load-requires : goal.load-requires
load-requires g c = (c.requires.own, search rules, looks g.S.Logged.entries g.S.Logged.belongs g.S.Logged.terms _ _ _)
