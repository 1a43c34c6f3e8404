use Rattle.std.proofs.Common.{subst, sym, refl}
use Rattle.one_session.specs.Slots.{Lends}
use Rattle.one_session.proofs.Given.{given_as}
use Rattle.one_session.proofs.store.Store.answer.Goals as goal

pub open-requires-clause-file : goal.open-requires-clause-file
open-requires-clause-file g c = (rw c.in-Open.is at c.requires.servable).1

pub returns-in-Open-clause-did : goal.returns-in-Open-clause-did
returns-in-Open-clause-did g c = λ given saved line. rw c.in-Open.is (c.open.ensures.did (g.R.Remote.outside c.open.new.remote).handed line)

pub returns-in-Open-clause-cause : goal.returns-in-Open-clause-cause
returns-in-Open-clause-cause g c = λ line. rw c.in-Open.is (c.open.ensures.cause line)

pub returns-in-Open-clause-stepped : goal.returns-in-Open-clause-stepped
returns-in-Open-clause-stepped g c = λ line. rw c.in-Open.is (c.open.ensures.stepped c.args.plan.now line)

pub returns-in-Read-clause-lends : goal.returns-in-Read-clause-lends
returns-in-Read-clause-lends g c = subst (λ n. Lends g.D.CacheDisk.tells n (g.D.CacheDisk.disk c.args.disk.now)) (sym c.read.ensures.count) c.requires.lends

pub returns-in-Read-clause-did : goal.returns-in-Read-clause-did
returns-in-Read-clause-did g c = λ given saved line. rw c.in-Read.is (c.read.ensures.did (g.R.Remote.outside c.args.remote.now).handed given saved line)

pub returns-in-Read-clause-given : goal.returns-in-Read-clause-given
returns-in-Read-clause-given g c = given_as g.O.Object.tells _ _ _ _ refl (sym c.read.ensures.given)

pub returns-in-Read-clause-stepped : goal.returns-in-Read-clause-stepped
returns-in-Read-clause-stepped g c = λ line. rw c.in-Read.is (c.read.ensures.stepped line)

pub returns-in-Write-clause-lends : goal.returns-in-Write-clause-lends
returns-in-Write-clause-lends g c = subst (λ n. Lends g.D.CacheDisk.tells n (g.D.CacheDisk.disk c.args.disk.now)) (sym c.write.ensures.count) c.requires.lends

pub returns-in-Write-clause-did : goal.returns-in-Write-clause-did
returns-in-Write-clause-did g c = λ given saved line. rw c.in-Write.is (c.write.ensures.did (g.R.Remote.outside c.args.remote.now).handed given line)

pub returns-in-Write-clause-given : goal.returns-in-Write-clause-given
returns-in-Write-clause-given g c = given_as g.O.Object.tells _ _ _ _ refl (sym c.write.ensures.given)

pub returns-in-Write-clause-stepped : goal.returns-in-Write-clause-stepped
returns-in-Write-clause-stepped g c = λ line. rw c.in-Write.is (c.write.ensures.stepped c.args.plan.now line)

pub returns-in-Size-clause-lends : goal.returns-in-Size-clause-lends
returns-in-Size-clause-lends g c = subst (λ n. Lends g.D.CacheDisk.tells n (g.D.CacheDisk.disk c.args.disk.now)) (sym c.set_size.ensures.count) c.requires.lends

pub returns-in-Size-clause-did : goal.returns-in-Size-clause-did
returns-in-Size-clause-did g c = λ given saved line. rw c.in-Size.is (c.set_size.ensures.did (g.R.Remote.outside c.args.remote.now).handed given line)

pub returns-in-Size-clause-given : goal.returns-in-Size-clause-given
returns-in-Size-clause-given g c = given_as g.O.Object.tells _ _ _ _ refl (sym c.set_size.ensures.given)

pub returns-in-Size-clause-stepped : goal.returns-in-Size-clause-stepped
returns-in-Size-clause-stepped g c = λ line. rw c.in-Size.is (c.set_size.ensures.stepped c.args.plan.now line)

pub returns-in-Close-clause-lends : goal.returns-in-Close-clause-lends
returns-in-Close-clause-lends g c = subst (λ n. Lends g.D.CacheDisk.tells n (g.D.CacheDisk.disk c.args.disk.now)) (sym c.close.ensures.count) c.requires.lends

pub returns-in-Close-clause-did : goal.returns-in-Close-clause-did
returns-in-Close-clause-did g c = λ given saved line. rw c.in-Close.is (c.close.ensures.did (g.R.Remote.outside c.args.remote.now).handed given line)

pub returns-in-Close-clause-given : goal.returns-in-Close-clause-given
returns-in-Close-clause-given g c = given_as g.O.Object.tells _ _ _ _ refl (sym c.close.ensures.given)

pub returns-in-Close-clause-stepped : goal.returns-in-Close-clause-stepped
returns-in-Close-clause-stepped g c = λ line. rw c.in-Close.is (c.close.ensures.stepped c.args.plan.now line)

pub returns-in-Write-clause-queued : goal.returns-in-Write-clause-queued
returns-in-Write-clause-queued g c = λ line. rw c.in-Write.is (c.write.ensures.queued line)

pub returns-in-Size-clause-queued : goal.returns-in-Size-clause-queued
returns-in-Size-clause-queued g c = λ line. rw c.in-Size.is (c.set_size.ensures.queued line)

pub returns-in-Close-clause-queued : goal.returns-in-Close-clause-queued
returns-in-Close-clause-queued g c = λ line. rw c.in-Close.is (c.close.ensures.queued line)
