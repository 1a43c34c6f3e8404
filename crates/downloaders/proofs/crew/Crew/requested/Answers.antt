use Rattle.std.proofs.Common.{rules, arith}
use Rattle.downloaders.specs.Crew.{Team}
use Rattle.downloaders.proofs.Teams.{asked_team}
use Rattle.downloaders.proofs.crew.Crew.requested.Goals as goal

pub insert-requires : goal.insert-requires
insert-requires c =
    let team : Team = record { direct = c.self.inside.direct; list = c.self.inside.members.items } in
    let room = (asked_team team c.args.self.now c.args.run c.args.start c.args.end c.args.chunk c.self.view_is c.self.invariant c.requires.open c.requires.some c.requires.size).0 in
    (search rules, (omega arith, rw c.leave_out.ensures room))

pub invariant_of-self : goal.invariant_of-self
invariant_of-self c =
    let team : Team = record { direct = c.self.inside.direct; list = c.self.inside.members.items } in
    let ok = (asked_team team c.args.self.now c.args.run c.args.start c.args.end c.args.chunk c.self.view_is c.self.invariant c.requires.open c.requires.some c.requires.size).1 in
    rw (c.insert.ensures.items, c.leave_out.ensures) ok
