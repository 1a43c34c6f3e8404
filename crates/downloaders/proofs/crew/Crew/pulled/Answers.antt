use Rattle.std.proofs.Common.{rules, arith}
use Rattle.downloaders.specs.Crew.{Team}
use Rattle.downloaders.proofs.Teams.{pulled_team}
use Rattle.downloaders.proofs.crew.Crew.pulled.Goals as goal

pub insert-requires : goal.insert-requires
insert-requires c =
    let team : Team = record { direct = c.self.inside.direct; list = c.self.inside.members.items } in
    let now = pulled_team team c.args.self.now c.args.run c.args.len c.member.result c.in-Some.d c.self.view_is c.member.ensures c.in-Some.is c.self.invariant c.requires in
    (search rules, (omega arith, rw c.leave_out.ensures now.0))

pub invariant_of-self : goal.invariant_of-self
invariant_of-self c =
    let team : Team = record { direct = c.self.inside.direct; list = c.self.inside.members.items } in
    let now = pulled_team team c.args.self.now c.args.run c.args.len c.member.result c.in-Some.d c.self.view_is c.member.ensures c.in-Some.is c.self.invariant c.requires in
    rw (c.insert.ensures.items, c.leave_out.ensures, c.from.ensures) now.1

pub returns-in-Some : goal.returns-in-Some
returns-in-Some c =
    let team : Team = record { direct = c.self.inside.direct; list = c.self.inside.members.items } in
    let now = pulled_team team c.args.self.now c.args.run c.args.len c.member.result c.in-Some.d c.self.view_is c.member.ensures c.in-Some.is c.self.invariant c.requires in
    rw (c.insert.ensures.items, c.leave_out.ensures, c.from.ensures) now.2
