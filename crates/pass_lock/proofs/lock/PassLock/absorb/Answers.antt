use Rattle.std.proofs.Common.{rules, ap, ◌∙◌}
use Rattle.pass_lock.specs.Slots.{out_with}
use Rattle.pass_lock.proofs.Numbers.{Has-first}
use Rattle.pass_lock.proofs.Keeps.{joins, merges}
use Rattle.pass_lock.proofs.lock.PassLock.absorb.Goals as goal

pub join_seat-requires : goal.join_seat-requires
join_seat-requires g c =
    let pass = c.args.pass.now in
    let other = c.args.other in (
      c.requires.own,
      c.requires.other_own,
      other.carries ∙ ap out_with c.requires.other_free,
      search rules,
      joins g.S.Logged.entries g.S.Logged.belongs g.S.Logged.terms _ _ _ _ c.requires.free c.requires.other_free (pass.number, Has-first _ _ pass.named) pass.settled.1 other.settled.1,
    )

pub load-pass-requires : goal.load-pass-requires
load-pass-requires g c = (c.join_seat.ensures.0 ∙ c.requires.own, search rules, merges g.S.Logged.entries g.S.Logged.belongs g.S.Logged.terms _ _ _ (ap (λ m. m.0.holds) c.join_seat.ensures.2))
