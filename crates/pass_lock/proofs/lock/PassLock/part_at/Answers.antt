use Rattle.std.proofs.Common.{rules, subst, ℕ}
use Rattle.pass_lock.specs.Lists.{Has}
use Rattle.pass_lock.proofs.Keeps.{splits_out}
use Rattle.pass_lock.proofs.lock.PassLock.part_at.Goals as goal

pub split_seat-seat-requires : goal.split_seat-seat-requires
split_seat-seat-requires g c = (
  c.requires.own,
  search rules,
  splits_out g.S.Logged.entries g.S.Logged.belongs g.S.Logged.terms _ _ g.J.Chosen.number c.requires.free (subst (λ (n : ℕ). Has c.args.pass.now.seat.me.0.numbers n) c.requires.chosen c.requires.held),
)
