use Rattle.std.proofs.Common.{rules, ap, ◌∙◌, sym, subst, ℕ}
use Rattle.pass_lock.specs.Lists.{Has}
use Rattle.pass_lock.proofs.Numbers.{Has-first}
use Rattle.pass_lock.proofs.Keeps.{looks, splits_fresh}
use Rattle.pass_lock.proofs.lock.PassLock.split.Goals as goal

pub load-requires : goal.load-requires
load-requires g c = (c.requires.own, search rules, looks g.S.Logged.entries g.S.Logged.belongs g.S.Logged.terms _ _ _)

pub split_seat-seat-requires : goal.split_seat-seat-requires
split_seat-seat-requires g c =
    let p = c.args.pass.now in
    let same = ap (λ m. m.0) c.load.ensures.2.0 in (
      c.load.ensures.0 ∙ c.requires.own,
      search rules,
      splits_fresh g.S.Logged.entries g.S.Logged.belongs g.S.Logged.terms _ _ (ap (λ v. v.holds) same ∙ c.requires.free)
          (subst (λ v. Has v.numbers 0) (sym same) (subst (λ (n : ℕ). Has p.seat.me.0.numbers n) c.requires.first (Has-first _ _ p.named))),
    )
