use Rattle.std.proofs.Common.{rules, arith, sym, ◌∙◌, subst}
use Rattle.pass_lock.specs.Lists.{Has}
use Rattle.pass_lock.proofs.Keeps.{tries, awaits}
use Rattle.pass_lock.proofs.lock.PassLock.take.Goals as goal

pub compare_exchange-requires : goal.compare_exchange-requires
compare_exchange-requires g c = (c.requires.own, search rules, tries g.S.Logged.entries g.S.Logged.belongs g.S.Logged.terms _ _ 1 _ (λ e. omega arith) c.requires.numbered)

pub swap-requires : goal.swap-requires
swap-requires g c =
    let same = c.loop.invariant.me in
    let number = c.requires.numbered in (
      c.loop.invariant.table ∙ c.requires.own,
      search rules,
      awaits g.S.Logged.entries g.S.Logged.belongs g.S.Logged.terms _ _ 2 _ (λ e. omega arith) (number.0, subst (λ m. Has m.0.numbers number.0) (sym same) number.1),
    )
