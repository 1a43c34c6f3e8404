use Rattle.std.proofs.Common.{rules, Some, ◌∷◌, ap, sym, ◌∙◌, subst}
use Rattle.atomic_table.specs.Table.{rest}
use Rattle.pass_lock.specs.Lists.{GrowsBy}
use Rattle.pass_lock.specs.Slots.{out_with}
use Rattle.pass_lock.proofs.Keeps.{raises, releases}
use Rattle.pass_lock.proofs.lock.PassLock.unlock.Goals as goal

pub store-requires : goal.store-requires
store-requires g c =
    let pass = c.args.pass.now in
    let state = c.args.held.state in
    let out = pass.carries ∙ ap out_with c.requires.locking in
    let slot = ap (λ m. m.1) c.exchange.ensures.3 ∙ ap (λ l. (0, Some state) ∷ rest l) out in
    let same = ap (λ m. m.0) c.exchange.ensures.3 in (
      c.exchange.ensures.0 ∙ c.requires.own,
      search rules,
      raises g.S.Logged.entries g.S.Logged.belongs g.S.Logged.terms _ _ _ state _ (ap (λ v. v.holds) same ∙ c.requires.locking) (ap (λ v. v.told_numbers) same ∙ pass.settled.1) slot
          (subst (λ v. GrowsBy g.S.Logged.belongs v.numbers v.seen (g.S.Logged.entries state)) (sym same) c.requires.grows) c.count-count.ensures,
    )

pub swap-requires : goal.swap-requires
swap-requires g c =
    let pass = c.args.pass.now in
    let state = c.args.held.state in
    let out = pass.carries ∙ ap out_with c.requires.locking in
    let slot = ap (λ m. m.1) c.exchange.ensures.3 ∙ ap (λ l. (0, Some state) ∷ rest l) out in
    let now = c.store.ensures.2.1 state slot in (
      c.store.ensures.0 ∙ (c.exchange.ensures.0 ∙ c.requires.own),
      search rules,
      releases g.S.Logged.entries g.S.Logged.belongs g.S.Logged.terms _ _ _ state c.args.self.now.sized.1 (ap (λ v. v.holds) now) (c.store.ensures.2.0 ∙ slot) (ap (λ v. v.seen) now)
          (ap (λ v. v.terms) now ∙ (ap (λ m. m.0.terms) c.exchange.ensures.3 ∙ c.requires.terms)),
    )
