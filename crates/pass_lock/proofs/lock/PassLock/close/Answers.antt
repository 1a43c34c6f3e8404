use Rattle.std.proofs.Common.{rules, ◌≡◌, ◌<◌, ℕ, Some, sym, ◌∙◌, subst}
use mathlib.Core.Option.{some-injective}
use Rattle.pass_lock.proofs.Keeps.{same_some, Ends, ends}
use Rattle.pass_lock.proofs.lock.PassLock.close.Given as given
use Rattle.pass_lock.proofs.lock.PassLock.close.Goals as goal

pub unwrap-state-requires : goal.unwrap-state-requires
unwrap-state-requires g c =
    let pass = c.args.pass in
    let e = ends g.S.Logged.entries g.S.Logged.belongs g.S.Logged.terms _ _ _ _ c.requires.free c.requires.first (λ n lt. c.requires.all n (subst (λ (m : ℕ). n < m) pass.counted lt)) c.close_with-closed.ensures.values.2 in
    let is : c.take.result ≡ Some e.0 = some-injective _ _ (sym c.take.ensures.value ∙ e.1) in
    search rules

-- what the last state gives, of the state that is returned
gives : (g : given.Over) (c : goal.After-free g) → Ends g.S.Logged.entries g.S.Logged.belongs g.S.Logged.terms c.args.pass.seat.me.0 c.unwrap-state.result
gives g c =
    let pass = c.args.pass in
    let e = ends g.S.Logged.entries g.S.Logged.belongs g.S.Logged.terms _ _ _ _ c.requires.free c.requires.first (λ n lt. c.requires.all n (subst (λ (m : ℕ). n < m) pass.counted lt)) c.close_with-closed.ensures.values.2 in
    let is : c.take.result ≡ Some e.0 = some-injective _ _ (sym c.take.ensures.value ∙ e.1) in
    subst (λ x. Ends g.S.Logged.entries g.S.Logged.belongs g.S.Logged.terms pass.seat.me.0 x) (same_some _ _ (sym is ∙ c.unwrap-state.ensures)) e.2

pub returns-clause-list : goal.returns-clause-list
returns-clause-list g c = (gives g c).list

pub returns-clause-mine : goal.returns-clause-mine
returns-clause-mine g c = (gives g c).mine

pub returns-clause-terms : goal.returns-clause-terms
returns-clause-terms g c = (gives g c).agreed
