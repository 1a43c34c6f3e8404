-- The state that is out, lent.
use Rattle.std.specs.Borrow.{Lends, MutBor, Fml}
use denote.RattleType.{RattleType}
use Rattle.pass_lock.specs.declared.held.Held.{Held}
use Rattle.pass_lock.specs.contracts.held.Held.{the_row}

-- what is out ends as the last value behind r, out with the same pass
abbrev pub LendsState : (S E T : RattleType) → MutBor (Held S.Denot E.Denot T.Denot) → MutBor S.Denot → Fml
LendsState S E T h r = Lends (the_row S E T) S h r (λ w. record { state = w; place = h.now.place })
