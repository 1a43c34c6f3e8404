use Rattle.std.proofs.Common.{arith, inl, inr}
use Rattle.session_script.proofs.Sessions.{no_session}
use Rattle.session_script.proofs.line.session_of.Goals as goal

pub returns-else-s-ne0-clause-none : goal.returns-else-s-ne0-clause-none
returns-else-s-ne0-clause-none c = no_session c.args.word.now c.in-Some.digits.now c.in-Some-number_of.s c.in-Some.ensures c.in-Some-number_of.ensures.found.0 c.in-Some-number_of.ensures.found.1 (λ is. elim c.else-s-ne0.either [ inl w ↦ omega arith | inr w ↦ omega arith ])
