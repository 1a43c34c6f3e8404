use Rattle.std.proofs.Common.{sym, subst}
use Rattle.run_words.specs.Times.{IsTime}
use Rattle.run_words.proofs.read.asked.Goals as goal

pub returns-in_default-plan-clause-none : goal.returns-in_default-plan-clause-none
returns-in_default-plan-clause-none c = λ asked ask.
    c.in_default-plan.ensures.none asked.plan.chunk asked.plan.limit ask.chunk ask.limit

pub returns-in_default-time_of-clause-none : goal.returns-in_default-time_of-clause-none
returns-in_default-time_of-clause-none c = λ asked ask.
    c.in_default-time_of.ensures.none asked.write_back
    (subst (λ word. IsTime word asked.write_back) (sym c.given_or-word.ensures) ask.write_back)
