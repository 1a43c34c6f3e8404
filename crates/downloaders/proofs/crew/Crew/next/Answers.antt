use Rattle.byte_ranges.specs.Ranges.{has}
use Rattle.downloaders.specs.Rules.{IsNext, IsFirstMissing}
use Rattle.downloaders.proofs.Steps.{some_missing, next_at, first_is, doable}
use Rattle.downloaders.proofs.crew.Crew.next.Goals as goal

first : (c : goal.After-ask_for) → IsFirstMissing (λ p. has c.args.present.now p) c.args.span c.args.base_end c.in-Some.gap.start
first c = some_missing c.args.present.now c.args.span c.in-Some.gap c.args.base_end c.requires.within c.in-Some.ensures.first

rule : (c : goal.After-ask_for) → IsNext c.args.plan.now (λ p. has c.args.present.now p) c.args.self.now c.args.span c.args.base_end c.ask_for.result
rule c = next_at c.args.plan.now (λ p. has c.args.present.now p) c.args.self.now c.args.span c.args.base_end c.in-Some.gap.start c.ask_for.result (first c) c.ask_for.ensures

pub returns-in-Some-clause-rules : goal.returns-in-Some-clause-rules
returns-in-Some-clause-rules c = rule c

pub returns-in-Some-clause-first : goal.returns-in-Some-clause-first
returns-in-Some-clause-first c asks all =
    first_is c.args.plan.now (λ p. has c.args.present.now p) c.args.self.now c.args.span c.args.base_end c.ask_for.result asks (rule c) all

pub returns-in-Some-clause-doable : goal.returns-in-Some-clause-doable
returns-in-Some-clause-doable c =
    doable c.args.plan.now c.args.self.now c.args.span c.args.base_end c.in-Some.gap.start c.ask_for.result c.requires.chunk (rw (← c.self.view_is) c.self.invariant) (first c).to (first c).below c.ask_for.ensures
