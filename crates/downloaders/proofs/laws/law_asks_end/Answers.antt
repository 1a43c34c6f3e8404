use Rattle.byte_ranges.specs.Ranges.{has}
use Rattle.downloaders.proofs.Plans.{asks_once, asks_cover}
use Rattle.downloaders.proofs.Ends.{asks_are}
use Rattle.downloaders.proofs.laws.law_asks_end.Goals as goal

pub returns-clause-ends : goal.returns-clause-ends
returns-clause-ends c =
    asks_are c.args.plan.now c.args.span c.args.base_end (λ p. has c.args.present.now p) c.args.crew.now c.requires c.is_direct-crew.ensures.team

pub returns-clause-one : goal.returns-clause-one
returns-clause-one c xs ys =
    asks_once c.args.plan.now c.args.span c.args.base_end (λ p. has c.args.present.now p) c.args.crew.now xs ys

pub returns-clause-here : goal.returns-clause-here
returns-clause-here c xs =
    asks_cover c.args.plan.now c.args.span c.args.base_end (λ p. has c.args.present.now p) c.args.crew.now xs
