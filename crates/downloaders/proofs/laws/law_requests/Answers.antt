use Rattle.byte_ranges.specs.Ranges.{has}
use Rattle.downloaders.proofs.Plans.{asks_fresh, asks_within}
use Rattle.downloaders.proofs.laws.law_requests.Goals as goal

pub returns-clause-within : goal.returns-clause-within
returns-clause-within c xs =
    asks_within c.args.plan.now c.args.span c.args.base_end (λ p. has c.args.present.now p) c.args.crew.now xs c.requires c.is_direct-crew.ensures.team

pub returns-clause-absent : goal.returns-clause-absent
returns-clause-absent c xs =
    asks_fresh c.args.plan.now c.args.span c.args.base_end (λ p. has c.args.present.now p) c.args.crew.now xs
