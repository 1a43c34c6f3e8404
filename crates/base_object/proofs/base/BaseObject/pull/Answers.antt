use Rattle.std.proofs.Common.{rules}
use Rattle.byte_ranges.specs.Ranges.{has}
use Rattle.downloaders.proofs.Ends.{asks_are}
use Rattle.base_object.proofs.base.BaseObject.pull.Goals as goal

pub returns-in-Bound-clause-ends : goal.returns-in-Bound-clause-ends
returns-in-Bound-clause-ends g c =
    asks_are c.args.plan.now c.args.span c.args.base_end (λ p. has c.args.present.now p) c.args.self.now.crew c.requires.chunk c.pull_bound.ensures.team

pub returns-after-covers-clause-ends : goal.returns-after-covers-clause-ends
returns-after-covers-clause-ends g c =
    asks_are c.args.plan.now c.args.span c.args.base_end (λ p. has c.args.present.now p) c.args.self.now.crew c.requires.chunk (search rules)
