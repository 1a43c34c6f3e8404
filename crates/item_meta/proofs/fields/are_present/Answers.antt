use Rattle.item_meta.proofs.Within.{below_from_ends, ends_from_below}
use Rattle.item_meta.proofs.fields.are_present.Goals as goal

pub returns-then-is_canonical : goal.returns-then-is_canonical
returns-then-is_canonical c = (
  λ yes. (c.is_canonical.ensures.0 c.if-is_canonical.true, below_from_ends c.args.size c.args.spans.now (c.end_by.ensures.0 yes)),
  λ present. c.end_by.ensures.1 (ends_from_below c.args.size c.args.spans.now present.0 present.1),
)
