use Rattle.byte_ranges.proofs.Unique.{canonical_when, canonical_unless}
use Rattle.byte_ranges.proofs.range_set.is_canonical.Goals as goal

pub returns-then-none_empty : goal.returns-then-none_empty
returns-then-none_empty c =
    canonical_when c.args.spans.now c.none_touching.result (c.none_empty.ensures.0 c.if-none_empty.true) c.none_touching.ensures

pub returns-else-none_empty : goal.returns-else-none_empty
returns-else-none_empty c = canonical_unless c.args.spans.now c.none_empty.result c.if-none_empty.false c.none_empty.ensures
