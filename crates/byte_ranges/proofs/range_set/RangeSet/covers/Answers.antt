use Rattle.byte_ranges.proofs.Runs.{covers_when}
use Rattle.byte_ranges.proofs.range_set.RangeSet.covers.Goals as goal

pub returns : goal.returns
returns c =
    covers_when c.args.self.now c.args.span c.first_missing.result c.is_none.result c.first_missing.ensures.first c.is_none.ensures
