use Rattle.byte_ranges.specs.Ranges.{IsCanonical}
use Rattle.byte_ranges.proofs.Unique.{one_list}
use Rattle.byte_ranges.proofs.range_set.law_one_list.Goals as goal

pub returns : goal.returns
returns c same =
    let left : IsCanonical c.args.a.now = rw (← c.a.view_is) c.a.invariant in
    let right : IsCanonical c.args.b.now = rw (← c.b.view_is) c.b.invariant in
    one_list c.args.a.now c.args.b.now left right same
