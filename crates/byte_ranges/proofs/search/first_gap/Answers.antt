use Rattle.byte_ranges.proofs.Runs.{gap_before_front, gap_between}
use Rattle.byte_ranges.proofs.search.first_gap.Goals as goal

pub returns-in-len1-up : goal.returns-in-len1-up
returns-in-len1-up c =
    gap_before_front c.args.spans.now c.args.span _ c.min.result c.in-len1-up.len_at_least c.requires.canonical c.requires.some
    c.if-span-here.true c.min.ensures

pub returns-in-len2-up : goal.returns-in-len2-up
returns-in-len2-up c =
    gap_between c.args.spans.now c.args.span _ c.min-in-len2-up.result c.in-len2-up.len_at_least c.requires.canonical c.requires.ends
    c.if-span-here.false c.if-span-here-2.false c.min-in-len2-up.ensures
