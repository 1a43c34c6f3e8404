use Rattle.byte_ranges.proofs.Runs.{run_front, no_run_front}
use Rattle.byte_ranges.proofs.search.first_run.Goals as goal

pub returns-in-len1-up : goal.returns-in-len1-up
returns-in-len1-up c =
    run_front c.args.spans.now c.args.span _ c.max.result c.min.result c.in-len1-up.len_at_least c.requires.canonical
    c.requires.some c.requires.ends c.if-here-span.true c.max.ensures c.min.ensures

pub returns-in_default-2 : goal.returns-in_default-2
returns-in_default-2 c =
    no_run_front c.args.spans.now c.args.span _ c.in-len1-up.len_at_least c.requires.canonical c.if-here-span.false
