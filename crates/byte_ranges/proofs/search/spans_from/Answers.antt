use Rattle.std.proofs.lemmas.List.{take_rest}
use Rattle.std.proofs.lemmas.List.Elements.{recursion_from_All}
use Rattle.byte_ranges.proofs.Runs.{has_from, canonical_drop}
use Rattle.byte_ranges.proofs.search.spans_from.Goals as goal

pub returns-clause-canonical : goal.returns-clause-canonical
returns-clause-canonical c =
    rw take_rest (canonical_drop c.ending_below-at.result 0 c.args.spans.now c.requires.canonical)

pub returns-clause-same : goal.returns-clause-same
returns-clause-same c p h =
    rw take_rest (has_from c.ending_below-at.result c.args.n p c.args.spans.now (recursion_from_All _ _ c.ending_below-at.ensures.front) h)
