use Rattle.std.proofs.Common.{rules, nat_lt}
use Rattle.std.proofs.lemmas.Fn.{always_returns_same}
use Rattle.byte_ranges.specs.declared.Span.{Span}
use Rattle.byte_ranges.proofs.Unique.{touching_answer}
use Rattle.byte_ranges.proofs.range_set.none_touching.Goals as goal

pub returns : goal.returns
returns c =
    touching_answer c.args.spans.now c.is_sorted_by.result
    (c.is_sorted_by.ensures.cases (λ (x y : Span). nat_lt x.end y.start) (always_returns_same _ _ _ (λ a r f' k. search rules)))
