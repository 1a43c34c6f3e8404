use Rattle.std.proofs.Common.{rules, ◌≡◌, true, false, nat_lt}
use Rattle.std.specs.List.Sorted.{IsPartitionPoint}
use Rattle.std.proofs.lemmas.Bool.{ltb-true, ltb-false}
use Rattle.std.proofs.lemmas.List.Elements.{All-weaker}
use Rattle.std.proofs.lemmas.List.Sorted.{IsPartitionPoint-from_clause, IsPartitionedBy-ltb}
use Rattle.byte_ranges.specs.declared.Span.{Span}
use Rattle.byte_ranges.proofs.Sorted.{ends_rise, all_in_front, all_in_back}
use Rattle.byte_ranges.proofs.search.ending_below.Goals as goal

partitioned : (c : goal.After-partition_point) → IsPartitionPoint (λ (s : Span). nat_lt s.end c.args.n ≡ true) (λ (s : Span). nat_lt s.end c.args.n ≡ false) c.args.spans.now c.partition_point.result
partitioned c =
    IsPartitionPoint-from_clause (λ (s : Span). nat_lt s.end c.args.n) c.args.spans.now c.partition_point.result
    c.partition_point.ensures.partitioned
    (IsPartitionedBy-ltb (λ (s : Span). s.end) c.args.spans.now c.args.n (ends_rise 0 c.args.spans.now c.requires))
    (λ a r f' k. search rules)

pub returns-clause-front : goal.returns-clause-front
returns-clause-front c =
    All-weaker _ _ (λ s h. ltb-true s.end c.args.n h) _ (all_in_front (λ (s : Span). nat_lt s.end c.args.n ≡ true) c.partition_point.result c.args.spans.now (partitioned c).0)

pub returns-clause-back : goal.returns-clause-back
returns-clause-back c =
    All-weaker _ _ (λ s h. ltb-false s.end c.args.n h) _ (all_in_back (λ (s : Span). nat_lt s.end c.args.n ≡ false) c.partition_point.result c.args.spans.now (partitioned c).1)
