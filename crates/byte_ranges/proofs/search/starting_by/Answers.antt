use Rattle.std.proofs.Common.{rules, ◌≡◌, true, false, nat_le}
use Rattle.std.specs.List.Sorted.{IsPartitionPoint}
use Rattle.std.proofs.lemmas.Bool.{leb-true, leb-false}
use Rattle.std.proofs.lemmas.List.Elements.{All-weaker}
use Rattle.std.proofs.lemmas.List.Sorted.{IsPartitionPoint-from_clause, IsPartitionedBy-leb}
use Rattle.byte_ranges.specs.declared.Span.{Span}
use Rattle.byte_ranges.proofs.Sorted.{starts_rise, all_in_front, all_in_back}
use Rattle.byte_ranges.proofs.search.starting_by.Goals as goal

partitioned : (c : goal.After-partition_point) → IsPartitionPoint (λ (s : Span). nat_le s.start c.args.n ≡ true) (λ (s : Span). nat_le s.start c.args.n ≡ false) c.args.spans.now c.partition_point.result
partitioned c =
    IsPartitionPoint-from_clause (λ (s : Span). nat_le s.start c.args.n) c.args.spans.now c.partition_point.result
    c.partition_point.ensures.partitioned
    (IsPartitionedBy-leb (λ (s : Span). s.start) c.args.spans.now c.args.n (starts_rise 0 c.args.spans.now c.requires))
    (λ a r f' k. search rules)

pub returns-clause-front : goal.returns-clause-front
returns-clause-front c =
    All-weaker _ _ (λ s h. leb-true s.start c.args.n h) _ (all_in_front (λ (s : Span). nat_le s.start c.args.n ≡ true) c.partition_point.result c.args.spans.now (partitioned c).0)

pub returns-clause-back : goal.returns-clause-back
returns-clause-back c =
    All-weaker _ _ (λ s h. leb-false s.start c.args.n h) _ (all_in_back (λ (s : Span). nat_le s.start c.args.n ≡ false) c.partition_point.result c.args.spans.now (partitioned c).1)
