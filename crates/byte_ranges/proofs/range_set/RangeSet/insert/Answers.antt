use Rattle.byte_ranges.proofs.Joined.{IsUnion, merged, inserted}
use Rattle.byte_ranges.proofs.range_set.RangeSet.insert.Goals as goal

met : (c : goal.After-replace) → IsUnion c.self.inside.spans.items c.replace.new.spans.items c.args.span
met c =
    let from_front = rw c.deref.ensures.value at c.ending_below-from.ensures.front in
    let from_back = rw c.deref.ensures.value at c.ending_below-from.ensures.back in
    let to_bound = rw c.deref-2.ensures.value at c.starting_by-to.ensures.bound in
    let to_front = rw c.deref-2.ensures.value at c.starting_by-to.ensures.front in
    let to_back = rw c.deref-2.ensures.value at c.starting_by-to.ensures.back in
    rw c.replace.ensures
    (merged c.self.inside.spans.items c.ending_below-from.result c.starting_by-to.result c.args.span c.index.result.now
    c.index-then-from-to.result.now c.min-start.result c.max-end.result c.if-from-to.true to_bound
    c.self.invariant c.requires from_front from_back to_front to_back c.index.ensures c.index-then-from-to.ensures
    c.min-start.ensures c.max-end.ensures)

apart : (c : goal.In_ok-insert) → IsUnion c.self.inside.spans.items c.insert.new.self.items c.args.span
apart c =
    let from_front = rw c.deref.ensures.value at c.ending_below-from.ensures.front in
    let to_back = rw c.deref-2.ensures.value at c.starting_by-to.ensures.back in
    rw c.in_ok-insert.ensures.items
    (inserted c.self.inside.spans.items c.ending_below-from.result c.starting_by-to.result c.args.span c.if-from-to.false
    c.self.invariant c.requires from_front to_back)

pub invariant_of-self : goal.invariant_of-self
invariant_of-self c = (met c).canonical

pub returns-then-from-to-clause-union : goal.returns-then-from-to-clause-union
returns-then-from-to-clause-union c p = rw (← c.self.view_is) ((met c).same p)

pub returns-then-from-to-clause-canonical : goal.returns-then-from-to-clause-canonical
returns-then-from-to-clause-canonical c = (met c).canonical

pub invariant_of-self-in-Continue-1 : goal.invariant_of-self-in-Continue-1
invariant_of-self-in-Continue-1 c = (apart c).canonical

pub returns-in_ok-insert-clause-union : goal.returns-in_ok-insert-clause-union
returns-in_ok-insert-clause-union c p = rw (← c.self.view_is) ((apart c).same p)

pub returns-in_ok-insert-clause-canonical : goal.returns-in_ok-insert-clause-canonical
returns-in_ok-insert-clause-canonical c = (apart c).canonical
