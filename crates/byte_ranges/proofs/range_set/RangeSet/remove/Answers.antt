use Rattle.std.proofs.Common.{◌≡◌, ℕ}
use Rattle.std.specs.Prelude.{OnOk, not, ◌&&◌}
use Rattle.std.proofs.lemmas.List.Elements.{recursion_from_All}
use Rattle.byte_ranges.specs.Ranges.{has, is_in, IsCanonical}
use Rattle.byte_ranges.proofs.Joined.{all_drop_more}
use Rattle.byte_ranges.proofs.Removed.{untouched, removed, removal}
use Rattle.byte_ranges.proofs.range_set.RangeSet.remove.Goals as goal

pub returns-then-to-from-clause-difference : goal.returns-then-to-from-clause-difference
returns-then-to-from-clause-difference c p =
    let from_front = rw c.deref.ensures.value at c.ending_below-from.ensures.front in
    let to_back = rw c.deref-2.ensures.value at c.starting_by-to.ensures.back in
    rw (← c.self.view_is)
    (untouched c.self.inside.spans.items 0 c.ending_below-from.result c.args.span p c.self.invariant
    (recursion_from_All _ _ from_front)
    (all_drop_more _ c.starting_by-to.result c.ending_below-from.result c.self.inside.spans.items c.if-to-from.true
    (recursion_from_All _ _ to_back)))

left : (c : goal.After-leave) → IsCanonical c.leave.new.spans.items × OnOk c.leave.result ((p : ℕ) → has c.leave.new.spans.items p ≡ (has c.self.inside.spans.items p && not (is_in c.args.span p)))
left c =
    let from_front = rw c.deref.ensures.value at c.ending_below-from.ensures.front in
    let from_back = rw c.deref.ensures.value at c.ending_below-from.ensures.back in
    let to_bound = rw c.deref-2.ensures.value at c.starting_by-to.ensures.bound in
    let to_front = rw c.deref-2.ensures.value at c.starting_by-to.ensures.front in
    let to_back = rw c.deref-2.ensures.value at c.starting_by-to.ensures.back in
    removal c.leave.result c.self.inside.spans.items c.leave.new.spans.items _ c.args.span c.self.invariant c.leave.ensures.ok c.leave.ensures.err
    (removed c.self.inside.spans.items c.ending_below-from.result c.starting_by-to.result c.args.span c.index.result.now
    c.index-2.result.now c.if-to-from.false to_bound c.self.invariant c.requires from_front from_back to_front to_back
    c.index.ensures c.index-2.ensures)

pub invariant_of-self : goal.invariant_of-self
invariant_of-self c = (left c).0

pub returns-clause-difference : goal.returns-clause-difference
returns-clause-difference c = rw (← c.self.view_is) ((left c).1)

pub returns-clause-canonical : goal.returns-clause-canonical
returns-clause-canonical c = (left c).0
