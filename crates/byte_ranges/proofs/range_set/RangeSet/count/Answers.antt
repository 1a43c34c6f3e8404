use Rattle.std.proofs.Common.{◌≡◌, ◌∙◌, ap, arith}
use Rattle.std.proofs.lemmas.List.{take_all}
use Rattle.byte_ranges.specs.Ranges.{IsCanonical, total_length}
use Rattle.byte_ranges.proofs.Counts.{total_is_count, total_front, total-take}
use Rattle.byte_ranges.proofs.Sorted.{each_from}
use Rattle.byte_ranges.proofs.range_set.RangeSet.count.Goals as goal

pub overflow_sub-count : goal.overflow_sub-count
overflow_sub-count c =
    let sorted : IsCanonical c.deref-span-items.result.now = rw c.deref-span-items.ensures.value c.self.invariant in
    let here = each_from 0 c.deref-span-items.result.now c.loop-span.span-index (record { start = 0; end = 0 }) sorted c.loop-span-test.true in
    omega (arith, here.1)

pub overflow_add-count : goal.overflow_add-count
overflow_add-count c =
    let sorted : IsCanonical c.deref-span-items.result.now = rw c.deref-span-items.ensures.value c.self.invariant in
    let here = each_from 0 c.deref-span-items.result.now c.loop-span.span-index (record { start = 0; end = 0 }) sorted c.loop-span-test.true in
    let front = total_front 0 c.deref-span-items.result.now c.loop-span.span-index (record { start = 0; end = 0 }) sorted c.loop-span-test.true in
    omega (arith, here.1, front, c.loop-span.invariant)

pub loop-span-preserved : goal.loop-span-preserved
loop-span-preserved c =
    let step = total-take c.deref-span-items.result.now c.loop-span.span-index (record { start = 0; end = 0 }) c.loop-span-test.true in
    omega (arith, step, c.loop-span.invariant)

pub returns-clause-bytes : goal.returns-clause-bytes
returns-clause-bytes c n h =
    let all : c.loop-span.count ≡ total_length c.args.self.now =
    c.loop-span.invariant ∙ ap total_length (take_all c.loop-span.span-index c.deref-span-items.result.now c.loop-span-test.false ∙ c.deref-span-items.ensures.value ∙ c.self.view_is) in
    all ∙ total_is_count 0 c.args.self.now n (rw (← c.self.view_is) c.self.invariant) h
