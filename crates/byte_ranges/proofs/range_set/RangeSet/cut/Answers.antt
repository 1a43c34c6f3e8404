use Rattle.std.proofs.Common.{set, ◌-◌, refl}
use Rattle.byte_ranges.proofs.Trimmed.{IsCut, cut_last, cut_all}
use Rattle.byte_ranges.proofs.range_set.RangeSet.cut.Goals as goal

trimmed : (c : goal.After-self-1) → IsCut c.self.inside.spans.items (set c.truncate.new.self.items (c.starting_by-kept.result - 1) (record { start = c.index_mut.result.now.start; end = c.min.result })) c.args.n
trimmed c =
    let bound = rw c.deref.ensures.value at c.starting_by-kept.ensures.bound in
    let front = rw c.deref.ensures.value at c.starting_by-kept.ensures.front in
    let back = rw c.deref.ensures.value at c.starting_by-kept.ensures.back in
    cut_last c.self.inside.spans.items c.truncate.new.self.items c.starting_by-kept.result c.in-Some.last c.args.n _ c.min.result
    c.index.result.now c.index_mut.result.now c.in-Some.ensures c.if-kept-gt0.true bound c.truncate.ensures.items
    c.self.invariant front back c.index.ensures c.index_mut.ensures.value refl c.min.ensures

pub invariant_of-self-then-kept-gt0 : goal.invariant_of-self-then-kept-gt0
invariant_of-self-then-kept-gt0 c = (trimmed c).canonical

pub returns-then-kept-gt0-clause-below : goal.returns-then-kept-gt0-clause-below
returns-then-kept-gt0-clause-below c p = rw (← c.self.view_is) ((trimmed c).same p)

pub returns-then-kept-gt0-clause-canonical : goal.returns-then-kept-gt0-clause-canonical
returns-then-kept-gt0-clause-canonical c = (trimmed c).canonical

pub returns-else-kept-gt0-clause-below : goal.returns-else-kept-gt0-clause-below
returns-else-kept-gt0-clause-below c p =
    let back = rw c.deref.ensures.value at c.starting_by-kept.ensures.back in
    rw (← c.self.view_is)
    (cut_all c.self.inside.spans.items c.truncate.new.self.items c.starting_by-kept.result c.in-Some.last c.args.n p
    c.in-Some.ensures c.if-kept-gt0.false c.truncate.ensures.items back)
