use Rattle.std.proofs.Common.{◌≡◌, ◌+◌, ◌<◌, length, suc, arith}
use Rattle.byte_ranges.proofs.Removed.{set_last_front, kept_some}
use Rattle.byte_ranges.proofs.range_set.leave.Goals as goal

pub returns-in_ok-insert-in-true-true-clause-ok : goal.returns-in_ok-insert-in-true-true-clause-ok
returns-in_ok-insert-in-true-true-clause-ok c =
    let one : c.args.to ≡ suc c.args.from = omega (arith, c.if-to-from-eq1.true, c.requires.some) in
    let in' : c.args.from < length c.args.spans.now.items = omega (arith, c.requires.some, c.requires.within) in
    rw (kept_some c.args.before c.in-true-true.is-0, kept_some c.args.after c.in-true-true.is-1, c.in_ok-insert-in-true-true.ensures.items, one)
    (set_last_front c.args.spans.now.items c.args.from c.args.before _ in')

pub returns-in-true-true-2-clause-ok : goal.returns-in-true-true-2-clause-ok
returns-in-true-true-2-clause-ok c =
    let one : c.args.from + 1 ≡ suc c.args.from = omega arith in
    let in' : c.args.from < length c.args.spans.now.items = omega (arith, c.requires.some, c.requires.within) in
    rw (kept_some c.args.before c.in-true-true.is-0, kept_some c.args.after c.in-true-true.is-1, c.replace.ensures, one)
    (set_last_front c.args.spans.now.items c.args.from c.args.before _ in')
