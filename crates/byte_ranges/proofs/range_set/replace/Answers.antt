use Rattle.std.proofs.Common.{◌≡◌, ◌<◌, length, suc, arith}
use Rattle.std.proofs.lemmas.List.{set_split}
use Rattle.byte_ranges.proofs.range_set.replace.Goals as goal

pub returns-else-from-to : goal.returns-else-from-to
returns-else-from-to c =
    let one : c.args.to ≡ suc c.args.from = omega (arith, c.requires.some, c.if-from-to.false) in
    let in' : c.args.from < length c.args.spans.now.items = omega (arith, c.requires.some, c.requires.within) in
    rw (one, set_split c.args.spans.now.items c.args.from c.args.span in')
