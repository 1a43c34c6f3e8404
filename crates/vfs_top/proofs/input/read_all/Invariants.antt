use Rattle.std.proofs.Common.{◌≤◌, ◌-◌, vec_len}
use Rattle.std.specs.Io.KnownBytes.{Consumes}
use Rattle.vfs_top.proofs.input.read_all.Given as goal

abbrev pub invariant-pieces : goal.invariant-pieces
invariant-pieces g l = Consumes (g.S.Source.left l.fn.source) (g.S.Source.left l.source) l.text.items
    × (g.S.Source.faults l.fn.source ≤ g.S.Source.faults l.source)
    × (vec_len l.text ≤ 16777217)

abbrev pub decreases-pieces : goal.decreases-pieces
decreases-pieces g l = 16777217 - vec_len l.text
