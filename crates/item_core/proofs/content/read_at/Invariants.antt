use Rattle.std.proofs.Common.{◌≡◌, reverse}
use Rattle.item_core.specs.Content.{bytes_at}
use Rattle.item_core.proofs.content.read_at.Given as goal

abbrev pub invariant-loop-i : goal.invariant-loop-i
invariant-loop-i g l = l.bytes.items ≡ bytes_at (g.S.Source.known l.source) (reverse l.entries) l.pos l.i
