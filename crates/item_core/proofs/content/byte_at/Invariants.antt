use Rattle.std.proofs.Common.{◌≡◌, take, reverse}
use Rattle.item_core.specs.Content.{byte_at}
use Rattle.item_core.proofs.content.byte_at.Given as goal

abbrev pub invariant-loop-entry : goal.invariant-loop-entry
invariant-loop-entry g l = l.byte ≡ byte_at (g.S.Source.known l.source) (reverse (take l.entry-index l.entries)) l.p
