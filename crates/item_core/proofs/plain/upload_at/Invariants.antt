use Rattle.std.proofs.Common.{◌≡◌, take, reverse}
use Rattle.item_core.specs.History.{upload_at}
use Rattle.item_core.proofs.plain.upload_at.Given as goal

abbrev pub invariant-loop-index : goal.invariant-loop-index
invariant-loop-index l = l.found ≡ upload_at (reverse (take l.index l.entries)) l.start
