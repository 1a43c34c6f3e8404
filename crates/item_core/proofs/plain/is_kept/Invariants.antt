use Rattle.std.proofs.Common.{◌≡◌, take, reverse}
use Rattle.item_core.specs.History.{is_kept}
use Rattle.item_core.proofs.plain.is_kept.Given as goal

abbrev pub invariant-loop-entry : goal.invariant-loop-entry
invariant-loop-entry l = l.kept ≡ is_kept (reverse (take l.entry-index l.entries))
