use Rattle.std.proofs.Common.{◌≡◌, take, reverse, ◌≤◌}
use Rattle.item_core.specs.History.{count_of, made_by}
use Rattle.item_core.specs.Effects.{is_opened, is_closed}
use Rattle.item_core.proofs.plain.opens_by.Given as goal

abbrev pub invariant-loop-entry : goal.invariant-loop-entry
invariant-loop-entry l = (l.opened ≡ count_of is_opened (made_by l.pass (reverse (take l.entry-index l.entries)))) × (l.closed ≡ count_of is_closed (made_by l.pass (reverse (take l.entry-index l.entries)))) × (l.opened ≤ l.entry-index) × (l.closed ≤ l.entry-index)
