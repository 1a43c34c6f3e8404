use Rattle.std.proofs.Common.{◌≡◌, take, reverse, ◌≤◌}
use Rattle.item_core.specs.Effects.{is_opened, is_closed}
use Rattle.item_core.specs.History.{count_of, is_modified}
use Rattle.item_core.proofs.plain.is_modified.Given as goal

abbrev pub invariant-loop-entry : goal.invariant-loop-entry
invariant-loop-entry l = record {
  opened : l.opened ≡ count_of is_opened (reverse (take l.entry-index l.entries));
  closed : l.closed ≡ count_of is_closed (reverse (take l.entry-index l.entries));
  modified : l.modified ≡ is_modified (reverse (take l.entry-index l.entries));
  few_opened : l.opened ≤ l.entry-index;
  few_closed : l.closed ≤ l.entry-index;
}
