use Rattle.std.proofs.Common.{◌≡◌, take, reverse}
use Rattle.std.specs.Prelude.{option_copied}
use Rattle.item_core.specs.Names.{name_of}
use Rattle.item_core.proofs.plain.name_of.Given as goal

abbrev pub invariant-loop-entry : goal.invariant-loop-entry
invariant-loop-entry l = option_copied l.name ≡ name_of (reverse (take l.entry-index l.entries)) (reverse l.names)
