use Rattle.std.proofs.Common.{◌≡◌, ℕ, List, take}
use Rattle.shown_rows.specs.Shown.{shown_by, shown_in}
use Rattle.shown_rows.proofs.rows.ShownRows.of.Given as goal

abbrev pub invariant-loop-row : goal.invariant-loop-row
invariant-loop-row l = (name : List ℕ) → shown_in l.shown name ≡ shown_by (take l.row-index l.rows) name
