-- What a directory shows at each name.
use Rattle.std.specs.Prelude.{ℕ, List, Option}
use Rattle.std.specs.Option.{option_map}
use Rattle.std.specs.HashMap.{get_by_text, spare}
use Rattle.vfs_names.specs.declared.fingerprint.Fingerprint.{Fingerprint}
use Rattle.vfs_outside.specs.Told.{row_of}
use Rattle.vfs_outside.specs.declared.listing.Kind.{Kind}
use Rattle.vfs_outside.specs.declared.listing.Kind.TheVariants as kind
use Rattle.vfs_outside.specs.declared.listing.Row.{Row}
use Rattle.shown_rows.specs.declared.rows.Shown.{Shown}
use Rattle.shown_rows.specs.declared.rows.Shown.TheVariants.{Dir, Object}
use Rattle.shown_rows.specs.declared.rows.ShownRows.{ShownRows}

-- a row's kind says whether it shows a directory or an object with the row's fingerprint
abbrev pub shown_as : Kind → Fingerprint → Shown
shown_as kind.Dir print = Dir
shown_as kind.File print = Object print

abbrev pub shown_of : Row → Shown
shown_of row = shown_as row.kind row.print

-- what rows show at a name: what the row of this name says
abbrev pub shown_by : List Row → List ℕ → Option Shown
shown_by rows name = option_map shown_of (row_of name rows)

-- what a directory shows at a name: the value at the text with these bytes
abbrev pub shown_in : ShownRows → List ℕ → Option Shown
shown_in shown name = get_by_text shown.map name

-- how many more names a directory can show without taking memory
abbrev pub room_in : ShownRows → ℕ
room_in shown = spare shown.map
