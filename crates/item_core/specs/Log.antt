-- What a caller sees of a file's history.
use Rattle.std.specs.Prelude.{ℕ, ◌+◌, ◌-◌, List, length}
use Rattle.item_core.specs.declared.entry.Entry.{Entry}
use Rattle.item_core.specs.History.{opens_of, begun_of}

-- the entries, the newest first; the most that there may be; and the places for which room is made, those that are kept aside
pub record Log : Type 0 where
  pub past : List Entry
  pub limit : ℕ
  pub spare : ℕ

-- the places that are kept for the ends of the open handles and of the uploads
abbrev pub kept_places : List Entry → ℕ
kept_places past = opens_of past + begun_of past

-- the places in use: those of the entries, and those that are kept
abbrev pub used : List Entry → ℕ
used past = length past + kept_places past

-- the places below the limit that aren't in use
abbrev pub free : Log → ℕ
free log = log.limit - used log.past
