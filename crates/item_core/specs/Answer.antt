-- What a call is answered, by its place in the history.
use Rattle.std.specs.Prelude.{ℕ, ◌-◌, List, length, drop, min}
use Rattle.vfs_names.specs.Payload.{payload_len}
use Rattle.vfs_names.specs.declared.refusal.Refusal.{Refusal}
use Rattle.item_core.specs.declared.entry.Entry.{Entry}
use Rattle.item_core.specs.declared.entry.FileKind.{FileKind}
use Rattle.item_core.specs.declared.entry.FileKind.TheVariants.{Write, SetSize, Read, Stat, Opened, Closed, Rename, Discard, Refused}
use Rattle.item_core.specs.History.{size_of}
use Rattle.item_core.specs.Content.{Known, bytes_at}

-- the history as it was before the entry at an index. Indexes count from the oldest entry
abbrev pub before : List Entry → ℕ → List Entry
before past index = drop (length past - index) past

pub data Answer : Type 0 where
  bytes : List ℕ → Answer
  number : ℕ → Answer
  done : Answer
  refused : Refusal → Answer
  silent : Answer

-- what an entry of this kind answers after these entries; silent where it answers nothing by itself
abbrev pub answer_of : Known → List Entry → FileKind → Answer
answer_of known past (Read pos len) = bytes (bytes_at known past pos (min len (size_of past - pos)))
answer_of known past (Write pos payload) = number (payload_len payload)
answer_of known past Stat = number (size_of past)
answer_of known past (SetSize n) = done
answer_of known past (Opened access) = done
answer_of known past Closed = done
answer_of known past (Rename path) = done
answer_of known past Discard = done
answer_of known past (Refused verb why) = refused why
answer_of known past _ = silent
