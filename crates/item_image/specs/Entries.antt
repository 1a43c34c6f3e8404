-- Entries as the book makes them.
use Rattle.std.specs.Prelude.{ℕ, ◌==◌, Bool, true, false}
use Rattle.vfs_names.specs.Payload.{payload_len}
use Rattle.vfs_names.specs.declared.who.By.{By}
use Rattle.item_core.specs.declared.entry.Entry.{Entry}
use Rattle.item_meta.specs.declared.meta.Meta.{Meta}
use Rattle.item_core.specs.declared.entry.FileKind.{FileKind}
use Rattle.item_core.specs.declared.entry.FileKind.TheVariants.{Recovered, Bind, Write, Read, Stat, Opened, Closed, UploadStart, Uploaded, UploadDropped, Refused}

abbrev pub made : By → ℕ → FileKind → Entry
made by at kind = record { by = by; at = at; kind = kind }

-- a file that an image had when the epoch began, of which nothing was called yet
abbrev pub recovered_entry : By → Meta → Entry
recovered_entry by meta = made by 0 (Recovered meta.size meta.base_end meta.dirty meta.base)

-- an entry that changes nothing that metadata tell, and no byte
abbrev pub is_plain : FileKind → Bool
is_plain (Bind print) = true
is_plain (Write pos payload) = payload_len payload == 0
is_plain (Read pos len) = true
is_plain Stat = true
is_plain (Opened access) = true
is_plain Closed = true
is_plain (UploadStart version) = true
is_plain (UploadDropped start why) = true
is_plain (Refused verb why) = true
is_plain _ = false

-- an upload that ended by saving
abbrev pub is_saving : FileKind → Bool
is_saving (Uploaded start print) = true
is_saving _ = false
