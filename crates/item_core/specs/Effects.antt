-- What one entry says of each plain fact of a file.
use Rattle.std.specs.Prelude.{ℕ, ◌+◌, ◌==◌, ◌||◌, Bool, true, false, max, min, if◌then◌else◌, not, Option, Some, None}
use Rattle.vfs_names.specs.Payload.{payload_len}
use Rattle.vfs_names.specs.declared.fingerprint.Fingerprint.{Fingerprint}
use Rattle.item_core.specs.declared.entry.FileKind.{FileKind}
use Rattle.item_core.specs.declared.entry.FileKind.TheVariants.{Create, Recovered, Adopt, Write, SetSize, Opened, Closed, UploadStart, Uploaded, UploadDropped, Evict, Discard}

-- the size after an entry, from the size before it
abbrev pub size_after : FileKind → ℕ → ℕ
size_after Create old = 0
size_after (Recovered size base_end dirty base) old = size
size_after (Adopt print) old = print.size
size_after (Write pos payload) old = if payload_len payload == 0 then old else max old (pos + payload_len payload)
size_after (SetSize size) old = size
size_after _ old = old

-- the end of what the base object gives, from the size and that end before the entry
abbrev pub base_end_after : FileKind → ℕ → ℕ → ℕ
base_end_after Create size old = 0
base_end_after (Recovered size' base_end dirty base) size old = base_end
base_end_after (Adopt print) size old = print.size
base_end_after (SetSize n) size old = min n old
base_end_after (Uploaded start print) size old = size
base_end_after _ size old = old

-- the fingerprint of the object that the file holds
abbrev pub held_after : FileKind → Option Fingerprint → Option Fingerprint
held_after Create old = None
held_after (Recovered size base_end dirty base) old = base
held_after (Adopt print) old = Some print
held_after (Uploaded start print) old = Some print
held_after _ old = old

-- the file is kept from Create, Adopt or Recovered until Evict or Discard
abbrev pub kept_after : FileKind → Bool → Bool
kept_after Create old = true
kept_after (Recovered size base_end dirty base) old = true
kept_after (Adopt print) old = true
kept_after Evict old = false
kept_after Discard old = false
kept_after _ old = old

-- a new version of the content begins: by Create, SetSize and a Write that isn't empty
abbrev pub raises : FileKind → Bool
raises Create = true
raises (Write pos payload) = not (payload_len payload == 0)
raises (SetSize n) = true
raises _ = false

-- the content isn't saved: a new version began, and no Uploaded, Discard or Adopt stands after it
abbrev pub dirty_after : FileKind → Bool → Bool
dirty_after (Recovered size base_end dirty base) old = dirty
dirty_after (Uploaded start print) old = false
dirty_after Discard old = false
dirty_after (Adopt print) old = false
dirty_after kind old = raises kind || old

abbrev pub is_opened : FileKind → Bool
is_opened (Opened access) = true
is_opened _ = false

abbrev pub is_closed : FileKind → Bool
is_closed Closed = true
is_closed _ = false

-- an upload begins
abbrev pub is_start : FileKind → Bool
is_start (UploadStart version) = true
is_start _ = false

-- an upload ends, saved or dropped
abbrev pub is_end : FileKind → Bool
is_end (Uploaded start print) = true
is_end (UploadDropped start why) = true
is_end _ = false

-- the free places that an entry takes: an open handle and a begun upload keep one for their end, which takes none then
abbrev pub places : FileKind → ℕ
places (Opened access) = 2
places (UploadStart version) = 2
places Closed = 0
places (Uploaded start print) = 0
places (UploadDropped start why) = 0
places _ = 1
