-- What calls on a file add to its history, and why they are refused.
use Rattle.std.specs.Prelude.{◌≡◌, ◌⊎◌, ◌<◌, ◌≤◌, ℕ, ◌+◌, ◌^◌, ◌==◌, ◌++◌, ◌||◌, if◌then◌else◌, true, false, List, [], ◌∷◌}
use Rattle.byte_ranges.specs.Ranges.{has, is_in}
use Rattle.byte_ranges.specs.declared.Span.{Span}
use Rattle.vfs_names.specs.Payload.{payload_len}
use Rattle.vfs_names.specs.declared.calls.At.{At}
use Rattle.vfs_names.specs.declared.calls.At.TheVariants.{Pos, End}
use Rattle.vfs_names.specs.declared.payload.Payload.{Payload}
use Rattle.vfs_names.specs.declared.refusal.Refusal.{Refusal}
use Rattle.vfs_names.specs.declared.refusal.Refusal.TheVariants as refusals
use Rattle.vfs_names.specs.declared.refusal.Verb.{Verb}
use Rattle.vfs_names.specs.declared.who.By.{By}
use Rattle.vfs_outside.specs.Causes.{Rose}
use Rattle.vfs_outside.specs.declared.disk_error.DiskError.{DiskError}
use Rattle.vfs_outside.specs.declared.disk_error.DiskError.TheVariants.{Failed, NoMemory}
use Rattle.item_core.specs.declared.entry.Entry.{Entry}
use Rattle.item_core.specs.declared.entry.FileKind.{FileKind}
use Rattle.item_core.specs.declared.entry.FileKind.TheVariants.{Refused}
use Rattle.item_core.specs.History.{is_dirty, is_kept, opens_of, size_of}
use Rattle.item_core.specs.Log.{free}
use Rattle.item_image.specs.Entries.{made}
use Rattle.sparse_item.specs.Item.{Item}
use Rattle.sparse_item.specs.Moves.{settling}

-- the history has one more entry, made as the call ended
abbrev pub Enters : By → FileKind → Item → Item → Type 0
Enters by kind old new = new.log.past ≡ made by new.slot.calls kind ∷ old.log.past

-- a call that is refused for the disk says so in the history; one for another cause adds nothing
abbrev pub refused : By → ℕ → Verb → Refusal → List Entry
refused by at verb refusals.DiskFault = made by at (Refused verb refusals.DiskFault) ∷ []
refused by at verb _ = []

abbrev pub EntersRefusal : By → Verb → Item → Item → Refusal → Type 0
EntersRefusal by verb old new why = new.log.past ≡ refused by new.slot.calls verb why ++ old.log.past

-- with what a call is refused for the disk
abbrev pub refusal_for : DiskError → Refusal
refusal_for Failed = refusals.DiskFault
refusal_for NoMemory = refusals.NoMemory

-- Why a call is refused that can be so for places, memory or the disk. For the disk it is only where the file's count of
-- faults rose.
abbrev pub IsDiskCause : Item → Item → Refusal → Type 0
IsDiskCause old new refusals.DiskFault = Rose old.slot.faults new.slot.faults
IsDiskCause old new refusals.HistoryFull = Unit {0}
IsDiskCause old new refusals.NoMemory = Unit {0}
IsDiskCause old new _ = ⊥

-- the same, of a call that can be refused for a length or an end as well
abbrev pub IsCause : Item → Item → Refusal → Type 0
IsCause old new refusals.TooBig = Unit {0}
IsCause old new refusals.DiskFault = Rose old.slot.faults new.slot.faults
IsCause old new refusals.HistoryFull = Unit {0}
IsCause old new refusals.NoMemory = Unit {0}
IsCause old new _ = ⊥

-- fewer places are free than the call needs
abbrev pub IsFull : Item → ℕ → Type 0
IsFull item needed = free item.log < needed

-- where a write begins
abbrev pub start_of : At → List Entry → ℕ
start_of (Pos pos) past = pos
start_of End past = size_of past

-- a write of so many bytes is one that a file can take
abbrev pub IsWritable : ℕ → ℕ → Type 0
IsWritable pos len = (len ≤ 131072) × (pos + len ≤ 2 ^ 40)

-- a write is too long, or ends too far
abbrev pub IsTooFar : ℕ → ℕ → Type 0
IsTooFar pos len = (131072 < len) ⊎ (2 ^ 40 < pos + len)

-- the number of the call by which a write takes effect: that of its save, which comes after the one that settles a
-- pending write; an empty write makes no call
abbrev pub save_of : Item → Payload → ℕ
save_of item payload = if payload_len payload == 0 then item.slot.calls else item.slot.calls + settling item.pending + 1

-- the span's bytes are here beside those that were
abbrev pub Adds : List Span → List Span → Span → Type 0
Adds here here' span = (p : ℕ) → has here' p ≡ (has here p || is_in span p)

-- the cache has nothing of the file, or there is content that no upload saved, or a handle is open
abbrev pub IsInUse : List Entry → Type 0
IsInUse past = (is_kept past ≡ false) ⊎ (is_dirty past ≡ true) ⊎ (0 < opens_of past)

-- the file is kept, with no handle open and no content that no upload saved
abbrev pub IsEvictable : List Entry → Type 0
IsEvictable past = (is_kept past ≡ true) × (is_dirty past ≡ false) × (opens_of past ≡ 0)
