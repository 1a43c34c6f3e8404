-- Which histories are legal. A history is given with its newest entry first.
use Rattle.std.specs.Prelude.{◌≡◌, ◌≢◌, ◌⊎◌, ℕ, ◌+◌, ◌<◌, ◌≤◌, ◌^◌, Bool, true, false, Option, Some, None, List, [], ◌∷◌, IsSomeAnd}
use Rattle.vfs_names.specs.Payload.{payload_len}
use Rattle.vfs_names.specs.Fingerprint.{agree}
use Rattle.vfs_names.specs.declared.fingerprint.Fingerprint.{Fingerprint}
use Rattle.vfs_names.specs.declared.refusal.Found.{Found}
use Rattle.vfs_names.specs.declared.refusal.Found.TheVariants as found
use Rattle.vfs_names.specs.declared.refusal.Refusal.{Refusal}
use Rattle.vfs_names.specs.declared.refusal.Refusal.TheVariants as refusals
use Rattle.vfs_names.specs.declared.who.By.{By}
use Rattle.item_core.specs.declared.entry.Dropped.{Dropped}
use Rattle.item_core.specs.declared.entry.Dropped.TheVariants as dropped
use Rattle.item_core.specs.declared.entry.Entry.{Entry}
use Rattle.item_core.specs.declared.entry.FileKind.{FileKind}
use Rattle.item_core.specs.declared.entry.FileKind.TheVariants.{Create, Recovered, Bind, Adopt, Write, SetSize, Read, Stat, Opened, Closed, Rename, UploadStart, Uploaded, UploadDropped, Evict, Discard, Refused}
use Rattle.item_core.specs.History.{size_of, held_by, is_kept, version_of, is_dirty, opens_of, opens_by, is_owed, at_of, upload_at}

-- the object that is held agrees with this fingerprint
abbrev pub holds : Option Fingerprint → Fingerprint → Bool
holds None print = false
holds (Some held) print = agree held print

-- what was found isn't the object that was held
abbrev pub IsOther : Fingerprint → Found → Type 0
IsOther held (found.Other print) = agree held print ≡ false
IsOther held _ = Unit {0}

-- a stale refusal tells the fingerprint that the file holds, and another object where it tells one
abbrev pub TellsHeld : Option Fingerprint → Fingerprint → Found → Type 0
TellsHeld holding held found = (holding ≡ Some held) × IsOther held found

-- a read, a write, a change of size or an eviction of a file that holds this can be refused so
abbrev pub IsDeviceRefusal : Option Fingerprint → Refusal → Type 0
IsDeviceRefusal holding refusals.RemoteFault = Unit {0}
IsDeviceRefusal holding refusals.DiskFault = Unit {0}
IsDeviceRefusal holding (refusals.Stale held found) = TellsHeld holding held found
IsDeviceRefusal holding _ = ⊥

-- an upload of a file that holds this can be dropped so
abbrev pub EndsUpload : Option Fingerprint → Refusal → Type 0
EndsUpload holding refusals.NotFound = Unit {0}
EndsUpload holding refusals.RemoteFault = Unit {0}
EndsUpload holding refusals.DiskFault = Unit {0}
EndsUpload holding (refusals.Stale held found) = TellsHeld holding held found
EndsUpload holding refusals.HistoryFull = Unit {0}
EndsUpload holding refusals.NoMemory = Unit {0}
EndsUpload holding _ = ⊥

-- an upload that noted a version may be dropped for this cause, where another version or the same one is present
abbrev pub IsCause : Option Fingerprint → Dropped → ℕ → ℕ → Type 0
IsCause holding (dropped.Cancelled was now) noted present = (was ≡ noted) × (now ≡ present) × (noted ≢ present)
IsCause holding (dropped.Refused why) noted present = EndsUpload holding why × (noted ≡ present)

-- an entry of this kind may be made so after these entries
abbrev pub Allows : List Entry → FileKind → By → Type 0
Allows past Create by = (by.tree ≡ true) × (is_dirty past ≡ false) × (opens_of past ≡ 0)
Allows past (Recovered size base_end dirty base) by = (past ≡ []) × (size ≤ 2 ^ 40) × (base_end ≤ size)
Allows past (Bind print) by = (by.tree ≡ true) × (is_kept past ≡ true) × (holds (held_by past) print ≡ true)
Allows past (Adopt print) by =
    (by.tree ≡ true) × (is_dirty past ≡ false) × (opens_of past ≡ 0) × (print.size ≤ 2 ^ 40)
    × ((is_kept past ≡ false) ⊎ (holds (held_by past) print ≡ false))
Allows past (Write pos payload) by =
    (is_kept past ≡ true) × (0 < opens_by by.pass past) × (payload_len payload ≤ 131072)
    × (pos + payload_len payload ≤ 2 ^ 40)
Allows past (SetSize n) by = (is_kept past ≡ true) × (n ≤ 2 ^ 40) × ((0 < opens_by by.pass past) ⊎ ((n ≡ 0) × (by.tree ≡ true)))
Allows past (Read pos len) by = (is_kept past ≡ true) × (0 < opens_by by.pass past) × (len ≤ 131072)
Allows past Stat by = is_kept past ≡ true
Allows past (Opened access) by = (by.tree ≡ true) × (is_kept past ≡ true)
Allows past Closed by = (by.tree ≡ true) × (0 < opens_by by.pass past)
Allows past (Rename path) by = (by.tree ≡ true) × (is_kept past ≡ true) × (opens_of past ≡ 0)
Allows past (UploadStart version) by = (is_kept past ≡ true) × (is_owed past ≡ true) × (version ≡ version_of past)
Allows past (Uploaded start print) by =
    (by.tree ≡ true) × (is_dirty past ≡ true) × (print.size ≡ size_of past)
    × (upload_at past start ≡ Some (record { version = version_of past; pass = by.pass }))
Allows past (UploadDropped start why) by =
    IsSomeAnd (upload_at past start) (λ upload. (upload.pass ≡ by.pass) × IsCause (held_by past) why upload.version (version_of past))
Allows past Evict by = (is_kept past ≡ true) × (is_dirty past ≡ false) × (opens_of past ≡ 0)
Allows past Discard by = (by.tree ≡ true) × (is_kept past ≡ true) × (opens_of past ≡ 0)
Allows past (Refused verb why) by = IsDeviceRefusal (held_by past) why

-- the entry may come next
pub record MayFollow (past : List Entry) (e : Entry) : Type 0 where
  pub allowed : Allows past e.kind e.by
  pub later : at_of past ≤ e.at

-- each entry was allowed after those before it
abbrev pub IsLegal : List Entry → Type 0
IsLegal [] = Unit {0}
IsLegal (e ∷ older) = MayFollow older e × IsLegal older

-- the newest of these entries is of no later phase or moment than the entry
abbrev pub IsNoLater : List Entry → By → Type 0
IsNoLater [] by = Unit {0}
IsNoLater (e ∷ older) by = (e.by.who.phase ≤ by.who.phase) × (e.by.now ≤ by.now)

-- phase and moment never fall
abbrev pub IsTimely : List Entry → Type 0
IsTimely [] = Unit {0}
IsTimely (e ∷ older) = IsNoLater older e.by × IsTimely older
