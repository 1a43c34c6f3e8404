-- A file's history, its newest entry first, and the plain facts that follow from it.
use Rattle.std.specs.Prelude.{ℕ, ◌+◌, ◌-◌, ◌==◌, ◌&&◌, Bool, false, nat_le, if◌then◌else◌, not, Option, Some, None, List, [], ◌∷◌, length}
use Rattle.vfs_names.specs.declared.fingerprint.Fingerprint.{Fingerprint}
use Rattle.item_core.specs.declared.entry.Entry.{Entry}
pub use Rattle.item_core.specs.declared.entry.Upload.{Upload}
use Rattle.item_core.specs.declared.entry.FileKind.{FileKind}
use Rattle.item_core.specs.declared.entry.FileKind.TheVariants.{UploadStart, Uploaded, UploadDropped}
use Rattle.item_core.specs.Effects.{size_after, base_end_after, held_after, kept_after, dirty_after, raises, is_opened, is_closed, is_start, is_end}

abbrev pub size_of : List Entry → ℕ
size_of [] = 0
size_of (e ∷ older) = size_after e.kind (size_of older)

-- below it the base object gives what wasn't written
abbrev pub base_end_of : List Entry → ℕ
base_end_of [] = 0
base_end_of (e ∷ older) = base_end_after e.kind (size_of older) (base_end_of older)

abbrev pub held_by : List Entry → Option Fingerprint
held_by [] = None
held_by (e ∷ older) = held_after e.kind (held_by older)

abbrev pub is_kept : List Entry → Bool
is_kept [] = false
is_kept (e ∷ older) = kept_after e.kind (is_kept older)

abbrev pub is_dirty : List Entry → Bool
is_dirty [] = false
is_dirty (e ∷ older) = dirty_after e.kind (is_dirty older)

-- how many entries are of such a kind
abbrev pub count_of : (FileKind → Bool) → List Entry → ℕ
count_of such [] = 0
count_of such (e ∷ older) = if such e.kind then count_of such older + 1 else count_of such older

-- the number of entries that began a version
abbrev pub version_of : List Entry → ℕ
version_of past = count_of raises past

-- the handles that are open
abbrev pub opens_of : List Entry → ℕ
opens_of past = count_of is_opened past - count_of is_closed past

-- the entries that a pass made
abbrev pub made_by : ℕ → List Entry → List Entry
made_by pass [] = []
made_by pass (e ∷ older) = if e.by.pass == pass then e ∷ made_by pass older else made_by pass older

-- the open handles that a pass made
abbrev pub opens_by : ℕ → List Entry → ℕ
opens_by pass past = opens_of (made_by pass past)

-- the entries after the last one at which the number of open handles fell to 0
abbrev pub since_rest : List Entry → List Entry
since_rest [] = []
since_rest (e ∷ older) = if is_closed e.kind && (opens_of older == 1) then [] else e ∷ since_rest older

-- a version began since no handle was open
abbrev pub is_modified : List Entry → Bool
is_modified past = not (count_of raises (since_rest past) == 0)

-- the content waits for an upload
abbrev pub is_owed : List Entry → Bool
is_owed past = is_dirty past && not (is_modified past)

-- uploads that began and haven't ended
abbrev pub begun_of : List Entry → ℕ
begun_of past = count_of is_start past - count_of is_end past

-- what an entry that a pass made at an index does to the upload that began at index start
abbrev pub upload_after : FileKind → ℕ → ℕ → ℕ → Option Upload → Option Upload
upload_after (UploadStart version) pass index start old = if index == start then Some (record { version = version; pass = pass }) else old
upload_after (Uploaded ended print) pass index start old = if ended == start then None else old
upload_after (UploadDropped ended why) pass index start old = if ended == start then None else old
upload_after _ pass index start old = old

-- the upload that began at index start, unless it has ended. Indexes count from the oldest entry
abbrev pub upload_at : List Entry → ℕ → Option Upload
upload_at [] start = None
upload_at (e ∷ older) start = upload_after e.kind e.by.pass (length older) start (upload_at older start)

-- the number of calls on the cache file when the newest entry took effect
abbrev pub at_of : List Entry → ℕ
at_of [] = 0
at_of (e ∷ older) = e.at

-- the history as it was after that many calls on the cache file
abbrev pub place : List Entry → ℕ → List Entry
place [] calls = []
place (e ∷ older) calls = if nat_le e.at calls then e ∷ older else place older calls
