-- How a session's calls, records and handles match the histories.
use Rattle.std.specs.Prelude.{◌≡◌, ◌≢◌, ◌≤◌, ◌+◌, ◌++◌, ℕ, ◌==◌, ◌&&◌, Bool, true, false, Option, Some, None, List, [], ◌∷◌, drop, length, map, max, reverse, take, if◌then◌else◌}
use Rattle.std.specs.List.{AllByRecursion}
use Rattle.vfs_names.specs.declared.fingerprint.Fingerprint.{Fingerprint}
use Rattle.vfs_names.specs.declared.who.Actor.{Actor}
use Rattle.vfs_names.specs.declared.who.Actor.TheVariants.{Main, Session, Worker}
use Rattle.vfs_names.specs.declared.who.By.{By}
use Rattle.vfs_names.specs.declared.who.ItemId.{ItemId}
use Rattle.vfs_outside.specs.declared.tree.TreeEntry.{TreeEntry}
use Rattle.item_core.specs.Content.{Known}
use Rattle.item_image.specs.Premise.{Holds}
use Rattle.item_core.specs.declared.entry.Entry.{Entry}
use Rattle.session_script.specs.declared.call.Call.{Call}
use Rattle.session_script.specs.declared.call.Call.TheVariants as call
use Rattle.session_script.specs.declared.call.CallLine.{CallLine}
use Rattle.session_text.specs.declared.reply.Record.{Record}
use Rattle.session_text.specs.declared.reply.Reply.{Reply}
use Rattle.session_text.specs.declared.reply.Reply.TheVariants as reply
use Rattle.one_session.specs.Calls.{Answers, TreeDoes, FileDoes, IsFull}
use Rattle.one_session.specs.Matching.{entries_of, Matches}
use Rattle.one_session.specs.State.{History, State, entries_in, file_at}
use Rattle.one_session.specs.declared.handle.Handle.{Handle}
use Rattle.vfs_names.specs.declared.refusal.Refusal.TheVariants as why
use Rattle.vfs_names.specs.declared.calls.Access.{Access}
use Rattle.vfs_names.specs.declared.calls.Access.TheVariants as access

-- a call of a session: who made it and when, its line, and what was recorded of it
pub record Served : Type 0 where
  pub by : By
  pub line : CallLine
  pub done : Record

abbrev pub is_session : Actor → ℕ → Bool
is_session Main n = false
is_session (Session m) n = m == n
is_session (Worker m) n = false

-- an entry belongs to the session that made it
abbrev pub in_tree_of : TreeEntry → ℕ → Bool
in_tree_of e session = is_session e.by.who.actor session

abbrev pub in_file_of : Entry → ℕ → Bool
in_file_of e session = is_session e.by.who.actor session

abbrev pub is_done : Reply → Bool
is_done reply.Done = true
is_done _ = false

-- a handle of the file of this place
abbrev pub handle_of : Access → Option (ItemId × ℕ) → Option Handle
handle_of access None = None
handle_of access (Some f) = Some (record { item = f.0.0; access = access })

-- what a call leaves open at a handle, from what was open before
abbrev pub open_after : Call → Record → ℕ → Option Handle → Option Handle
open_after (call.Open h path how) r handle old = if h == handle && is_done r.reply then handle_of how.access r.file else old
open_after (call.Close h) r handle old = if h == handle && is_done r.reply then None else old
open_after _ r handle old = old

-- what is open at a handle after some calls, the newest first: what its last open that was done and wasn't closed left
abbrev pub open_at : List Served → ℕ → Option Handle
open_at [] handle = None
open_at (d ∷ older) handle = open_after d.line.call d.done handle (open_at older handle)

-- each call was answered as its handles stood
abbrev pub AreAnswered : List Served → Type 0
AreAnswered [] = Unit {0}
AreAnswered (d ∷ older) = (d.done.line ≡ d.line.line) × Answers (open_at older) d.line.call d.done × AreAnswered older

-- the end of a history that ended here, after a call with this place or with none
abbrev pub end_after : Option ℕ → ℕ → ℕ
end_after None old = old
end_after (Some k) old = max old (k + 1)

abbrev pub tree_place : Served → Option ℕ
tree_place d = d.done.tree

abbrev pub place_in : ℕ → Option (ItemId × ℕ) → Option ℕ
place_in item None = None
place_in item (Some f) = if f.0.0 == item then Some f.1 else None

abbrev pub file_place : ℕ → Served → Option ℕ
file_place item d = place_in item d.done.file

-- the session's entries of the tree are those of its calls
abbrev pub TreeMatches : ℕ → List History → List TreeEntry → List Served → List TreeEntry → Type 0
TreeMatches session files history = Matches in_tree_of tree_place (λ older d before added. TreeDoes d.by files d.line.call d.done before added) session history

-- and so are its entries of a file, by the contents that hold what was handed out
abbrev pub FileMatches : (Known → Type 0) → ℕ → ℕ → List Entry → List Served → List Entry → Type 0
FileMatches holds item session history = Matches in_file_of (file_place item) (λ older d before added. FileDoes holds d.by d.line.call d.done before added) session history

-- how far some calls, the newest first, reach in a history: to the end of the entry at the greatest of their places
abbrev pub reached : (Served → Option ℕ) → List Served → ℕ
reached place [] = 0
reached place (d ∷ older) = end_after (place d) (reached place older)

-- calls that reach so far reach no further than the history, and nothing behind them is the session's
pub record EndsWithin {E : Type 0} (belongs : E → ℕ → Bool) (session reached : ℕ) (history : List E) : Type 0 where
  pub inside : reached ≤ length history
  pub others : entries_of belongs session (drop reached history) ≡ []

-- A history had its first n entries when a call was made, in a phase, after calls that reach so far: behind those there is
-- nothing of the session's, and nothing in them was done in a later phase.
pub record StoodAt {E : Type 0} (belongs : E → ℕ → Bool) (phase_of : E → ℕ) (session phase reached n : ℕ) (history : List E) : Type 0 where
  pub inside : n ≤ length history
  pub within : EndsWithin belongs session reached (take n history)
  pub no_later : AllByRecursion (λ (e : E). phase_of e ≤ phase) (take n history)

abbrev pub tree_phase : TreeEntry → ℕ
tree_phase e = e.by.who.phase

abbrev pub file_phase : Entry → ℕ
file_phase e = e.by.who.phase

-- as the tree's history and those of the files stood when a call was made, after these, too few places were free
pub record WasFull (session limit : ℕ) (history : List TreeEntry) (files : List History) (d : Served) (older : List Served) : Type 0 where
  pub tree : ℕ
  pub file : ℕ → ℕ
  pub tree_stood : StoodAt in_tree_of tree_phase session d.by.who.phase (reached tree_place older) tree history
  pub file_stood : (item : ℕ) → StoodAt in_file_of file_phase session d.by.who.phase (reached (file_place item) older) (file item) (entries_in files item)
  pub full : IsFull limit (take tree history) (λ item. take (file item) (entries_in files item)) (open_at older) d.line.call

-- a call that was refused since a history is full had too few free places when it was made
abbrev pub AreFull : ℕ → ℕ → List TreeEntry → List History → List Served → Type 0
AreFull session limit history files [] = Unit {0}
AreFull session limit history files (d ∷ older) =
    (d.done.reply ≡ reply.Refused why.HistoryFull → WasFull session limit history files d older) × AreFull session limit history files older

-- What a session's calls, the newest first, left, where no other session calls: each call was answered as its handles stood,
-- and for the tree and for each file the session's entries are, call by call, those that the call adds, its place is the
-- last of them, and its reply is the answer there, by the contents that hold what was handed out. Where a call was refused
-- since a history is full, too few of that many places were free.
pub record IsServed (session : ℕ) (holds : Known → Type 0) (limit : ℕ) (served : List Served) (history : List TreeEntry) (files : List History) : Type 0 where
  pub own : AllByRecursion (λ (d : Served). d.by.who.actor ≡ Session session) served
  pub answered : AreAnswered served
  pub tree : TreeMatches session files history served (entries_of in_tree_of session history)
  pub file : (item : ℕ) → FileMatches holds item session (entries_in files item) served (entries_of in_file_of session (entries_in files item))
  pub full : AreFull session limit history files served

-- the state is what these calls left, the newest first
pub record Fits (session : ℕ) (holds : Known → Type 0) (served : List Served) (s : State) : Type 0 where
  pub matching : IsServed session holds s.limit served s.tree s.files
  pub handles : (handle : ℕ) → file_at s.table handle ≡ open_at served handle
  pub records : s.records ≡ map (λ (d : Served). d.done) (reverse served)
  pub tree_end : EndsWithin in_tree_of session (reached tree_place served) s.tree
  pub file_end : (item : ℕ) → EndsWithin in_file_of session (reached (file_place item) served) (entries_in s.files item)

-- the cache tells its data, and the contents are those of the objects that the store handed out, which tell them
abbrev pub Knows : Type 0 → Type 0 → List (Fingerprint × List ℕ) → Known → Type 0
Knows kept tells handed known = kept × Holds tells handed known

-- one call more was served: it was recorded so, and the new state is what it and the older calls left, by the contents that
-- hold what was handed out before it and after it
pub record Serves (session : ℕ) (kept tells : Type 0) (before after : List (Fingerprint × List ℕ)) (by : By) (line : CallLine) (done : Record) (s t : State) : Type 0 where
  pub fits : (older : List Served) → Fits session (Knows kept tells before) older s → Fits session (Knows kept tells after) (record { by = by; line = line; done = done } ∷ older) t
  pub records : t.records ≡ s.records ++ done ∷ []
  pub limit : t.limit ≡ s.limit
  pub more : List TreeEntry
  pub grew : t.tree ≡ s.tree ++ more
  pub made : AllByRecursion (λ (e : TreeEntry). e.by ≡ by) more

-- the calls that can be served: an open of a path that isn't the root, to read, or to read and write, a read, a write, a set size and a close
abbrev pub IsServable : Call → Type 0
IsServable (call.Open h path how) = (how.access ≢ access.Write) × (path ≢ [])
IsServable (call.Read h pos len) = Unit {0}
IsServable (call.Write h pos payload) = Unit {0}
IsServable (call.Size h size) = Unit {0}
IsServable (call.Close h) = Unit {0}
IsServable _ = ⊥
