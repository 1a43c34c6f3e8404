-- The files that wait for an upload, and how the queue follows their histories.
use Rattle.std.specs.Prelude.{◌≡◌, ◌≤◌, ◌^◌, ℕ, ◌+◌, ◌==◌, ◌&&◌, Bool, false, nat_lt, if◌then◌else◌, Option, None, Some, List, [], ◌∷◌, ◌++◌, map, filter, reverse, Result, Ok, Err}
use Rattle.std.specs.List.{AllByRecursion, enumerate_from}
use Rattle.vfs_names.specs.declared.calls.QueueRow.{QueueRow}
use Rattle.vfs_names.specs.declared.refusal.Refusal.{Refusal}
use Rattle.vfs_names.specs.declared.who.By.{By}
use Rattle.vfs_names.specs.declared.who.ItemId.{ItemId}
use Rattle.item_core.specs.declared.entry.Entry.{Entry}
use Rattle.item_core.specs.History.{is_owed, opens_of}
use Rattle.sparse_item.specs.Item.{Item}
use Rattle.session_script.specs.declared.call.Call.{Call}
use Rattle.session_script.specs.declared.call.Call.TheVariants as call
use Rattle.session_text.specs.declared.reply.Record.{Record}
use Rattle.session_text.specs.declared.reply.Reply.{Reply}
use Rattle.session_text.specs.declared.reply.Reply.TheVariants as reply
use Rattle.writeback_queue.specs.declared.entry.QueueEntry.{QueueEntry}
use Rattle.writeback_queue.specs.declared.entry.QueueKind.{QueueKind}
use Rattle.writeback_queue.specs.declared.entry.QueueKind.TheVariants.{Add, Remove, SetDue, Take, Fail}
use Rattle.writeback_queue.specs.declared.entry.QueueTerms.{QueueTerms}
use Rattle.writeback_queue.specs.History.{due_moment, fails_of, is_member, is_uploading}
use Rattle.writeback_queue.specs.Legal.{IsLegal}
use Rattle.writeback_queue.specs.Queue.{entry, removed_by}
use Rattle.one_session.specs.State.{History, Step, entries_in, item_in}

abbrev pub id_of : ℕ → ItemId
id_of item = record { 0 = item }

-- what a file's book enters in the queue has a pass of its own, whose number is one more than the file's
abbrev pub book_by : By → ℕ → By
book_by by item = record by { pass = item + 1; tree = false }

-- what it enters as the file comes to wait for an upload, or waits anew
abbrev pub awaited_by : ℕ → By → ℕ → Bool → List QueueEntry
awaited_by write_back by item was = entry (book_by by item)
    (if was then SetDue (id_of item) (by.now + write_back) else Add (id_of item) (by.now + write_back))

-- what a close enters: nothing, where a handle is left open or nothing changed
abbrev pub rested_by : Bool → ℕ → By → ℕ → Bool → List QueueEntry
rested_by rests write_back by item was = if rests then awaited_by write_back by item was else []

-- a write began a version: it wasn't refused, and wasn't empty
abbrev pub began_by : Result ℕ Refusal → Bool
began_by (Ok n) = nat_lt 0 n
began_by (Err why) = false

-- a version began, if one did: Remove, where the file was a member
abbrev pub withdrawn_by : By → ℕ → Bool → Bool → List QueueEntry
withdrawn_by by item began was = if began then removed_by (book_by by item) (id_of item) was else []

-- the last open handle was closed
abbrev pub is_rest : List Entry → List Entry → Bool
is_rest before after = nat_lt 0 (opens_of before) && (opens_of after == 0)

-- What a file that went from one history to another enters in the queue. One that comes to wait for an upload is added,
-- due after the write-back time; one whose last handle is closed while it waits is due anew; one that waits no more goes.
abbrev pub queue_news : ℕ → By → ℕ → List Entry → List Entry → List QueueEntry
queue_news write_back by item before after =
    if is_owed after
    then (if is_owed before
    then (if is_rest before after then entry (book_by by item) (SetDue (id_of item) (by.now + write_back)) else [])
    else entry (book_by by item) (Add (id_of item) (by.now + write_back)))
    else (if is_owed before then entry (book_by by item) (Remove (id_of item)) else [])

-- the same of the file that a call has a place in
abbrev pub news_at : ℕ → By → Option (ItemId × ℕ) → Step → List QueueEntry
news_at write_back by None step = []
news_at write_back by (Some f) step =
    queue_news write_back by f.0.0 (item_in step.before f.0.0).log.past (item_in step.after f.0.0).log.past

-- the same by a call's reply: one that is refused enters nothing
abbrev pub news_of : ℕ → By → Reply → Option (ItemId × ℕ) → Step → List QueueEntry
news_of write_back by (reply.Refused why) place step = []
news_of write_back by _ place step = news_at write_back by place step

-- what a call enters in the queue: one that changes a file or closes a handle what its file's change does, another nothing
abbrev pub queue_step : ℕ → By → Call → Record → Step → List QueueEntry
queue_step write_back by (call.Write h pos payload) done step = news_of write_back by done.reply done.file step
queue_step write_back by (call.Size h size) done step = news_of write_back by done.reply done.file step
queue_step write_back by (call.Close h) done step = news_of write_back by done.reply done.file step
queue_step write_back by _ done step = []

-- what ends the turn of a file: Remove where it was saved, and else Fail
abbrev pub settled_by : By → ℕ → Bool → List QueueEntry
settled_by by item saved = if saved then entry (book_by by item) (Remove (id_of item)) else entry by (Fail (id_of item))

-- what its turn enters
abbrev pub turn_by : By → ℕ → Bool → List QueueEntry
turn_by by item saved = entry by (Take (id_of item)) ++ settled_by by item saved

-- an item is due when the write-back time is over that began as it was entered
abbrev pub IsDueAfter : ℕ → By → QueueKind → Type 0
IsDueAfter write_back by (Add item due) = due ≡ by.now + write_back
IsDueAfter write_back by (SetDue item due) = due ≡ by.now + write_back
IsDueAfter write_back by _ = Unit {0}

-- The queue's history is legal, and its members are just the files that wait for an upload, none of them under way.
pub record IsQueued (terms : QueueTerms) (owed : ℕ → Bool) (entries : List QueueEntry) : Type 0 where
  pub legal : IsLegal terms (reverse entries)
  pub members : (item : ItemId) → is_member (reverse entries) item ≡ owed item.0
  pub idle : (item : ItemId) → is_uploading (reverse entries) item ≡ false
  pub due : AllByRecursion (λ (e : QueueEntry). IsDueAfter terms.write_back e.by e.kind) entries

-- a file waits for an upload, by its history
abbrev pub owed_in : List History → ℕ → Bool
owed_in files item = is_owed (reverse (entries_in files item))

abbrev pub owed_item : List Item → ℕ → Bool
owed_item items item = is_owed (item_in items item).log.past

-- a file, beside its number, waits for an upload
abbrev pub is_owed_file : ℕ × History → Bool
is_owed_file file = is_owed (reverse file.1.entries)

-- its row, by the write-back time and the queue's history
abbrev pub row_at : ℕ → List QueueEntry → ℕ → QueueRow
row_at write_back queue item = record {
  item = id_of item;
  due = due_moment write_back (reverse queue) (id_of item);
  fails = fails_of (reverse queue) (id_of item);
}

-- the same where it waits, and none where it doesn't
abbrev pub row_if : Bool → ℕ → List QueueEntry → ℕ → List QueueRow
row_if waits write_back queue item = if waits then row_at write_back queue item ∷ [] else []

abbrev pub row_of : ℕ → List QueueEntry → ℕ × History → QueueRow
row_of write_back queue file = row_at write_back queue file.0

-- the rows of the files that wait, by their numbers
abbrev pub queue_of : ℕ → List QueueEntry → List History → List QueueRow
queue_of write_back queue files = map (row_of write_back queue) (filter is_owed_file (enumerate_from 0 files))

-- the same, told of the files as they are kept
abbrev pub item_rows : ℕ → List QueueEntry → List Item → List QueueRow
item_rows write_back queue items =
    map (λ (file : ℕ × Item). row_at write_back queue file.0) (filter (λ (file : ℕ × Item). is_owed file.1.log.past) (enumerate_from 0 items))
