-- What each call did to the files: where its entry stands among the calls on its slot's file, what it asked of the object
-- behind its file, and why it was refused for that object or for the cache disk.
use Rattle.std.specs.Prelude.{◌≡◌, ◌⊎◌, ◌<◌, ◌≤◌, ◌+◌, ℕ, ◌++◌, Bool, true, Option, Some, None, List, [], ◌∷◌, length, take, Result, Ok, Err, IfSome, IsSomeAnd, OnOk}
use Rattle.std.specs.List.{AllByRecursion}
use Rattle.byte_ranges.specs.Ranges.{has}
use Rattle.vfs_names.specs.Payload.{payload_len}
use Rattle.vfs_names.specs.declared.payload.Payload.{Payload}
use Rattle.vfs_names.specs.declared.refusal.Refusal.{Refusal}
use Rattle.vfs_names.specs.declared.refusal.Refusal.TheVariants as why
use Rattle.vfs_names.specs.declared.who.By.{By}
use Rattle.vfs_names.specs.declared.who.ItemId.{ItemId}
use Rattle.vfs_outside.specs.Causes.{Rose}
use Rattle.vfs_outside.specs.Outside.{Outside}
use Rattle.vfs_outside.specs.declared.tree.TreeEntry.{TreeEntry}
use Rattle.item_core.specs.declared.entry.Entry.{Entry}
use Rattle.item_core.specs.History.{base_end_of}
use Rattle.item_core.specs.Names.{name_of}
use Rattle.item_upload.specs.Whole.{IfSaved, is_saved}
use Rattle.item_upload.specs.declared.whole.Ended.{Ended}
use Rattle.downloaders.specs.declared.Ask.{Ask}
use Rattle.downloaders.specs.declared.Plan.{Plan}
use Rattle.downloaders.specs.Orders.{here_in_the_end}
use Rattle.downloaders.specs.Rules.{AreAsks}
use Rattle.base_object.specs.Pulls.{progress_of}
use Rattle.base_object.specs.Reads.{Reads}
use Rattle.sparse_item.specs.Answers.{save_of}
use Rattle.sparse_item.specs.Item.{Item}
use Rattle.sparse_item.specs.Reading.{IsReadCause, needed}
use Rattle.session_script.specs.declared.call.Call.{Call}
use Rattle.session_script.specs.declared.call.Call.TheVariants as call
use Rattle.session_text.specs.declared.reply.Record.{Record}
use Rattle.session_text.specs.declared.reply.Reply.{Reply}
use Rattle.session_text.specs.declared.reply.Reply.TheVariants as reply
use Rattle.writeback_queue.specs.declared.entry.QueueEntry.{QueueEntry}
use Rattle.one_session.specs.Books.{TouchesOne}
use Rattle.one_session.specs.Calls.{IsOfDevice}
use Rattle.one_session.specs.Queued.{queue_step, turn_by}
use Rattle.one_session.specs.Sending.{Sends}
use Rattle.one_session.specs.Served.{Served, open_at}
use Rattle.one_session.specs.State.{State, Step, file_at, item_in}
use Rattle.one_session.specs.Tree.{free_places}
use Rattle.one_session.specs.declared.handle.Handle.{Handle}

-- the number of the call on the slot's file by which a call of a session took effect: for a write that of its save, and
-- for every other the last that was made
abbrev pub took_effect : Call → Reply → Item → Item → ℕ
took_effect (call.Write h pos payload) (reply.Wrote n) old new = save_of old payload
took_effect call reply old new = new.slot.calls

-- the newest entry of a file was made at this number
abbrev pub IsMadeAt : ℕ → List Entry → Type 0
IsMadeAt at [] = ⊥
IsMadeAt at (e ∷ older) = e.at ≡ at

-- the call's own entry, which is the last of its file then, has that number
abbrev pub IsPlaced : Call → Record → Step → Type 0
IsPlaced call done step = IfSome done.file (λ f. IsMadeAt
    (took_effect call done.reply (item_in step.before f.0.0) (item_in step.after f.0.0)) (item_in step.after f.0.0).log.past)

abbrev pub answered : Reply → Result (Unit {0}) Refusal
answered (reply.Refused refusal) = Err refusal
answered _ = Ok tt

-- What a read asked of the object behind its file, and which bytes are here then: exactly what the rules ask for where it
-- is done, and a front of that where it is refused; and why it is refused for the object or the disk.
pub record ReadsFile (plan : Plan) (old new : Item) (pos len : ℕ) (r : Reply) : Type 0 where
  pub asks : (asks : List Ask) → AreAsks plan (needed old.log.past pos len) (base_end_of old.log.past) (has old.here) old.base.crew asks
      → Reads asks (progress_of old.base) (progress_of new.base) (answered r)
  pub all : (asks : List Ask) → AreAsks plan (needed old.log.past pos len) (base_end_of old.log.past) (has old.here) old.base.crew asks
      → OnOk (answered r) ((p : ℕ) → has new.here p ≡ here_in_the_end asks (base_end_of old.log.past) (has old.here) p)
  pub here : (p : ℕ) → has old.here p ≡ true → has new.here p ≡ true
  pub cause : (refusal : Refusal) → r ≡ reply.Refused refusal → IsOfDevice refusal → IsReadCause old new (needed old.log.past pos len) refusal

-- a call that is refused for the cache disk made the count of this file rise
abbrev pub IsDiskCause : Reply → Item → Item → Type 0
IsDiskCause r old new = r ≡ reply.Refused why.DiskFault → Rose old.slot.faults new.slot.faults

-- the same of a file that the call found, or else the count of the disk itself rose
abbrev pub IsOpenCause : ℕ → ℕ → Reply → Step → Type 0
IsOpenCause disk disk' r step = r ≡ reply.Refused why.DiskFault
    → Rose disk disk' ⊎ ((item : ℕ) × Rose (item_in step.before item).slot.faults (item_in step.after item).slot.faults)

-- where a call has a place in a file, or the file of its handle is asked
abbrev pub IfPlaced : Record → (ℕ → Type 0) → Type 0
IfPlaced done so = IfSome done.file (λ f. so f.0.0)

-- what a call did to its file, by the disk's counts before the run and after it
abbrev pub Touches : Plan → ℕ → ℕ → Call → Record → Step → Type 0
Touches plan disk disk' (call.Open h path how) done step = IsOpenCause disk disk' done.reply step
Touches plan disk disk' (call.Read h pos len) done step =
    IfPlaced done (λ item. ReadsFile plan (item_in step.before item) (item_in step.after item) pos len done.reply)
Touches plan disk disk' (call.Write h pos payload) done step =
    IfPlaced done (λ item. IsDiskCause done.reply (item_in step.before item) (item_in step.after item))
Touches plan disk disk' (call.Size h size) done step =
    IfPlaced done (λ item. IsDiskCause done.reply (item_in step.before item) (item_in step.after item))
Touches plan disk disk' _ done step = Unit {0}

-- a call more was a step from the files that it found to those that it left
pub record TakesStep (plan : Plan) (disk disk' : ℕ) (call : Call) (done : Record) (s t : State) : Type 0 where
  pub added : t.steps ≡ s.steps ++ record { before = s.items; after = t.items } ∷ []
  pub placed : IsPlaced call done (record { before = s.items; after = t.items })
  pub does : Touches plan disk disk' call done (record { before = s.items; after = t.items })

-- and it entered in the queue what it was to enter
abbrev pub QueuesStep : By → Call → Record → State → State → Type 0
QueuesStep by call done s t = (t.terms ≡ s.terms)
    × (t.queue ≡ s.queue ++ queue_step s.terms.write_back by call done (record { before = s.items; after = t.items }))

-- an upload: of which file, to which path, how it ended, and what the store told before it and after it
pub record Upload : Type 0 where
  pub item : ℕ
  pub path : List ℕ
  pub ended : Ended
  pub old : Outside
  pub new : Outside

-- what is done to the files: a call is served, or a file that is due is uploaded
pub data Deed : Type 0 where
  Serving : Served → Deed
  Sending : By → Upload → Deed

-- what some deeds, the newest first, entered in the queue
abbrev pub queue_after : ℕ → List Deed → List Step → List QueueEntry
queue_after write_back [] steps = []
queue_after write_back (Serving d ∷ older) [] = []
queue_after write_back (Serving d ∷ older) (step ∷ earlier) = queue_after write_back older earlier ++ queue_step write_back d.by d.line.call d.done step
queue_after write_back (Sending by u ∷ older) steps = queue_after write_back older steps ++ turn_by by u.item (is_saved u.ended)

-- the history of the tree was full for an upload when it was to begin: too few places were free behind what was done till then
pub record WasFullFor (limit : ℕ) (by : By) (tree : List TreeEntry) : Type 0 where
  pub n : ℕ
  pub inside : n ≤ length tree
  pub no_later : AllByRecursion (λ (e : TreeEntry). e.by.who.phase ≤ by.who.phase) (take n tree)
  pub full : free_places limit (take n tree) < 1

-- an upload did this to the files: it sent its file to the file's path, and touched no other
pub record SendsFile (kept tells : Type 0) (limit : ℕ) (tree : List TreeEntry) (by : By) (u : Upload) (before after : List Item) : Type 0 where
  pub inside : u.item < length before
  pub one : TouchesOne u.item before after
  pub path : IfSaved u.ended (λ print. name_of (item_in before u.item).log.past (item_in before u.item).names ≡ Some u.path)
  pub sends : Sends kept tells tells by (WasFullFor limit by tree) (item_in before u.item) (item_in after u.item) u.old u.new u.ended

-- What some deeds, the newest first, did to the files: each found those that the one before it left, the first none, and the
-- newest left these.
abbrev pub AreSteps : (By → Upload → List Item → List Item → Type 0) → Plan → ℕ → ℕ → List Item → List Deed → List Step → Type 0
AreSteps sends plan disk disk' left [] [] = left ≡ []
AreSteps sends plan disk disk' left [] (step ∷ earlier) = ⊥
AreSteps sends plan disk disk' left (Serving d ∷ older) [] = ⊥
AreSteps sends plan disk disk' left (Serving d ∷ older) (step ∷ earlier) = (step.after ≡ left) × IsPlaced d.line.call d.done step
    × Touches plan disk disk' d.line.call d.done step × AreSteps sends plan disk disk' step.before older earlier
AreSteps sends plan disk disk' left (Sending by u ∷ older) steps =
    (before : List Item) × sends by u before left × AreSteps sends plan disk disk' before older steps
