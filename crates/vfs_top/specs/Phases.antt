-- What an epoch of phases left.
use Rattle.std.specs.Prelude.{◌≡◌, ◌≤◌, ℕ, Bool, false, true, List, [], ◌∷◌, ◌++◌, filter, map, reverse}
use Rattle.std.specs.List.{AllByRecursion}
use Rattle.vfs_names.specs.declared.fingerprint.Fingerprint.{Fingerprint}
use Rattle.vfs_names.specs.declared.who.Actor.{Actor}
use Rattle.vfs_names.specs.declared.who.Actor.TheVariants.{Main, Session, Worker}
use Rattle.vfs_names.specs.declared.who.By.{By}
use Rattle.vfs_outside.specs.Outside.{Outside}
use Rattle.vfs_outside.specs.declared.tree.TreeEntry.{TreeEntry}
use Rattle.vfs_outside.specs.declared.tree.TreeKind.TheVariants.{Stored}
use Rattle.item_core.specs.declared.entry.Entry.{Entry}
use Rattle.session_script.specs.declared.call.Line.{Line}
use Rattle.run_words.specs.Words.{Asked}
use Rattle.item_upload.specs.declared.whole.Ended.{Ended}
use Rattle.item_upload.specs.declared.whole.Ended.TheVariants.{Saved, Dropped, Unbegun}
use Rattle.sparse_item.specs.Item.{Item}
use Rattle.writeback_queue.specs.declared.entry.QueueTerms.{QueueTerms}
use Rattle.one_session.specs.Calls.{in_tree}
use Rattle.one_session.specs.Causes.{HasRemoteCause}
use Rattle.one_session.specs.Queued.{IsQueued, owed_in}
use Rattle.one_session.specs.Served.{IsServed, Knows, Served}
use Rattle.one_session.specs.Slots.{ImagesStand}
use Rattle.one_session.specs.State.{History}
use Rattle.one_session.specs.Steps.{AreSteps, Deed, Serving, Sending, SendsFile, Upload, queue_after}
use Rattle.one_session.specs.Views.{histories}
use Rattle.one_session.specs.Whole.{IsWhole}
use Rattle.vfs_top.specs.Around.{Around, IsEmpty}
use Rattle.vfs_top.specs.Epoch.{Epoch}
use Rattle.vfs_top.specs.Event.{Event, AreTicked, AreTimely, calls_of, deeds_of, line_of, moment_after, record_of}

-- what the queue keeps to, as it was asked for
abbrev pub terms_of : Asked → QueueTerms
terms_of asked = record { write_back = asked.write_back; transfers = asked.transfers }

-- the most places that a history has
abbrev pub history_limit : ℕ
history_limit = 1048576

-- every entry of an earlier phase stands before every entry of a later one
abbrev pub IsByPhase : {E : Type 0} → (E → ℕ) → List E → Type 0
IsByPhase phase [] = Unit {0}
IsByPhase phase (e ∷ later) = AllByRecursion (λ x. phase e ≤ phase x) later × IsByPhase phase later

-- so it is in the tree's history and in that of each file
pub record AreByPhase (tree : List TreeEntry) (files : List History) : Type 0 where
  pub in_tree : IsByPhase (λ (e : TreeEntry). e.by.who.phase) tree
  pub in_files : AllByRecursion (λ (file : History). IsByPhase (λ (e : Entry). e.by.who.phase) file.entries) files

-- no count of the store fell, and what was handed out stays so
pub record IsLaterRemote (old new : Outside) : Type 0 where
  pub faults : old.faults ≤ new.faults
  pub changes : old.changes ≤ new.changes
  pub more : List (Fingerprint × List ℕ)
  pub handed : new.handed ≡ more ++ old.handed

-- an upload was done between two moments of the store
pub record IsWithin (old new : Outside) (u : Upload) : Type 0 where
  pub before : IsLaterRemote old u.old
  pub after : IsLaterRemote u.new new

abbrev pub AreWithin : Outside → Outside → List Deed → Type 0
AreWithin old new [] = Unit {0}
AreWithin old new (Serving d ∷ older) = AreWithin old new older
AreWithin old new (Sending by u ∷ older) = IsWithin old new u × AreWithin old new older

abbrev pub is_main : Actor → Bool
is_main Main = true
is_main (Session n) = false
is_main (Worker n) = false

-- the entry is of the program itself
abbrev pub is_mains : TreeEntry → Bool
is_mains e = is_main e.by.who.actor

-- what an upload that saved its file says in the tree
abbrev pub stored_of : By → List ℕ → Ended → List TreeEntry
stored_of by path (Saved print) = in_tree by (Stored path print) ∷ []
stored_of by path (Dropped why) = []
stored_of by path (Unbegun why) = []

-- what some deeds, the newest first, said in the tree of the objects that were stored
abbrev pub stored_by : List Deed → List TreeEntry
stored_by [] = []
stored_by (Serving d ∷ older) = stored_by older
stored_by (Sending by u ∷ older) = stored_by older ++ stored_of by u.path u.ended

-- What an epoch of these lines left over a cache that was empty, in which these events came about, the newest first: they are those of the lines, calls
-- of the first session, and what stands between its phases, uploads among it; the calls of a phase were made at one moment, no phase's moment is less
-- than the one before it, the first phase's isn't less than the clock's answer before, and the last phase's is its answer after.
-- The records and the histories are those of the calls, by the contents that hold what the remote handed out; the histories
-- go phase by phase. A refusal for the remote has its cause; each call did to the files, and asked of the objects behind them
-- by the plan that was asked for, what `Touches` says, and a refusal for the disk or for such an object has its cause. The
-- queue's history is what the calls entered; it is legal, and its members are just the files that wait for an upload, each due
-- the write-back time after it was entered. Each file is given back to its slot, and the image there, after any number of the
-- calls on it, stands for what was made of the file by then.
pub record IsEpoch (kept tells : Type 0) (run : Asked) (old new : Around) (lines : List Line) (events : List Event) (e : Epoch) : Type 0 where
  pub empty : kept → IsEmpty old.disk
  pub asked : map line_of (reverse events) ≡ lines
  pub first : ℕ
  pub no_sooner : old.moment ≤ first
  pub timely : AreTimely first events
  pub last : moment_after first events ≡ new.moment
  pub recorded : e.records ≡ map record_of (reverse (calls_of events))
  pub causes : AllByRecursion (λ (d : Served). HasRemoteCause d.line.call d.done e.tree old.remote new.remote) (calls_of events)
  pub left : List Item
  pub made : e.files ≡ histories left
  pub steps : AreSteps (SendsFile kept tells history_limit e.tree) run.plan old.disk.faults new.disk.faults left (deeds_of events) (reverse e.steps)
  pub sent : AreWithin old.remote new.remote (deeds_of events)
  pub stored : filter is_mains e.tree ≡ stored_by (deeds_of events)
  pub ticked : AreTicked run.write_back events (reverse e.steps)
  pub matching : IsServed 1 (Knows kept tells new.remote.handed) history_limit (calls_of events) e.tree e.files
  pub whole : IsWhole 1 e.tree e.files
  pub phases : AreByPhase e.tree e.files
  pub entered : e.queue ≡ queue_after run.write_back (deeds_of events) (reverse e.steps)
  pub queued : IsQueued (terms_of run) (owed_in e.files) e.queue
  pub back : (slot : ℕ) → new.disk.out slot ≡ false
  pub images : kept → ImagesStand tells new.remote.handed new.disk e.files

-- a front of the lines was done
pub record DoesFront (kept tells : Type 0) (run : Asked) (old new : Around) (script : List Line) (events : List Event) (e : Epoch) : Type 0 where
  pub lines : List Line
  pub others : List Line
  pub front : script ≡ lines ++ others
  pub did : IsEpoch kept tells run old new lines events e
