-- The turn of a file that is due, told of the parts of a store.
use Rattle.std.specs.Prelude.{◌≡◌, ◌<◌, ℕ, ◌++◌, Some, List, [], ◌∷◌, length, string_bytes}
use Rattle.vfs_names.specs.declared.fingerprint.Fingerprint.{Fingerprint}
use Rattle.vfs_names.specs.declared.who.By.{By}
use Rattle.vfs_outside.specs.Outside.{Outside}
use Rattle.vfs_outside.specs.declared.tree.TreeEntry.{TreeEntry}
use Rattle.vfs_outside.specs.declared.tree.TreeKind.TheVariants as kinds
use Rattle.item_core.specs.Names.{name_of}
use Rattle.item_upload.specs.Whole.{is_saved}
use Rattle.item_upload.specs.declared.whole.Ended.{Ended}
use Rattle.item_upload.specs.declared.whole.Ended.TheVariants as ended
use Rattle.sparse_item.specs.Item.{Item}
use Rattle.writeback_queue.specs.Legal.{IsNext}
use Rattle.writeback_queue.specs.Queue.{past_of}
use Rattle.one_session.specs.Books.{TouchesOne}
use Rattle.one_session.specs.Calls.{in_tree}
use Rattle.one_session.specs.Queued.{id_of, turn_by}
use Rattle.one_session.specs.Sending.{Sends}
use Rattle.one_session.specs.State.{item_in}
use Rattle.one_session.specs.Views.{Shelf}
use Rattle.one_session.specs.declared.turn.Goal.{Goal}
use Rattle.one_session.specs.declared.turn.Turn.{Turn}
use Rattle.one_session.specs.declared.turn.Turn.TheVariants.{Stored, Dropped, Unbegun}

-- how the upload ended
abbrev pub ended_of : Turn → Ended
ended_of (Stored goal print) = ended.Saved print
ended_of (Dropped why) = ended.Dropped why
ended_of (Unbegun why) = ended.Unbegun why

abbrev pub IfStored : Turn → (Goal → Fingerprint → Type 0) → Type 0
IfStored (Stored goal print) so = so goal print
IfStored (Dropped why) so = Unit {0}
IfStored (Unbegun why) so = Unit {0}

-- the goal is where the file's path is
pub record IsGoal (item : Item) (goal : Goal) : Type 0 where
  pub path : name_of item.log.past item.names ≡ Some goal.path
  pub name : string_bytes goal.name ≡ goal.path

-- what is said in the tree
abbrev pub noted_by : By → Turn → List TreeEntry
noted_by by (Stored goal print) = in_tree by (kinds.Stored goal.path print) ∷ []
noted_by by (Dropped why) = []
noted_by by (Unbegun why) = []

-- the file whose turn is first was uploaded, where room was made so, and its turn was ended in the queue
pub record TakesTurn (kept store tells : Type 0) (by : By) (full ready : Type 0) (old new : Shelf) (o o' : Outside) (turn : Turn) : Type 0 where
  pub item : ℕ
  pub inside : item < length old.items
  pub next : IsNext old.queue.terms.write_back (past_of old.queue) by.now (id_of item)
  pub one : TouchesOne item old.items new.items
  pub sends : Sends kept store tells by full (item_in old.items item) (item_in new.items item) o o' (ended_of turn)
  pub goal : IfStored turn (λ goal print. ready × IsGoal (item_in old.items item) goal)
  pub queue : new.queue.entries ≡ old.queue.entries ++ turn_by by item (is_saved (ended_of turn))
