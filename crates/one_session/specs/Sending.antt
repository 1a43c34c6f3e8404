-- The upload of a file that is due, and what it leaves.
use Rattle.std.specs.Prelude.{◌≡◌, ◌⊎◌, ◌<◌, ◌++◌, ℕ, Some, List, [], ◌∷◌, length, reverse, not, true}
use Rattle.vfs_names.specs.declared.fingerprint.Fingerprint.{Fingerprint}
use Rattle.vfs_names.specs.declared.refusal.Refusal.{Refusal}
use Rattle.vfs_names.specs.declared.refusal.Refusal.TheVariants as why
use Rattle.vfs_names.specs.declared.who.By.{By}
use Rattle.vfs_outside.specs.Outside.{Outside}
use Rattle.vfs_outside.specs.declared.tree.TreeEntry.{TreeEntry}
use Rattle.vfs_outside.specs.declared.tree.TreeKind.TheVariants.{Stored}
use Rattle.item_core.specs.History.{is_dirty, is_owed}
use Rattle.item_core.specs.Names.{name_of}
use Rattle.item_image.specs.Premise.{IsHanded}
use Rattle.item_upload.specs.Whole.{EntersUpload, IfDropped, IfSaved, IfUnbegun, IsEndCause, MayCommitWhole, MayHandWhole, UploadsWhole, is_saved}
use Rattle.item_upload.specs.declared.whole.Ended.{Ended}
use Rattle.item_upload.specs.declared.whole.Ended.TheVariants.{Saved, Dropped, Unbegun}
use Rattle.sparse_item.specs.Answers.{IsFull}
use Rattle.sparse_item.specs.Item.{Item}
use Rattle.sparse_item.specs.Stores.{IsLaterStore}
use Rattle.writeback_queue.specs.Legal.{IsNext}
use Rattle.one_session.specs.Books.{HasSame, IsSameFile, TouchesOne}
use Rattle.one_session.specs.Calls.{in_tree}
use Rattle.one_session.specs.Queued.{id_of, turn_by}
use Rattle.one_session.specs.State.{State, item_in}
use Rattle.one_session.specs.Tree.{free_places}

-- An upload of a file's content, which is whole or nothing. The file is as changed as before where it wasn't saved, and it
-- isn't begun where the histories have too few places.
pub record Sends (kept store tells : Type 0) (by : By) (full : Type 0) (old new : Item) (o o' : Outside) (ended : Ended) : Type 0 where
  pub enters : EntersUpload (record by { tree = true }) old new ended
  pub dirty : is_dirty new.log.past ≡ not (is_saved ended)
  pub owed : is_owed new.log.past ≡ not (is_saved ended)
  pub uploads : IfSaved ended (UploadsWhole kept store tells old o o')
  pub unsaved : store → IfDropped ended (λ why. MayCommitWhole kept tells old o o')
  pub hands : IfDropped ended (λ why. MayHandWhole kept store tells old o o')
  pub uncalled : IfUnbegun ended (λ why. o' ≡ o)
  pub causes : IsEndCause old new o o' ended
  pub full_cause : ended ≡ Unbegun why.HistoryFull → IsFull old 2 ⊎ full
  pub whole : kept → store → IsHanded tells o.handed old.slot.told.first old.log.past old.pairs → IsHanded tells o'.handed old.slot.told.first new.log.past new.pairs
  pub later : IsLaterStore o o'
  pub same : IsSameFile kept old new
  pub has_same : HasSame old new

-- what it says in the tree: the object that stands at the file's path from then on
abbrev pub NotesUpload : By → Item → Ended → List TreeEntry → List TreeEntry → Type 0
NotesUpload by item (Saved print) old new = (path : List ℕ) × (name_of item.log.past item.names ≡ Some path) × (new ≡ old ++ in_tree by (Stored path print) ∷ [])
NotesUpload by item _ old new = new ≡ old

-- Of the files that are due the one whose turn is first was uploaded. It leaves the queue where it was saved, and else waits
-- again; no other file was touched.
pub record SendsNext (kept store tells : Type 0) (by : By) (s t : State) (o o' : Outside) (ended : Ended) : Type 0 where
  pub item : ℕ
  pub inside : item < length s.items
  pub next : IsNext s.terms.write_back (reverse s.queue) by.now (id_of item)
  pub one : TouchesOne item s.items t.items
  pub sends : Sends kept store tells by (free_places s.limit s.tree < 1) (item_in s.items item) (item_in t.items item) o o' ended
  pub notes : NotesUpload by (item_in s.items item) ended s.tree t.tree
  pub queue : t.queue ≡ s.queue ++ turn_by by item (is_saved ended)
  pub same : t ≡ record s { tree = t.tree; files = t.files; items = t.items; queue = t.queue }
