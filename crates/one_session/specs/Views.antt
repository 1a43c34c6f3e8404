-- What the parts of a session's state are seen as.
use Rattle.std.specs.Prelude.{ℕ, ◌++◌, Option, None, List, map, reverse, set}
use Rattle.vfs_names.specs.declared.fingerprint.Fingerprint.{Fingerprint}
use Rattle.vfs_names.specs.declared.refusal.Refusal.{Refusal}
use Rattle.vfs_names.specs.declared.refusal.Refusal.TheVariants as why
use Rattle.vfs_names.specs.declared.who.ItemId.{ItemId}
use Rattle.item_core.specs.declared.entry.Entry.{Entry}
use Rattle.sparse_item.specs.Item.{Item}
use Rattle.writeback_queue.specs.Queue.{Queue}
use Rattle.vfs_outside.specs.declared.tree.TreeEntry.{TreeEntry}
use Rattle.vfs_outside.specs.declared.tree.TreeKind.{TreeKind}
use Rattle.vfs_outside.specs.declared.tree.TreeKind.TheVariants.{Created, Opened, Closed}
pub use Rattle.one_session.specs.State.{blank, item_in}
use Rattle.one_session.specs.State.{History, entries_in, names_in}

-- the tree's entries, the oldest first; the most places that there may be; the places for which room is made, those
-- that are kept for the closes of open handles aside; and how many names more the root can show without taking memory
pub record TreeLog : Type 0 where
  pub entries : List TreeEntry
  pub limit : ℕ
  pub spare : ℕ
  pub names : ℕ

-- the places that an entry takes: an open handle keeps one for its close
abbrev pub tree_places : TreeKind → ℕ
tree_places (Created path item) = 2
tree_places (Opened path item print) = 2
tree_places (Closed item dirty) = 0
tree_places _ = 1

-- paths in their order, and for how many more there is room
pub record Numbered : Type 0 where
  pub paths : List (List ℕ)
  pub spare : ℕ

-- the files by number, the most places that each may have, the queue of those that wait for an upload, and for how many
-- more files there is room
pub record Shelf : Type 0 where
  pub items : List Item
  pub limit : ℕ
  pub queue : Queue
  pub spare : ℕ

-- a file's history in the order in which it is stored
abbrev pub stored : Item → History
stored item = record { entries = reverse item.log.past; names = reverse item.names }

abbrev pub histories : List Item → List History
histories items = map stored items

abbrev pub given_all : List Item → List (List (Fingerprint × List ℕ))
given_all items = map (λ (item : Item). item.pairs) items

-- the place in a file of a call that is refused so: one for the object or the disk says so there
abbrev pub refused_place : Refusal → Option (ItemId × ℕ) → Option (ItemId × ℕ)
refused_place why.RemoteFault place = place
refused_place why.DiskFault place = place
refused_place (why.Stale held found) place = place
refused_place _ place = None

-- the files with these entries more in one of them, and these paths beside them
abbrev pub add_to : List History → ℕ → List Entry → List (List ℕ) → List History
add_to files item more names = set files item (record { entries = entries_in files item ++ more; names = names_in files item ++ names })
