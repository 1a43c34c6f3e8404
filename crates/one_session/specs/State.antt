-- What a session's calls leave: the histories, the handles and the records.
use Rattle.std.specs.Prelude.{ℕ, false, Option, None, Some, List, [], slice_index_or}
use Rattle.item_core.specs.declared.entry.Entry.{Entry}
use Rattle.sparse_item.specs.Item.{Item, no_base}
use Rattle.session_text.specs.declared.reply.Record.{Record}
use Rattle.vfs_outside.specs.declared.tree.TreeEntry.{TreeEntry}
use Rattle.writeback_queue.specs.declared.entry.QueueEntry.{QueueEntry}
use Rattle.writeback_queue.specs.declared.entry.QueueTerms.{QueueTerms}
use Rattle.one_session.specs.declared.handle.Handle.{Handle}

-- a file's history, its oldest entry first, and beside it a path for each entry that names the file anew
pub record History : Type 0 where
  pub entries : List Entry
  pub names : List (List ℕ)

-- the history of a file; an empty one where there is no such file
abbrev pub history_in : List History → ℕ → History
history_in files item = slice_index_or files item (record { entries = []; names = [] })

abbrev pub entries_in : List History → ℕ → List Entry
entries_in files item = (history_in files item).entries

abbrev pub names_in : List History → ℕ → List (List ℕ)
names_in files item = (history_in files item).names

-- a file with nothing in it
abbrev pub blank : Item
blank = record {
  id = record { 0 = 0 };
  slot_id = record { 0 = 0 };
  log = record { past = []; limit = 0; spare = 0 };
  names = [];
  pairs = [];
  base = no_base;
  here = [];
  pending = false;
  slot = record { told = record { first = []; since = [] }; calls = 0; faults = 0 };
  saved = record { mtime = 0; atime = 0 };
}

abbrev pub item_in : List Item → ℕ → Item
item_in items item = slice_index_or items item blank

-- all that is kept of the files, by number, before a call and after it
pub record Step : Type 0 where
  pub before : List Item
  pub after : List Item

-- The tree's history; the files' histories by number, and all that is kept of each file; the history of the queue of files
-- that wait for an upload, and what it keeps to; the most places that each history may have; what each handle has open; the records, oldest first, beside each the files before its call and after it, and
-- for how many more records there is room.
pub record State : Type 0 where
  pub tree : List TreeEntry
  pub files : List History
  pub items : List Item
  pub queue : List QueueEntry
  pub terms : QueueTerms
  pub limit : ℕ
  pub table : List (Option Handle)
  pub records : List Record
  pub steps : List Step
  pub room : ℕ

-- what a handle has open
abbrev pub file_at : List (Option Handle) → ℕ → Option Handle
file_at table handle = slice_index_or table handle None

-- the file of a handle
abbrev pub item_at : Option Handle → Option ℕ
item_at None = None
item_at (Some handle) = Some handle.item
