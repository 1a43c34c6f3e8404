-- What the parts of a session's state say together.
use Rattle.std.specs.Prelude.{◌≡◌, ◌<◌, ◌≤◌, ℕ, ◌+◌, ◌==◌, Bool, true, false, Option, Some, None, List, [], ◌∷◌, length, reverse}
use Rattle.std.specs.List.{AllByRecursion, count_by, position}
use Rattle.vfs_names.specs.Path.{same_text}
use Rattle.vfs_outside.specs.declared.tree.TreeEntry.{TreeEntry}
use Rattle.item_core.specs.declared.entry.Entry.{Entry}
use Rattle.item_core.specs.declared.entry.FileKind.{FileKind}
use Rattle.item_core.specs.declared.entry.FileKind.TheVariants.{Rename}
use Rattle.item_core.specs.Effects.{is_opened, is_closed}
use Rattle.item_core.specs.History.{count_of, is_dirty, is_kept, made_by, opens_of}
use Rattle.item_core.specs.Legal.{IsTimely}
use Rattle.one_session.specs.State.{History, entries_in, file_at, history_in}
use Rattle.one_session.specs.Tree.{closed_in, files_of, is_open, is_close, item_of, left_dirty, opened_in}
use Rattle.one_session.specs.Whole.{IsMade, IsMadeInTree, IsNamed}
use Rattle.one_session.specs.declared.handle.Handle.{Handle}

-- a handle has this file open
abbrev pub has_file : ℕ → Option Handle → Bool
has_file item None = false
has_file item (Some handle) = handle.item == item

abbrev pub has_some : Option Handle → Bool
has_some None = false
has_some (Some handle) = true

abbrev pub is_renaming : FileKind → Bool
is_renaming (Rename path) = true
is_renaming _ = false

-- the session and the program's uploads made the history, in the order of time, and nothing in it moved the file
pub record IsOwnPast (past : List Entry) : Type 0 where
  pub pass : made_by 0 past ≡ past
  pub made : AllByRecursion (IsMade 1) past
  pub unmoved : AllByRecursion (λ (e : Entry). is_renaming e.kind ≡ false) past
  pub timely : IsTimely past

-- the file has as many open handles as the table has, the tree tells how often it was opened and closed, and, where no
-- handle is open, whether it is dirty
pub record IsTied (tree : List TreeEntry) (table : List (Option Handle)) (item : ℕ) (past : List Entry) : Type 0 where
  pub handles : count_of is_opened past ≡ count_of is_closed past + count_by (has_file item) table
  pub opened : opened_in tree item ≡ count_of is_opened past
  pub closed : closed_in tree item ≡ count_of is_closed past
  pub rest : opens_of past ≡ 0 → left_dirty tree item ≡ is_dirty past

pub record IsSoundFile (past : List Entry) : Type 0 where
  pub kept : is_kept past ≡ true
  pub own : IsOwnPast past

-- the paths are those of the files by number, each file stands beside its paths and is tied to the tree, and the handles
-- are those that are open
pub record IsSound (tree : List TreeEntry) (paths : List (List ℕ)) (files : List History) (table : List (Option Handle)) : Type 0 where
  pub size : length table ≡ 256
  pub found : (path : List ℕ) → position (same_text path) paths ≡ item_of tree path
  pub count : length paths ≡ length files
  pub numbered : files_of tree ≡ length files
  pub few : length files ≤ length tree
  pub named : (item : ℕ) → item < length files → IsNamed tree item (history_in files item)
  pub each : (item : ℕ) → item < length files → IsSoundFile (reverse (entries_in files item))
  pub tied : (item : ℕ) → IsTied tree table item (reverse (entries_in files item))
  pub handles : count_by (λ (e : TreeEntry). is_open e.kind) tree ≡ count_by (λ (e : TreeEntry). is_close e.kind) tree + count_by has_some table
  pub inside : (handle : ℕ) (opened : Handle) → file_at table handle ≡ Some opened → opened.item < length files
  pub made : AllByRecursion (IsMadeInTree 1) tree
