-- What holds of the histories by themselves.
use Rattle.std.specs.Prelude.{◌≡◌, ◌⊎◌, ◌||◌, ◌<◌, ℕ, Bool, true, false, Some, List, [], ◌∷◌, length, reverse}
use Rattle.std.specs.List.{AllByRecursion}
use Rattle.vfs_names.specs.declared.who.By.{By}
use Rattle.vfs_names.specs.declared.who.Actor.TheVariants.{Main}
use Rattle.vfs_outside.specs.declared.tree.TreeEntry.{TreeEntry}
use Rattle.item_core.specs.Effects.{is_end, is_start}
use Rattle.item_core.specs.History.{count_of}
use Rattle.item_core.specs.Legal.{IsLegal, IsNoLater, IsTimely}
use Rattle.item_core.specs.declared.entry.Entry.{Entry}
use Rattle.item_core.specs.declared.entry.FileKind.{FileKind}
use Rattle.item_core.specs.declared.entry.FileKind.TheVariants.{Adopt, Create, Recovered}
use Rattle.one_session.specs.Served.{in_tree_of, in_file_of}
use Rattle.one_session.specs.State.{History, entries_in, history_in}
use Rattle.one_session.specs.Tree.{files_of, is_stored, item_of}

-- the session made the entry, or the program did as it carried out an upload
abbrev pub IsMade : ℕ → Entry → Type 0
IsMade session e = (in_file_of e session ≡ true) ⊎ ((e.by.who.actor ≡ Main) × (is_start e.kind || is_end e.kind ≡ true))

abbrev pub IsMadeInTree : ℕ → TreeEntry → Type 0
IsMadeInTree session e = (in_tree_of e session ≡ true) ⊎ ((e.by.who.actor ≡ Main) × (is_stored e.kind ≡ true))

-- the file's history is legal and in the order of time, and nobody but the session and the program's uploads made an entry
pub record IsWholeFile (session : ℕ) (file : History) : Type 0 where
  pub legal : IsLegal (reverse file.entries)
  pub timely : IsTimely (reverse file.entries)
  pub made : AllByRecursion (IsMade session) (reverse file.entries)

-- beside an entry of this kind stands a path
abbrev pub names_file : FileKind → Bool
names_file Create = true
names_file (Adopt print) = true
names_file (Recovered size base_end dirty base) = true
names_file _ = false

-- beside the history stand as many paths as it has entries that name the file, and each is the path of the file
pub record IsNamed (tree : List TreeEntry) (item : ℕ) (file : History) : Type 0 where
  pub count : length file.names ≡ count_of names_file (reverse file.entries)
  pub each : AllByRecursion (λ name. item_of tree name ≡ Some item) file.names

-- each file's history is whole, the files are those that the tree names, each by its path, and nobody but the session and
-- the program's uploads made an entry
pub record IsWhole (session : ℕ) (tree : List TreeEntry) (files : List History) : Type 0 where
  pub each : AllByRecursion (IsWholeFile session) files
  pub numbered : files_of tree ≡ length files
  pub named : (item : ℕ) → item < length files → IsNamed tree item (history_in files item)
  pub made : AllByRecursion (IsMadeInTree session) tree

-- nothing was done to a file in a later phase or at a later moment
abbrev pub IsUpTo : By → List History → Type 0
IsUpTo by files = (item : ℕ) → IsNoLater (reverse (entries_in files item)) by
