-- What the tree's history tells. A history is given with its oldest entry first. The directory is the root so far.
use Rattle.std.specs.Prelude.{ℕ, ◌+◌, ◌-◌, ◌==◌, ◌||◌, Bool, true, false, if◌then◌else◌, max, nat_lt, Option, None, Some, List, [], ◌∷◌, length, reverse}
use Rattle.std.specs.List.{list_any, count_by}
use Rattle.vfs_names.specs.Path.{same_text}
use Rattle.vfs_names.specs.declared.fingerprint.Fingerprint.{Fingerprint}
use Rattle.vfs_outside.specs.declared.tree.TreeEntry.{TreeEntry}
use Rattle.vfs_outside.specs.declared.tree.TreeKind.{TreeKind}
use Rattle.vfs_outside.specs.declared.tree.TreeKind.TheVariants.{Listed, Created, Opened, Closed, Stored, Gone}
use Rattle.shown_rows.specs.Shown.{shown_by}
use Rattle.shown_rows.specs.declared.Shown.{Shown}
use Rattle.shown_rows.specs.declared.Shown.TheVariants.{Object}

-- the entry lists the root
abbrev pub lists_root : TreeKind → Bool
lists_root (Listed dir listing) = same_text dir []
lists_root _ = false

-- the root was listed
abbrev pub is_listed : List TreeEntry → Bool
is_listed tree = list_any (λ (e : TreeEntry). lists_root e.kind) tree

-- the entry says that an object was stored
abbrev pub is_stored : TreeKind → Bool
is_stored (Stored path print) = true
is_stored _ = false

-- a row that is there has this fingerprint
abbrev pub reprinted : Fingerprint → Option Shown → Option Shown
reprinted print None = None
reprinted print (Some row) = Some (Object print)

-- What the root shows at a path after an entry: the row of its listing, which is gone once the object was found gone, and
-- has the fingerprint of the object that an opened file holds; and an object that was stored.
abbrev pub shown_after : TreeKind → List ℕ → Option Shown → Option Shown
shown_after (Listed dir listing) path old = if same_text dir [] then shown_by listing.rows path else old
shown_after (Gone name) path old = if same_text name path then None else old
shown_after (Opened name item (Some print)) path old = if same_text name path then reprinted print old else old
shown_after (Opened name item None) path old = old
shown_after (Stored name print) path old = if same_text name path then Some (Object print) else old
shown_after _ path old = old

abbrev pub shown_back : List TreeEntry → List ℕ → Option Shown
shown_back [] path = None
shown_back (e ∷ older) path = shown_after e.kind path (shown_back older path)

-- what the root shows at a path
abbrev pub shown : List TreeEntry → List ℕ → Option Shown
shown tree path = shown_back (reverse tree) path

-- an entry that opens or makes a file names it at its path
abbrev pub item_after : TreeKind → List ℕ → Option ℕ → Option ℕ
item_after (Created name item) path old = if same_text name path then Some item.0 else old
item_after (Opened name item print) path old = if same_text name path then Some item.0 else old
item_after _ path old = old

abbrev pub item_back : List TreeEntry → List ℕ → Option ℕ
item_back [] path = None
item_back (e ∷ older) path = item_after e.kind path (item_back older path)

-- the file of a path, which it keeps once it had one
abbrev pub item_of : List TreeEntry → List ℕ → Option ℕ
item_of tree path = item_back (reverse tree) path

-- one above the greatest number of a file
abbrev pub files_after : TreeKind → ℕ → ℕ
files_after (Created name item) old = max old (item.0 + 1)
files_after (Opened name item print) old = max old (item.0 + 1)
files_after _ old = old

abbrev pub files_back : List TreeEntry → ℕ
files_back [] = 0
files_back (e ∷ older) = files_after e.kind (files_back older)

-- how many files there are, which is the number of the next
abbrev pub files_of : List TreeEntry → ℕ
files_of tree = files_back (reverse tree)

-- the entry opens a handle of some file, or of this one
abbrev pub is_open : TreeKind → Bool
is_open (Created path item) = true
is_open (Opened path item print) = true
is_open _ = false

abbrev pub opens_item : ℕ → TreeKind → Bool
opens_item item (Created path other) = other.0 == item
opens_item item (Opened path other print) = other.0 == item
opens_item item _ = false

-- the entry closes a handle of some file, or of this one
abbrev pub is_close : TreeKind → Bool
is_close (Closed item dirty) = true
is_close _ = false

abbrev pub closes_item : ℕ → TreeKind → Bool
closes_item item (Closed other dirty) = other.0 == item
closes_item item _ = false

-- how often a file was opened, and closed
abbrev pub opened_in : List TreeEntry → ℕ → ℕ
opened_in tree item = count_by (λ (e : TreeEntry). opens_item item e.kind) tree

abbrev pub closed_in : List TreeEntry → ℕ → ℕ
closed_in tree item = count_by (λ (e : TreeEntry). closes_item item e.kind) tree

abbrev pub is_item : ℕ → Option ℕ → Bool
is_item item None = false
is_item item (Some other) = other == item

-- the last close of a file left it dirty, and it wasn't stored since as the object at its path
abbrev pub left_after : TreeKind → (List ℕ → Option ℕ) → ℕ → Bool → Bool
left_after (Closed other dirty) file_at item old = if other.0 == item then dirty else old
left_after (Stored name print) file_at item old = if is_item item (file_at name) then false else old
left_after _ file_at item old = old

abbrev pub left_back : List TreeEntry → ℕ → Bool
left_back [] item = false
left_back (e ∷ older) item = left_after e.kind (item_back older) item (left_back older item)

abbrev pub left_dirty : List TreeEntry → ℕ → Bool
left_dirty tree item = left_back (reverse tree) item

-- a file is held while a handle of it is open, and while it is dirty
abbrev pub is_held : List TreeEntry → ℕ → Bool
is_held tree item = nat_lt (closed_in tree item) (opened_in tree item) || left_dirty tree item

-- a held file is the file of the path: it hides what the root shows there
abbrev pub is_held_in : List TreeEntry → Option ℕ → Bool
is_held_in tree None = false
is_held_in tree (Some item) = is_held tree item

abbrev pub is_held_at : List TreeEntry → List ℕ → Bool
is_held_at tree path = is_held_in tree (item_of tree path)

-- the handles that are open
abbrev pub handles_of : List TreeEntry → ℕ
handles_of tree = count_by (λ (e : TreeEntry). is_open e.kind) tree - count_by (λ (e : TreeEntry). is_close e.kind) tree

-- the places that are free below a limit: an open handle keeps one for its close
abbrev pub free_places : ℕ → List TreeEntry → ℕ
free_places limit tree = limit - (length tree + handles_of tree)
