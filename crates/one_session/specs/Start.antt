-- How an open begins a file.
use Rattle.std.specs.Prelude.{◌≡◌, ◌≤◌, ◌^◌, ◌⊎◌, ◌++◌, ℕ, Bool, true, false, Option, List, [], ◌∷◌, map, reverse}
use Rattle.vfs_names.specs.declared.calls.Access.{Access}
use Rattle.vfs_names.specs.declared.fingerprint.Fingerprint.{Fingerprint}
use Rattle.vfs_names.specs.declared.who.By.{By}
use Rattle.vfs_outside.specs.declared.tree.TreeKind.{TreeKind}
use Rattle.vfs_outside.specs.declared.tree.TreeKind.TheVariants as tree
use Rattle.item_core.specs.History.{held_by, is_dirty, is_kept, opens_of}
use Rattle.item_core.specs.Legal.{holds}
use Rattle.item_core.specs.declared.entry.Entry.{Entry}
use Rattle.item_core.specs.declared.entry.FileKind.{FileKind}
use Rattle.item_core.specs.declared.entry.FileKind.TheVariants as file
use Rattle.one_session.specs.Calls.{in_file}
use Rattle.one_session.specs.declared.start.Start.{Start}
use Rattle.one_session.specs.declared.start.Start.TheVariants.{Kept, Create, Bind, Adopt}

module _ {O S : Type 0} (print_of : O → Fingerprint) where
  -- what it adds to the file before it is opened
  abbrev pub front_of : Start O S → List FileKind
  front_of Kept = []
  front_of Create = file.Create ∷ []
  front_of (Bind object) = file.Bind (print_of object) ∷ []
  front_of (Adopt object) = file.Adopt (print_of object) ∷ []

  -- a file with this history may begin so
  abbrev pub MayStart : Start O S → List Entry → Type 0
  MayStart Kept past = is_kept past ≡ true
  MayStart Create past = (is_dirty past ≡ false) × (opens_of past ≡ 0)
  MayStart (Bind object) past = (is_kept past ≡ true) × (holds (held_by past) (print_of object) ≡ true)
  MayStart (Adopt object) past = (is_dirty past ≡ false) × (opens_of past ≡ 0) × ((print_of object).size ≤ 2 ^ 40)
      × ((is_kept past ≡ false) ⊎ (holds (held_by past) (print_of object) ≡ false))

-- the path that stands beside what it adds
abbrev pub named_by : {O S : Type 0} → List ℕ → Start O S → List (List ℕ)
named_by path Kept = []
named_by path Create = path ∷ []
named_by path (Bind object) = []
named_by path (Adopt object) = path ∷ []

-- the object that it gives the file
abbrev pub given_by : {O S : Type 0} → (O → Fingerprint) → (O → List ℕ) → Start O S → List (Fingerprint × List ℕ)
given_by print_of bytes Kept = []
given_by print_of bytes Create = []
given_by print_of bytes (Bind object) = (print_of object, bytes object) ∷ []
given_by print_of bytes (Adopt object) = (print_of object, bytes object) ∷ []

abbrev pub is_create : {O S : Type 0} → Start O S → Bool
is_create Kept = false
is_create Create = true
is_create (Bind object) = false
is_create (Adopt object) = false

-- the entries of an open that begins so, with the number of calls on the slot's file that there were then
abbrev pub opening : By → Access → ℕ → List FileKind → List Entry
opening by access at front = map (in_file by true at) (front ++ file.Opened access ∷ [])

-- the tree's entry for an open, where the file holds this object
abbrev pub opened_kind : Bool → List ℕ → ℕ → Option Fingerprint → TreeKind
opened_kind true path item print = tree.Created path (record { 0 = item })
opened_kind false path item print = tree.Opened path (record { 0 = item }) print
