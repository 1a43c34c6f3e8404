-- What the nodes of a store in memory stand for.
use Rattle.std.specs.Prelude.{◌≡◌, ◌≢◌, ℕ, ◌||◌, Bool, if◌then◌else◌, nat_eq, Option, Some, None, List, [], ◌∷◌, ◌++◌, length}
use Rattle.std.specs.List.{find, starts_with}
use Rattle.std.specs.Option.{option_or}
use Rattle.vfs_names.specs.Path.{same_text}
use Rattle.vfs_names.specs.declared.fingerprint.Fingerprint.{Fingerprint}
use Rattle.vfs_outside.specs.Outside.{HasNames}
use Rattle.vfs_outside.specs.RowName.{IsRowName}
use Rattle.vfs_outside.specs.Store.{Dir, File, Store, Thing, child}
use Rattle.vfs_outside.specs.Told.{ShowsAs, row_of}
use Rattle.vfs_outside.specs.declared.listing.Row.{Row}
use Rattle.remote_memory.specs.declared.node.Kept.{Kept}
use Rattle.remote_memory.specs.declared.node.Kept.TheVariants as kept
use Rattle.remote_memory.specs.declared.node.Node.{Node}
use Rattle.remote_memory.specs.declared.node.Stored.{Stored}

-- the fingerprint of an object
abbrev pub fingerprint_of : Stored → Fingerprint
fingerprint_of object = record { size = length object.bytes; mtime = object.mtime; rev = object.rev }

abbrev pub thing_of : Kept → Thing
thing_of kept.Dir = Dir
thing_of (kept.File object) = File (fingerprint_of object) object.bytes

-- the bytes of an object
abbrev pub bytes_in : Option Thing → Option (List ℕ)
bytes_in None = None
bytes_in (Some Dir) = None
bytes_in (Some (File print bytes)) = Some bytes

-- the first node of a path counts
abbrev pub node_at : List Node → List ℕ → Option Node
node_at nodes path = find (λ (node : Node). same_text node.path path) nodes

abbrev pub thing_in : Option Node → Option Thing
thing_in None = None
thing_in (Some node) = Some (thing_of node.kept)

-- what stands at each path; the root is a directory and no node
abbrev pub store_of : List Node → Store
store_of nodes [] = Some Dir
store_of nodes (b ∷ bs) = thing_in (node_at nodes (b ∷ bs))

-- the rows are what stands in the directory
pub record ListsDir (dir : List ℕ) (nodes : List Node) (rows : List Row) : Type 0 where
  pub names : HasNames rows
  pub shows : (name : List ℕ) → IsRowName name → ShowsAs (row_of name rows) (store_of nodes (child dir name))

-- one more node gives the directory at most one more row
abbrev pub AddsNode : List ℕ → Node → List Row → List Row → Type 0
AddsNode dir node old new = (nodes : List Node) → ListsDir dir nodes old → ListsDir dir (nodes ++ node ∷ []) new

-- the path lies below the directory
abbrev pub is_below : List ℕ → List ℕ → Bool
is_below dir path = starts_with nat_eq path (dir ++ 47 ∷ [])

-- what stands at the second path gives way to an object that is put at the first
abbrev pub gives_way : List ℕ → List ℕ → Bool
gives_way path other = same_text path other || is_below other path || is_below path other

-- the store with this object: the directories above it stand, and what stood at its path and below is gone
abbrev pub with_object : List ℕ → Thing → Store → Store
with_object path thing store q = if same_text path q then Some thing else (if is_below q path then Some Dir else (if is_below path q then None else store q))

-- the store without what stands at a path and below
abbrev pub without : List ℕ → Store → Store
without path store q = if (same_text path q || is_below path q) then None else store q

-- directories above a path were put at the end of the nodes
abbrev pub AddsAbove : List ℕ → List Node → List Node → Type 0
AddsAbove path old new = (q : List ℕ) → q ≢ [] → thing_in (node_at new q) ≡ option_or (thing_in (node_at old q)) (if is_below q path then Some Dir else None)
