-- What stands in a store of objects.
use Rattle.std.specs.Prelude.{◌≡◌, ◌≢◌, ℕ, ◌++◌, if◌then◌else◌, Option, Some, None, List, [], ◌∷◌}
use Rattle.vfs_names.specs.Path.{IsParent, same_text}
use Rattle.vfs_names.specs.declared.fingerprint.Fingerprint.{Fingerprint}

-- a directory, or an object with its fingerprint and its bytes
pub data Thing : Type 0 where
  Dir : Thing
  File : Fingerprint → List ℕ → Thing

-- what stands at each path
abbrev pub Store : Type 0
Store = List ℕ → Option Thing

-- the store with this at the path
abbrev pub with : List ℕ → Option Thing → Store → Store
with path thing store q = if same_text path q then thing else store q

-- the same stands at each path
abbrev pub SameStore : Store → Store → Type 0
SameStore a b = (q : List ℕ) → a q ≡ b q

-- the path of a name in a directory
abbrev pub child : List ℕ → List ℕ → List ℕ
child [] name = name
child (b ∷ bs) name = (b ∷ bs) ++ 47 ∷ name

abbrev pub IsFile : Option Thing → Type 0
IsFile None = ⊥
IsFile (Some Dir) = ⊥
IsFile (Some (File print bytes)) = Unit {0}

-- a directory stands at the path that the path lies in
pub record HasParent (path : List ℕ) (store : Store) : Type 0 where
  pub parent : List ℕ
  pub above : IsParent parent path
  pub is_dir : store parent ≡ Some Dir

-- an object can be put at the path: its parent is a directory, and it is none itself
pub record CanPut (path : List ℕ) (store : Store) : Type 0 where
  pub parent : HasParent path store
  pub free : store path ≢ Some Dir

-- what each fingerprint names holds what was handed out with it
abbrev pub HasHanded : (Fingerprint → List ℕ) → List (Fingerprint × List ℕ) → Type 0
HasHanded content [] = Unit {0}
HasHanded content (pair ∷ pairs) = (content pair.0 ≡ pair.1) × HasHanded content pairs
