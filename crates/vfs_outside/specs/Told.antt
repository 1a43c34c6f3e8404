-- What a call says of a store that tells what stands in it. What it answers goes by the store that it met, the changes of
-- others being in it.
use Rattle.std.specs.Prelude.{◌≡◌, ◌≢◌, ℕ, Option, Some, None, List, Result, Ok, Err}
use Rattle.std.specs.List.{find}
use Rattle.vfs_names.specs.Path.{same_text}
use Rattle.vfs_names.specs.declared.fingerprint.Fingerprint.{Fingerprint}
use Rattle.vfs_outside.specs.Outside.{Outside}
use Rattle.vfs_outside.specs.RowName.{IsRowName}
use Rattle.vfs_outside.specs.Store.{CanPut, Dir, File, IsFile, SameStore, Store, Thing, child, with}
use Rattle.vfs_outside.specs.declared.listing.Kind.TheVariants as kind
use Rattle.vfs_outside.specs.declared.listing.Listing.{Listing}
use Rattle.vfs_outside.specs.declared.listing.Row.{Row}
use Rattle.vfs_outside.specs.declared.remote.RemoteError.{RemoteError}
use Rattle.vfs_outside.specs.declared.remote.RemoteError.TheVariants.{Missing}

-- a call that is done met this store, which is the one before where nobody else changes it
pub record Meets (old new : Outside) (does : Store → Store → Type 0) : Type 0 where
  pub met : Store
  pub alone : new.others ≡ 0 → met ≡ old.store
  pub done : does met new.store

-- a call that is refused leaves the store that it met; where it says that something is missing, it is
pub record Refuses (missing : Store → Type 0) (old new : Outside) (why : RemoteError) : Type 0 where
  pub alone : new.others ≡ 0 → new.store ≡ old.store
  pub if_missing : why ≡ Missing → missing new.store

abbrev pub Told : {T : Type 0} → (T → Store → Store → Type 0) → (Store → Type 0) → Outside → Outside → Result T RemoteError → Type 0
Told does missing old new (Ok x) = Meets old new (does x)
Told does missing old new (Err why) = Refuses missing old new why

abbrev pub row_of : List ℕ → List Row → Option Row
row_of name rows = find (λ (row : Row). same_text row.name name) rows

-- a directory's row, an object's row, or none
abbrev pub ShowsAs : Option Row → Option Thing → Type 0
ShowsAs None None = Unit {0}
ShowsAs None (Some x) = ⊥
ShowsAs (Some row) None = ⊥
ShowsAs (Some row) (Some Dir) = (row.kind ≡ kind.Dir) × (row.print ≡ record { size = 0; mtime = 0; rev = 0 })
ShowsAs (Some row) (Some (File print bytes)) = (row.kind ≡ kind.File) × (row.print ≡ print)

-- the rows are what stands in the directory
pub record Shows (dir : List ℕ) (listing : Listing) (met after : Store) : Type 0 where
  pub stays : after ≡ met
  pub there : met dir ≡ Some Dir
  pub rows : (name : List ℕ) → IsRowName name → ShowsAs (row_of name listing.rows) (met (child dir name))

abbrev pub ShowsRows : List ℕ → Outside → Outside → Result Listing RemoteError → Type 0
ShowsRows dir = Told (λ listing. Shows dir listing) (λ s. s dir ≢ Some Dir)

-- the object stands at the path
pub record Finds (print : Fingerprint) (bytes path : List ℕ) (met after : Store) : Type 0 where
  pub stays : after ≡ met
  pub there : met path ≡ Some (File print bytes)

abbrev pub FindsObject : {O : Type 0} → (O → Fingerprint) → (O → List ℕ) → List ℕ → Outside → Outside → Result O RemoteError → Type 0
FindsObject print bytes path = Told (λ o. Finds (print o) (bytes o) path) (λ s. ¬ (IsFile (s path)))

-- this is put at the path, where it can be, and nothing else changes
pub record Puts (path : List ℕ) (thing : Option Thing) (met after : Store) : Type 0 where
  pub can : CanPut path met
  pub only : SameStore after (with path thing met)

abbrev pub PutsObject : List ℕ → List ℕ → Outside → Outside → Result Fingerprint RemoteError → Type 0
PutsObject path bytes = Told (λ print. Puts path (Some (File print bytes))) (λ s. ¬ (CanPut path s))
