-- What every store tells, and what each call on it says.
use Rattle.std.specs.Prelude.{◌≡◌, ◌<◌, ◌≤◌, ℕ, ◌++◌, false, List, [], ◌∷◌, Result, Ok, Err}
use Rattle.std.specs.List.{list_any}
use Rattle.vfs_names.specs.Path.{same_text}
use Rattle.vfs_names.specs.declared.fingerprint.Fingerprint.{Fingerprint}
use Rattle.vfs_outside.specs.Causes.{Rose}
use Rattle.vfs_outside.specs.RowName.{IsRowName}
use Rattle.vfs_outside.specs.Store.{Store}
use Rattle.vfs_outside.specs.declared.listing.Row.{Row}
use Rattle.vfs_outside.specs.declared.listing.Listing.{Listing}
use Rattle.vfs_outside.specs.declared.remote.RemoteError.{RemoteError}
use Rattle.vfs_outside.specs.declared.remote.RemoteError.TheVariants.{Missing, Exists, NotEmpty, Failed, NoMemory}

-- What a store tells: what stands in it, where it tells that; the pairs of fingerprint and bytes that it handed out, the
-- newest first; how often it failed, how often it answered that something isn't there or is, the number of its last
-- listing, and how many changes of others it met.
pub record Outside : Type 0 where
  pub store : Store
  pub handed : List (Fingerprint × List ℕ)
  pub faults : ℕ
  pub changes : ℕ
  pub lists : ℕ
  pub others : ℕ

-- which errors a call may give
abbrev pub MayFail : RemoteError → Type 0
MayFail Missing = ⊥
MayFail Exists = ⊥
MayFail NotEmpty = ⊥
MayFail Failed = Unit {0}
MayFail NoMemory = Unit {0}

abbrev pub MayBeMissing : RemoteError → Type 0
MayBeMissing Missing = Unit {0}
MayBeMissing Exists = ⊥
MayBeMissing NotEmpty = ⊥
MayBeMissing Failed = Unit {0}
MayBeMissing NoMemory = Unit {0}

-- the count that rises with each error
abbrev pub IsCause : Outside → Outside → RemoteError → Type 0
IsCause old new Missing = Rose old.changes new.changes
IsCause old new Exists = Rose old.changes new.changes
IsCause old new NotEmpty = Rose old.changes new.changes
IsCause old new Failed = Rose old.faults new.faults
IsCause old new NoMemory = Unit {0}

-- no count falls, only these errors come, and each has its cause
pub record Counts {T : Type 0} (may : RemoteError → Type 0) (old new : Outside) (result : Result T RemoteError) : Type 0 where
  pub faults : old.faults ≤ new.faults
  pub changes : old.changes ≤ new.changes
  pub others : old.others ≤ new.others
  pub may_come : (why : RemoteError) → result ≡ Err why → may why
  pub cause : (why : RemoteError) → result ≡ Err why → IsCause old new why

-- what is handed out where a call is done
abbrev pub Hands : {T : Type 0} → (T → List (Fingerprint × List ℕ)) → Outside → Outside → Result T RemoteError → Type 0
Hands gives old new (Ok x) = new.handed ≡ gives x ++ old.handed
Hands gives old new (Err why) = new.handed ≡ old.handed

abbrev pub nothing : {T : Type 0} → T → List (Fingerprint × List ℕ)
nothing x = []

-- what every call says
pub record IsCall {T : Type 0} (may : RemoteError → Type 0) (gives : T → List (Fingerprint × List ℕ)) (old new : Outside) (result : Result T RemoteError) : Type 0 where
  pub counts : Counts may old new result
  pub handed : Hands gives old new result

-- where nobody else changes the store, it stays
pub record StaysAlone (old new : Outside) : Type 0 where
  pub alone : new.others ≡ 0 → new.store ≡ old.store

-- the rows have names, and no two the same
abbrev pub HasNames : List Row → Type 0
HasNames [] = Unit {0}
HasNames (row ∷ rows) = IsRowName row.name × (list_any (λ (other : Row). same_text other.name row.name) rows ≡ false) × HasNames rows

-- a listing's number is greater than that of any earlier one, and its rows have names
abbrev pub IsNumbered : Outside → Outside → Result Listing RemoteError → Type 0
IsNumbered old new (Ok listing) = (old.lists < listing.number) × (listing.number ≡ new.lists) × HasNames listing.rows
IsNumbered old new (Err why) = old.lists ≤ new.lists
