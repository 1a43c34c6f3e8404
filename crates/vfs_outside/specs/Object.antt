-- What each call on an object says.
use Rattle.std.specs.Prelude.{◌≡◌, ◌≤◌, ◌+◌, ◌++◌, ℕ, List, [], ◌∷◌, length, slice_range, Result, Ok, Err}
use Rattle.vfs_names.specs.declared.fingerprint.Fingerprint.{Fingerprint}
use Rattle.vfs_outside.specs.Causes.{Rose}
use Rattle.vfs_outside.specs.declared.object.ObjectError.{ObjectError}
use Rattle.vfs_outside.specs.declared.object.ObjectError.TheVariants.{Changed, Failed, NoMemory}

-- no call changes an object's bytes, fingerprint or path
pub record SameObject {O : Type 0} (bytes : O → List ℕ) (print_of : O → Fingerprint) (path : O → List ℕ) (old new : O) : Type 0 where
  pub same_bytes : bytes new ≡ bytes old
  pub same_print : print_of new ≡ print_of old
  pub same_path : path new ≡ path old

-- the range is asked for, but not by a call that wants memory
abbrev pub IsAsked : {S : Type 0} → ℕ × ℕ → List (ℕ × ℕ) → List (ℕ × ℕ) → Result S ObjectError → Type 0
IsAsked range old new (Ok s) = new ≡ old ++ range ∷ []
IsAsked range old new (Err Changed) = new ≡ old ++ range ∷ []
IsAsked range old new (Err Failed) = new ≡ old ++ range ∷ []
IsAsked range old new (Err NoMemory) = new ≡ old

-- these are the bytes from a position on
abbrev pub IsPart : List ℕ → ℕ → List ℕ → Type 0
IsPart bytes pos part = part ≡ slice_range bytes pos (pos + length part)

-- no count falls, a call that failed made its count rise, and one that found another object the other count
pub record HasReason {T : Type 0} (faults faults' changes changes' : ℕ) (result : Result T ObjectError) : Type 0 where
  pub later : faults ≤ faults'
  pub later_changes : changes ≤ changes'
  pub failed : result ≡ Err Failed → Rose faults faults'
  pub changed : result ≡ Err Changed → Rose changes changes'
