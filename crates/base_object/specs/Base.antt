-- What contracts see of a base object, and what is true of every one.
use Rattle.std.specs.Prelude.{◌≡◌, ◌≤◌, ℕ, false, if◌then◌else◌, Option, Some, None, List, []}
use Rattle.vfs_names.specs.Fingerprint.{Agree, agree}
use Rattle.vfs_names.specs.declared.fingerprint.Fingerprint.{Fingerprint}
use Rattle.vfs_names.specs.declared.refusal.Found.{Found}
use Rattle.vfs_names.specs.declared.refusal.Found.TheVariants as found
use Rattle.vfs_names.specs.declared.refusal.Refusal.{Refusal}
use Rattle.vfs_names.specs.declared.refusal.Refusal.TheVariants as refusals
use Rattle.vfs_outside.specs.declared.object.ObjectError.{ObjectError}
use Rattle.vfs_outside.specs.declared.object.ObjectError.TheVariants.{Changed, Failed, NoMemory}
use Rattle.downloaders.specs.Crew.{Team}
use Rattle.downloaders.specs.Orders.{no_one}
use Rattle.base_object.specs.declared.state.BaseState.{BaseState}
use Rattle.base_object.specs.declared.state.BaseState.TheVariants.{Absent, Bound, Unbound, Lost}

-- what an object tells: its fingerprint and bytes, how often it failed, how often it was found to be another one, and the
-- ranges that were asked of it, in order
pub record ObjectFacts : Type 0 where
  pub print : Fingerprint
  pub bytes : List ℕ
  pub faults : ℕ
  pub changes : ℕ
  pub asked : List (ℕ × ℕ)

-- an object with its downloaders
pub record Downloading : Type 0 where
  pub object : ObjectFacts
  pub crew : Team

-- a base: which state it is in, what the object tells that was bound last, and its downloaders
pub record Base : Type 0 where
  pub state : BaseState
  pub object : Option ObjectFacts
  pub crew : Team

abbrev pub facts_of : {O : Type 0} → (O → Fingerprint) → (O → List ℕ) → (O → ℕ) → (O → ℕ) → (O → List (ℕ × ℕ)) → O → ObjectFacts
facts_of print bytes faults changes asked o =
    record { print = print o; bytes = bytes o; faults = faults o; changes = changes o; asked = asked o }

abbrev pub object_in : Option Downloading → Option ObjectFacts
object_in None = None
object_in (Some downloading) = Some downloading.object

abbrev pub crew_in : Option Downloading → Team
crew_in None = no_one false
crew_in (Some downloading) = downloading.crew

abbrev pub faults_of : Option ObjectFacts → ℕ
faults_of None = 0
faults_of (Some object) = object.faults

abbrev pub changes_of : Option ObjectFacts → ℕ
changes_of None = 0
changes_of (Some object) = object.changes

abbrev pub asked_of : Option ObjectFacts → List (ℕ × ℕ)
asked_of None = []
asked_of (Some object) = object.asked

abbrev pub bytes_of : Option ObjectFacts → List ℕ
bytes_of None = []
bytes_of (Some object) = object.bytes

-- the fingerprint of the object that the file holds
abbrev pub held_by : BaseState → Option Fingerprint
held_by Absent = None
held_by (Bound held) = Some held
held_by (Unbound held) = Some held
held_by (Lost held found) = Some held

-- an object can be asked, or it is known why none can
abbrev pub IsReady : BaseState → Type 0
IsReady Absent = ⊥
IsReady (Bound held) = Unit {0}
IsReady (Unbound held) = ⊥
IsReady (Lost held found) = Unit {0}

-- what was found isn't the object that is held
abbrev pub IsOther : Fingerprint → Found → Type 0
IsOther held found.Missing = Unit {0}
IsOther held (found.Other print) = agree held print ≡ false
IsOther held found.Changed = Unit {0}

-- no object is there, or one that agrees with this fingerprint
abbrev pub MayHave : Fingerprint → Option ObjectFacts → Type 0
MayHave held None = Unit {0}
MayHave held (Some object) = Agree held object.print

abbrev pub HasOne : Fingerprint → Option ObjectFacts → Type 0
HasOne held None = ⊥
HasOne held (Some object) = Agree held object.print

-- the state after an object was given: bound where it agrees with the one that is held, and else lost
abbrev pub state_with : Fingerprint → Fingerprint → BaseState
state_with held print = if agree held print then Bound held else Lost held (found.Other print)

-- what the error of an object says
abbrev pub refusal_of : Fingerprint → ObjectError → Refusal
refusal_of held Changed = refusals.Stale held found.Changed
refusal_of held Failed = refusals.RemoteFault
refusal_of held NoMemory = refusals.NoMemory

-- the state of a base whose object answered this error
abbrev pub state_after : Fingerprint → ObjectError → BaseState
state_after held Changed = Lost held found.Changed
state_after held Failed = Bound held
state_after held NoMemory = Bound held

-- no downloader is left where another object was found
abbrev pub crew_after : ObjectError → Team → Team
crew_after Changed crew = no_one false
crew_after Failed crew = crew
crew_after NoMemory crew = crew

-- Where an object is bound it agrees with the one that is held; where it isn't, there is no downloader, and what was found
-- in its place is another one.
abbrev pub IsBase : BaseState → Option ObjectFacts → Team → Type 0
IsBase Absent object crew = (object ≡ None) × (crew ≡ no_one false)
IsBase (Bound held) object crew = HasOne held object
IsBase (Unbound held) object crew = (object ≡ None) × (crew ≡ no_one false)
IsBase (Lost held found) object crew = MayHave held object × (crew ≡ no_one false) × IsOther held found

-- the same object, of which no count fell
pub record IsLater (old new : ObjectFacts) : Type 0 where
  pub print : new.print ≡ old.print
  pub bytes : new.bytes ≡ old.bytes
  pub faults : old.faults ≤ new.faults
  pub changes : old.changes ≤ new.changes

abbrev pub IsLaterOf : Option ObjectFacts → Option ObjectFacts → Type 0
IsLaterOf None None = Unit {0}
IsLaterOf None (Some new) = ⊥
IsLaterOf (Some old) None = ⊥
IsLaterOf (Some old) (Some new) = IsLater old new
