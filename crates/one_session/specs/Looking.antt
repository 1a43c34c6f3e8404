-- What an open does once the root was listed.
use Rattle.std.specs.Prelude.{◌≡◌, ◌⊎◌, ◌<◌, ◌≤◌, ◌^◌, ◌++◌, ℕ, Bool, true, false, Option, Some, None, List, [], ◌∷◌, length, Result, Ok, Err}
use Rattle.vfs_names.specs.declared.fingerprint.Fingerprint.{Fingerprint}
use Rattle.vfs_names.specs.declared.no_memory.NoMemory.{NoMemory}
use Rattle.vfs_names.specs.declared.refusal.Refusal.{Refusal}
use Rattle.vfs_names.specs.declared.refusal.Refusal.TheVariants as why
use Rattle.vfs_outside.specs.Causes.{Rose}
use Rattle.vfs_outside.specs.Outside.{Outside}
use Rattle.vfs_outside.specs.declared.tree.TreeEntry.{TreeEntry}
use Rattle.item_core.specs.Legal.{holds}
use Rattle.shown_rows.specs.declared.Shown.TheVariants.{Dir, Object}
use Rattle.one_session.specs.Causes.{HandsBig}
use Rattle.one_session.specs.Start.{given_by}
use Rattle.one_session.specs.declared.plan.Met.{Met}
use Rattle.one_session.specs.declared.plan.Plan.{Plan}
use Rattle.one_session.specs.declared.plan.Plan.TheVariants.{Begin, Refuse, Lose}
use Rattle.one_session.specs.declared.start.Start.{Start}
use Rattle.one_session.specs.declared.start.Start.TheVariants.{Kept, Create, Bind, Adopt}

-- the place of a listing, where one was added
abbrev pub listed_place : List TreeEntry → List TreeEntry → Option ℕ
listed_place before [] = None
listed_place before (e ∷ es) = Some (length before)

-- no held file is at the path, and an object is shown
pub record MeetsObject (met : Met) : Type 0 where
  pub unused : met.used ≡ false
  pub print : Fingerprint
  pub there : met.shown ≡ Some (Object print)

module _ {O S : Type 0} (print_of : O → Fingerprint) where
  -- which start is taken
  abbrev pub Starts : Met → Start O S → Type 0
  Starts met Kept = (met.used ≡ true) ⊎ ((met.used ≡ false) × ((print : Fingerprint) × (met.shown ≡ Some (Object print)) × (met.held ≡ Some print)))
  Starts met Create = (met.used ≡ false) × (met.shown ≡ None) × (met.create ≡ true)
  Starts met (Bind object) = MeetsObject met × (holds met.held (print_of object) ≡ true)
  Starts met (Adopt object) = MeetsObject met × ((print_of object).size ≤ 2 ^ 40) × (holds met.held (print_of object) ≡ false)

  -- what is done with an object that was opened
  abbrev pub Chooses : Option Fingerprint → O → Plan O S → Type 0
  Chooses held object (Begin Kept) = ⊥
  Chooses held object (Begin Create) = ⊥
  Chooses held object (Begin (Bind taken)) = (taken ≡ object) × (holds held (print_of object) ≡ true)
  Chooses held object (Begin (Adopt taken)) = (taken ≡ object) × ((print_of object).size ≤ 2 ^ 40) × (holds held (print_of object) ≡ false)
  Chooses held object (Refuse refusal) = (refusal ≡ why.TooBig) × (2 ^ 40 < (print_of object).size)
  Chooses held object Lose = ⊥

-- which refusal is given
abbrev pub Refuses : Met → Outside → Outside → Refusal → Type 0
Refuses met old new why.NotFound = (met.used ≡ false) × (met.shown ≡ None) × (met.create ≡ false)
Refuses met old new why.IsDir = (met.used ≡ false) × (met.shown ≡ Some Dir)
Refuses met old new why.RemoteFault = MeetsObject met × Rose old.faults new.faults
Refuses met old new why.TooBig = MeetsObject met × HandsBig new.handed
Refuses met old new _ = ⊥

-- what an open plans
abbrev pub Plans : {O S : Type 0} → (O → Fingerprint) → Met → Outside → Outside → Result (Plan O S) NoMemory → Type 0
Plans print_of met old new (Ok (Begin start)) = Starts print_of met start
Plans print_of met old new (Ok (Refuse refusal)) = Refuses met old new refusal
Plans print_of met old new (Ok Lose) = MeetsObject met × Rose old.changes new.changes
Plans print_of met old new (Err e) = MeetsObject met

-- what was handed out, which a start gives the file
abbrev pub Gives : {O S : Type 0} → (O → Fingerprint) → (O → List ℕ) → Outside → Outside → Result (Plan O S) NoMemory → Type 0
Gives print_of bytes old new (Ok (Begin start)) = new.handed ≡ given_by print_of bytes start ++ old.handed
Gives print_of bytes old new (Ok (Refuse refusal)) = (more : List (Fingerprint × List ℕ)) × (new.handed ≡ more ++ old.handed)
Gives print_of bytes old new (Ok Lose) = new.handed ≡ old.handed
Gives print_of bytes old new (Err e) = new.handed ≡ old.handed
