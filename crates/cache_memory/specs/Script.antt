-- What is planned for a disk in memory and its files.
use Rattle.std.specs.Prelude.{◌≡◌, ◌≢◌, ℕ, ◌+◌, ◌-◌, ◌^◌, ◌++◌, ◌==◌, if◌then◌else◌, min, Contains, List, [], ◌∷◌, Result, Ok, Err}
use Rattle.vfs_outside.specs.declared.disk_error.DiskError.{DiskError}
use Rattle.vfs_outside.specs.declared.disk_error.DiskError.TheVariants.{Failed, NoMemory}
use Rattle.cache_memory.specs.declared.script.DiskCall.{DiskCall}
use Rattle.cache_memory.specs.declared.script.DiskFault.{DiskFault}

-- a call that is planned to fail doesn't succeed, and no other fails
abbrev pub AsPlanned : {N T : Type 0} → List N → N → Result T DiskError → Type 0
AsPlanned planned nth (Ok x) = ¬ (Contains planned nth)
AsPlanned planned nth (Err Failed) = Contains planned nth
AsPlanned planned nth (Err NoMemory) = Unit {0}

-- What is planned: the disk's calls that are to fail, and of each slot the numbers of its files' calls that are; and how
-- many calls of each kind the disk was asked for.
pub record Plans : Type 0 where
  pub calls : List DiskFault
  pub files : ℕ → List ℕ
  pub made : DiskCall → ℕ

pub record SamePlans (old new : Plans) : Type 0 where
  pub calls : new.calls ≡ old.calls
  pub files : (s : ℕ) → new.files s ≡ old.files s
  pub made : (call : DiskCall) → new.made call ≡ old.made call

-- the slot's file call of this number is planned too
pub record PlansFile (slot nth : ℕ) (old new : Plans) : Type 0 where
  pub calls : new.calls ≡ old.calls
  pub files : (s : ℕ) → new.files s ≡ (if s == slot then old.files s ++ nth ∷ [] else old.files s)
  pub made : (call : DiskCall) → new.made call ≡ old.made call

-- the disk's call of this kind and number is planned too
pub record PlansCall (call : DiskCall) (nth : ℕ) (old new : Plans) : Type 0 where
  pub calls : new.calls ≡ old.calls ++ record { call = call; nth = nth } ∷ []
  pub files : (s : ℕ) → new.files s ≡ old.files s
  pub made : (call : DiskCall) → new.made call ≡ old.made call

-- a call of this kind was counted, and failed exactly where that is planned; nothing else is planned now
pub record Goes {T : Type 0} (call : DiskCall) (old new : Plans) (result : Result T DiskError) : Type 0 where
  pub calls : new.calls ≡ old.calls
  pub files : (s : ℕ) → new.files s ≡ old.files s
  pub made : new.made call ≡ min (old.made call + 1) (2 ^ 64 - 1)
  pub others : (c : DiskCall) → c ≢ call → new.made c ≡ old.made c
  pub planned : AsPlanned old.calls (record { call = call; nth = new.made call }) result
