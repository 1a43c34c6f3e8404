-- What a pull leaves, by the asks of the rules.
use Rattle.std.specs.Prelude.{◌≡◌, ◌⊎◌, ◌<◌, ◌≤◌, ℕ, ◌+◌, ◌||◌, ◌++◌, Bool, false, min, List, [], ◌∷◌, length, Option, Some, None, Result, Ok, Err}
use Rattle.byte_ranges.specs.Ranges.{is_in}
use Rattle.downloaders.specs.declared.Ask.{Ask}
use Rattle.downloaders.specs.declared.Ask.TheVariants.{Done, Request, Pull}
use Rattle.downloaders.specs.Crew.{Team, after_end}
use Rattle.downloaders.specs.Orders.{requests_in, team_in_the_end, no_one}
use Rattle.downloaders.specs.Rules.{first_ask}
use Rattle.vfs_names.specs.declared.refusal.Found.TheVariants as found
use Rattle.vfs_names.specs.declared.refusal.Refusal.{Refusal}
use Rattle.vfs_names.specs.declared.refusal.Refusal.TheVariants as refusals
use Rattle.vfs_outside.specs.Causes.{Rose}
use Rattle.vfs_outside.specs.Object.{IsPart}
use Rattle.vfs_outside.specs.declared.object.ObjectError.{ObjectError}
use Rattle.vfs_outside.specs.declared.object.ObjectError.TheVariants.{Changed, Failed, NoMemory}
use Rattle.base_object.specs.declared.block.Block.{Block}
use Rattle.base_object.specs.declared.state.BaseState.{BaseState}
use Rattle.base_object.specs.declared.state.BaseState.TheVariants.{Absent, Bound, Unbound, Lost}
use Rattle.base_object.specs.Base.{Base, Downloading, IsOther, asked_of, changes_of, faults_of}

-- the asks up to the first pull, and it
abbrev pub to_pull : List Ask → List Ask
to_pull [] = []
to_pull (Pull run pos len ∷ rest) = Pull run pos len ∷ []
to_pull (ask ∷ rest) = ask ∷ to_pull rest

-- the asks after the first pull
abbrev pub past_pull : List Ask → List Ask
past_pull [] = []
past_pull (Pull run pos len ∷ rest) = rest
past_pull (ask ∷ rest) = past_pull rest

-- the block is what the first pull of these asks takes
abbrev pub IsPullOf : Block → List Ask → Type 0
IsPullOf block [] = ⊥
IsPullOf block (Pull run pos len ∷ rest) = (block.pos ≡ pos) × (length block.bytes ≡ len)
IsPullOf block (ask ∷ rest) = IsPullOf block rest

-- the number of the downloader whose turn it is
abbrev pub run_of : Ask → ℕ
run_of Done = 0
run_of (Request run start end chunk) = run
run_of (Pull run pos len) = run

-- the bytes that are here once those of a block are that lie below the base end
abbrev pub here_with : Block → ℕ → (ℕ → Bool) → ℕ → Bool
here_with block base_end here p =
    here p || is_in (record { start = block.pos; end = min (block.pos + length block.bytes) base_end }) p

-- A block has a byte, at most 131,072, and the first of them lies below the base end; they are the object's from there on,
-- where it tells its bytes.
pub record IsBlock (tells : Type 0) (bytes : List ℕ) (base_end : ℕ) (block : Block) : Type 0 where
  pub some : 1 ≤ length block.bytes
  pub most : length block.bytes ≤ 131072
  pub below : block.pos < base_end
  pub told : tells → IsPart bytes block.pos block.bytes

-- how far an object is asked for: the ranges that were asked of it, and its downloaders
pub record Progress : Type 0 where
  pub asked : List (ℕ × ℕ)
  pub crew : Team

abbrev pub progress_of : Base → Progress
progress_of base = record { asked = asked_of base.object; crew = base.crew }

abbrev pub progress_in : Downloading → Progress
progress_in downloading = record { asked = downloading.object.asked; crew = downloading.crew }

-- The first pull of the asks was made, after the requests before it.
pub record Brings (asks : List Ask) (block : Block) (old new : Progress) : Type 0 where
  pub is_pull : IsPullOf block asks
  pub asked : new.asked ≡ old.asked ++ requests_in (to_pull asks)
  pub crew : new.crew ≡ team_in_the_end (to_pull asks) old.crew

-- These requests were made, and the downloader whose turn it was has ended.
pub record Breaks (asks : List Ask) (requests : List (ℕ × ℕ)) (old new : Progress) : Type 0 where
  pub asked : new.asked ≡ old.asked ++ requests
  pub crew : new.crew ≡ after_end (run_of (first_ask asks)) old.crew

-- These requests were made, and no downloader is left.
pub record Clears (requests : List (ℕ × ℕ)) (old new : Progress) : Type 0 where
  pub asked : new.asked ≡ old.asked ++ requests
  pub crew : new.crew ≡ no_one false

-- memory was wanting before anything was done, or in the first call on the object, or in its pull
abbrev pub WantsMemory : List Ask → Progress → Progress → Type 0
WantsMemory asks old new =
    (new ≡ old) ⊎ Breaks asks [] old new ⊎ Breaks asks (requests_in (to_pull asks)) old new

-- what the error of an object leaves
abbrev pub FailsAsked : List Ask → Progress → Progress → ObjectError → Type 0
FailsAsked asks old new Changed = Breaks asks (requests_in (to_pull asks)) old new
FailsAsked asks old new Failed = Breaks asks (requests_in (to_pull asks)) old new
FailsAsked asks old new NoMemory = WantsMemory asks old new

-- what a pull of an object leaves, where the asks begin with one
abbrev pub PullsFirst : List Ask → Progress → Progress → Result Block ObjectError → Type 0
PullsFirst asks old new (Ok block) = Brings asks block old new
PullsFirst asks old new (Err why) = FailsAsked asks old new why

-- what a pull of an object leaves
abbrev pub PullsObject : List Ask → Progress → Progress → Result (Option Block) ObjectError → Type 0
PullsObject asks old new (Ok None) = new ≡ old
PullsObject asks old new (Ok (Some block)) = Brings asks block old new
PullsObject asks old new (Err why) = FailsAsked asks old new why

-- a fact of the block, where there is one
abbrev pub IfBlock : {E : Type 0} → Result (Option Block) E → (Block → Type 0) → Type 0
IfBlock (Ok None) P = Unit {0}
IfBlock (Ok (Some block)) P = P block
IfBlock (Err why) P = Unit {0}

-- of these requests, those that are made in a state: none once the base is lost
abbrev pub asked_in : BaseState → List (ℕ × ℕ) → List (ℕ × ℕ)
asked_in Absent requests = []
asked_in (Bound held) requests = requests
asked_in (Unbound held) requests = []
asked_in (Lost held found) requests = []

-- what a pull leaves
abbrev pub Pulls : BaseState → List Ask → Progress → Progress → Result (Option Block) Refusal → Type 0
Pulls state asks old new (Ok None) = new ≡ old
Pulls state asks old new (Ok (Some block)) = Brings asks block old new
Pulls state asks old new (Err refusals.RemoteFault) = Breaks asks (requests_in (to_pull asks)) old new
Pulls state asks old new (Err refusals.NoMemory) = WantsMemory asks old new
Pulls state asks old new (Err (refusals.Stale held what)) =
    Clears (asked_in state (requests_in (to_pull asks))) old new
Pulls state asks old new (Err _) = ⊥

-- the base is lost where a pull says so, and else as it was
abbrev pub Loses : {T : Type 0} → Result T Refusal → BaseState → BaseState → Type 0
Loses (Err (refusals.Stale held what)) old new = new ≡ Lost held what
Loses result old new = new ≡ old

-- Why a pull is refused: the object that is bound failed, or was found to be another one, in this call; or the base was
-- lost before.
abbrev pub IsPullCause : Base → Base → Refusal → Type 0
IsPullCause old new refusals.RemoteFault = Rose (faults_of old.object) (faults_of new.object)
IsPullCause old new refusals.NoMemory = Unit {0}
IsPullCause old new (refusals.Stale held what) = IsOther held what × ((old.state ≡ Lost held what)
    ⊎ ((old.state ≡ Bound held) × (what ≡ found.Changed) × Rose (changes_of old.object) (changes_of new.object)))
IsPullCause old new _ = ⊥
