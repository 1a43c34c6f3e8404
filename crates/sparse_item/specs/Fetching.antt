-- How bytes of the object behind a file come into its slot's file.
use Rattle.std.specs.Prelude.{◌≡◌, ◌⊎◌, ◌<◌, ◌≤◌, ℕ, ◌+◌, ◌-◌, Bool, true, false, min, length, Option, List, Result, Ok, Err}
use Rattle.byte_ranges.specs.Ranges.{has, is_in}
use Rattle.byte_ranges.specs.declared.Span.{Span}
use Rattle.vfs_names.specs.declared.refusal.Found.TheVariants as found
use Rattle.vfs_names.specs.declared.refusal.Refusal.{Refusal}
use Rattle.vfs_names.specs.declared.refusal.Refusal.TheVariants as refusals
use Rattle.vfs_outside.specs.Causes.{Rose}
use Rattle.vfs_outside.specs.Object.{IsPart}
use Rattle.vfs_outside.specs.Slot.{Slot}
use Rattle.vfs_outside.specs.declared.file_call.FileCall.TheVariants.{Quiet, Wrote}
use Rattle.item_core.specs.declared.entry.Entry.{Entry}
use Rattle.item_core.specs.History.{base_end_of, held_by}
use Rattle.item_core.specs.Legal.{TellsHeld}
use Rattle.item_meta.specs.declared.meta.Meta.{Meta}
use Rattle.item_image.specs.Calls.{Goes, Stays, Tears}
use Rattle.item_image.specs.Next.{IsFetched}
use Rattle.item_image.specs.Premise.{Pairs}
use Rattle.downloaders.specs.declared.Ask.{Ask}
use Rattle.downloaders.specs.Orders.{here_in_the_end}
use Rattle.base_object.specs.declared.block.Block.{Block}
use Rattle.base_object.specs.declared.state.BaseState.TheVariants.{Bound, Lost}
use Rattle.base_object.specs.Base.{Base, IsOther, changes_of, faults_of}
use Rattle.base_object.specs.Pulls.{Progress, to_pull}
use Rattle.base_object.specs.Reads.{MakesAll, MakesFront}
use Rattle.sparse_item.specs.Item.{Item, Saved}
use Rattle.sparse_item.specs.Moves.{Saves}
use Rattle.sparse_item.specs.Sound.{IsSound}

-- the part of a span that the object behind a file gives
abbrev pub object_part : List Entry → Span → Span
object_part past span = record { start = span.start; end = min span.end (base_end_of past) }

-- a byte of the part isn't here
abbrev pub Lacks : List Span → Span → Type 0
Lacks here part = (p : ℕ) × (is_in part p ≡ true) × (has here p ≡ false)

-- each of the bytes from a place on and before another is here
abbrev pub AreHere : List Span → ℕ → ℕ → Type 0
AreHere here from to = (p : ℕ) → from ≤ p → p < to → has here p ≡ true

-- none of them is here
abbrev pub AreAbsent : List Span → ℕ → ℕ → Type 0
AreAbsent here from to = (p : ℕ) → from ≤ p → p < to → has here p ≡ false

-- Of a block's bytes before a place, those that weren't here were put into the slot's file: each run of them by one write.
pub data Puts (tells : Type 0) (here : List Span) (block : Block) : ℕ → Slot → Slot → Type 0 where
  begins : {s : Slot} → Puts tells here block block.pos s s
  passes : {a b : ℕ} {s t : Slot} → Puts tells here block a s t → a ≤ b → AreHere here a b → Puts tells here block b s t
  writes : {a : ℕ} {bytes : List ℕ} {s t u : Slot} → Puts tells here block a s t → AreAbsent here a (a + length bytes)
      → IsPart block.bytes (a - block.pos) bytes → Goes tells (Wrote a bytes) t u → Puts tells here block (a + length bytes) s u

-- No byte that is here was changed: each call read or failed, or wrote, whole or not, where none is.
pub data Beside (tells : Type 0) (here : List Span) : Slot → Slot → Type 0 where
  stays : {s t : Slot} → Stays tells s t → Beside tells here s t
  idles : {s t : Slot} → Goes tells Quiet s t → Beside tells here s t
  tears : {pos : ℕ} {bytes : List ℕ} {s t : Slot} → AreAbsent here pos (pos + length bytes) → Tears tells pos bytes s t
      → Beside tells here s t
  after : {s t u : Slot} → Beside tells here s t → Beside tells here t u → Beside tells here s u

-- the bytes of a block that a file takes: those below its base end
abbrev pub taken : Block → ℕ → Span
taken block base_end = record { start = block.pos; end = min (block.pos + length block.bytes) base_end }

-- A block was stored: those of its bytes that weren't here were put into the slot's file, and then it was saved once that
-- they are here.
pub record Stores (tells : Type 0) (block : Block) (meta : Meta) (old : Slot) (meta' : Meta) (new : Slot) : Type 0 where
  pub there : Slot
  pub puts : Puts tells meta.ranges block (taken block meta.base_end).end old there
  pub fetched : IsFetched (taken block meta.base_end) meta meta'
  pub saved : Saves tells meta' there new

-- the requests of the asks up to the first pull were made, and the bytes of that pull are here
pub record BringsNext (asks : List Ask) (base_end : ℕ) (here here' : ℕ → Bool) (old new : Progress) : Type 0 where
  pub makes : MakesAll (to_pull asks) old new
  pub grown : (p : ℕ) → here' p ≡ here_in_the_end (to_pull asks) base_end here p

-- What a fetch leaves, which makes one pull where the asks have one; one that is refused made a front of the requests.
abbrev pub Fetches : {T : Type 0} → List Ask → ℕ → (ℕ → Bool) → (ℕ → Bool) → Progress → Progress → Result T Refusal → Type 0
Fetches asks base_end here here' old new (Ok x) = BringsNext asks base_end here here' old new
Fetches asks base_end here here' old new (Err why) = MakesFront (to_pull asks) old new

-- Why bytes of the object can't be had, where `lacks` says that some are absent: the object that is bound failed, or was
-- found to be another one, in this call; or the base was lost before; or the slot's file failed in this call.
abbrev pub IsBringCause : Type 0 → Base → Base → Slot → Slot → Refusal → Type 0
IsBringCause lacks old new slot slot' refusals.RemoteFault = lacks × Rose (faults_of old.object) (faults_of new.object)
IsBringCause lacks old new slot slot' (refusals.Stale held what) = lacks × IsOther held what × ((old.state ≡ Lost held what)
    ⊎ ((old.state ≡ Bound held) × (what ≡ found.Changed) × Rose (changes_of old.object) (changes_of new.object)))
IsBringCause lacks old new slot slot' refusals.DiskFault = Rose slot.faults slot'.faults
IsBringCause lacks old new slot slot' refusals.NoMemory = Unit {0}
IsBringCause lacks old new slot slot' _ = ⊥

-- a fetch of this part is refused so
abbrev pub IsFetchCause : Item → Item → Span → Refusal → Type 0
IsFetchCause old new part why = IsBringCause (Lacks old.here part) old.base new.base old.slot new.slot why

-- a stale refusal tells the fingerprint that the file holds, and another object where it tells one
abbrev pub TellsStale : List Entry → Refusal → Type 0
TellsStale past (refusals.Stale held what) = TellsHeld (held_by past) held what
TellsStale past _ = Unit {0}

-- every history that the parts of a file's book stood for before they stand for now
abbrev pub StandsOn : Type 0 → Type 0 → Option Meta → Slot → Base → Option Meta → Slot → Base → Type 0
StandsOn tells shows meta slot base meta' slot' base' =
    (past : List Entry) (names : List (List ℕ)) (saved : Saved) (pairs : Pairs) (atime : ℕ)
    → IsSound tells shows past names saved pairs meta slot base atime
    → IsSound tells shows past names saved pairs meta' slot' base' atime
