-- What calls on a slot's file leave.
use Rattle.std.specs.Prelude.{◌≡◌, ◌⊎◌, ◌≤◌, ℕ, ◌++◌, Bool, false, if◌then◌else◌, Option, Some, List}
use Rattle.vfs_outside.specs.Slot.{Slot}
use Rattle.vfs_outside.specs.declared.file_call.FileCall.{FileCall}
use Rattle.vfs_outside.specs.declared.file_call.FileCall.TheVariants.{Cleared, Quiet, Saved, Wrote}
use Rattle.item_meta.specs.declared.meta.Intent.{Intent}
use Rattle.item_meta.specs.declared.meta.Meta.{Meta}
use Rattle.item_image.specs.Calls.{Goes, Stays, Tears}
use Rattle.item_image.specs.Next.{IsGrown, settled_meta}
use Rattle.item_image.specs.Stands.{Means}

-- The slot's file was handed out with the same image and has as many calls as before or more, and no count fell.
pub record GoesOn (tells : Type 0) (old new : Slot) : Type 0 where
  pub calls : old.calls ≤ new.calls
  pub faults : old.faults ≤ new.faults
  pub told : tells → (more : List FileCall)
      × (new.told ≡ record { first = old.told.first; since = more ++ old.told.since })

-- how many calls settle a write that may be pending
abbrev pub settling : Bool → ℕ
settling pending = if pending then 1 else 0

-- Steps of the metadata in memory and the slot's file that change nothing of what is saved of the file: calls that read or
-- failed, and the write of a pending intent, done or torn.
pub data Moves (tells : Type 0) : Option Meta → Slot → Option Meta → Slot → Type 0 where
  stays : {m : Option Meta} {s t : Slot} → Stays tells s t → Moves tells m s m t
  idles : {m : Option Meta} {s t : Slot} → Goes tells Quiet s t → Moves tells m s m t
  settles : {m : Meta} {i : Intent} {s t : Slot} → m.intent ≡ Some i → Goes tells (Wrote i.pos i.bytes) s t
      → Moves tells (Some m) s (Some (settled_meta m)) t
  tears : {m : Meta} {i : Intent} {s t : Slot} → m.intent ≡ Some i → Tears tells i.pos i.bytes s t
      → Moves tells (Some m) s (Some m) t
  after : {m n o : Option Meta} {s t u : Slot} → Moves tells m s n t → Moves tells n t o u → Moves tells m s o u

-- a call that was none, or failed
abbrev pub Idles : Type 0 → Slot → Slot → Type 0
Idles tells old new = Stays tells old new ⊎ Goes tells Quiet old new

-- these metadata were saved
pub record Saves (tells : Type 0) (meta : Meta) (old new : Slot) : Type 0 where
  pub text : List ℕ
  pub means : Means text meta
  pub goes : Goes tells (Saved text) old new

-- a pending write was settled, and then the metadata were saved that come next
pub record Settles (tells : Type 0) (meta : Meta) (old : Slot) (next : Meta) (new : Slot) : Type 0 where
  pub there : Slot
  pub settled : Moves tells (Some meta) old (Some (settled_meta meta)) there
  pub saved : Saves tells next there new

-- a pending write was settled, and then the slot was cleared
pub record Clears (tells : Type 0) (meta : Meta) (old new : Slot) : Type 0 where
  pub there : Slot
  pub settled : Moves tells (Some meta) old (Some (settled_meta meta)) there
  pub cleared : Goes tells (Cleared false) there new

-- a write is saved at this number, and then its data may be written
pub record PutsDown (tells : Type 0) (pos : ℕ) (bytes : List ℕ) (now : ℕ) (old : Meta) (before : Slot) (at : ℕ) (new : Meta) (after : Slot) : Type 0 where
  pub next : Meta
  pub grown : IsGrown pos bytes now old next
  pub there : Slot
  pub settles : Settles tells old before next there
  pub number : at ≡ there.calls
  pub later : Moves tells (Some next) there (Some new) after
