-- When an upload can finish, and what that leaves.
use Rattle.std.specs.Prelude.{◌≡◌, ◌⊎◌, ℕ, true, Some, List, ◌∷◌, IfSome}
use Rattle.vfs_names.specs.declared.fingerprint.Fingerprint.{Fingerprint}
use Rattle.vfs_names.specs.declared.refusal.Refusal.{Refusal}
use Rattle.vfs_names.specs.declared.refusal.Refusal.TheVariants as refusals
use Rattle.vfs_outside.specs.Causes.{Rose}
use Rattle.vfs_outside.specs.Outside.{Outside}
use Rattle.vfs_outside.specs.Store.{File}
use Rattle.vfs_outside.specs.Told.{Meets, Puts}
use Rattle.item_core.specs.Content.{Known, content_of}
use Rattle.item_core.specs.History.{is_dirty, size_of}
use Rattle.item_core.specs.Names.{name_of}
use Rattle.item_image.specs.Premise.{Fits, IsOfImage}
use Rattle.sparse_item.specs.Item.{IsAllHere, Item}

-- the bytes are the file's whole content, wherever the slot's file and the objects tell
abbrev pub IsContent : Type 0 → Type 0 → Item → List ℕ → Type 0
IsContent tells shows item bytes = tells → (known : Known) → Fits shows known item.log.past item.pairs
    → IsOfImage known item.slot.told.first → bytes ≡ content_of known item.log.past

-- Of a changed file all is in the slot's file, and a stage has as many bytes; where the store tells, they are the content.
pub record IsStaged (tells store shows : Type 0) (item : Item) (count : ℕ) (bytes : List ℕ) : Type 0 where
  pub dirty : is_dirty item.log.past ≡ true
  pub whole : IsAllHere item.here (size_of item.log.past)
  pub len : count ≡ size_of item.log.past
  pub content : store → IsContent tells shows item bytes

-- an object of these bytes was put at the file's path, and nothing else changed
abbrev pub IsCommitted : Item → List ℕ → Outside → Outside → Fingerprint → Type 0
IsCommitted item bytes old new print =
    IfSome (name_of item.log.past item.names) (λ path. Meets old new (Puts path (Some (File print bytes))))

-- nothing was committed, where nobody else changes the store; or the bytes were, whole, and then they weren't saved
abbrev pub IsUnsaved : Item → List ℕ → Outside → Outside → Type 0
IsUnsaved item bytes old new =
    (new.others ≡ 0 → new.store ≡ old.store) ⊎ ((print : Fingerprint) × IsCommitted item bytes old new print)

-- nothing was handed out, or an object of these bytes was
abbrev pub MayHand : List ℕ → Outside → Outside → Type 0
MayHand bytes old new = (new.handed ≡ old.handed) ⊎ ((print : Fingerprint) × (new.handed ≡ (print, bytes) ∷ old.handed))

-- why an upload doesn't finish
abbrev pub IsFinishCause : Item → Item → Outside → Outside → Refusal → Type 0
IsFinishCause item item' old new refusals.NotFound = Rose old.changes new.changes
IsFinishCause item item' old new refusals.RemoteFault = Rose old.faults new.faults
IsFinishCause item item' old new refusals.DiskFault = Rose item.slot.faults item'.slot.faults
IsFinishCause item item' old new refusals.NoMemory = Unit {0}
IsFinishCause item item' old new _ = ⊥
