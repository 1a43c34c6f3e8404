-- A disk that has what it had, and one that is empty.
use Rattle.std.proofs.Common.{◌≡◌, ◌∙◌, ◌⊎◌, inl, inr, ◌<◌, ◌≤◌, ℕ, false, Option, None, Some, List, [], ◌∷◌, Result, Ok, Err, IfErr, ap, arith, length, refl, subst, sym}
use Rattle.std.specs.Prelude.{IsSome}
use Rattle.vfs_outside.proofs.Told.{later_rose}
use Rattle.vfs_outside.specs.Causes.{Rose}
use Rattle.vfs_outside.specs.Outside.{Outside}
use Rattle.vfs_outside.specs.Disk.{Disk, HasSlots, SameOut, SameShelves, Shelf}
use Rattle.vfs_outside.specs.Image.{meta_in}
use Rattle.vfs_outside.specs.Slot.{image}
use Rattle.one_session.specs.Slots.{Lends}
use Rattle.vfs_top.specs.Around.{IsEmpty, IsStill, around}
use Rattle.vfs_top.specs.Ended.{StartCause}
use Rattle.vfs_top.specs.declared.stop.Stop.{Stop}
use Rattle.vfs_top.specs.declared.stop.Stop.TheVariants as stops

pub still_twice : (kept : Type 0) (a b c : Disk) → IsStill kept a b → IsStill kept b c → IsStill kept a c
still_twice kept a b c p q = record {
  out = λ slot. q.out slot ∙ p.out slot;
  told = λ k slot. q.told k slot ∙ p.told k slot;
}

pub empty_before : (a b : Disk) → SameShelves a b → IsEmpty b → IsEmpty a
empty_before a b same empty = λ slot. ap (λ (x : Shelf). meta_in (image x.now)) (sym (same slot)) ∙ empty slot

pub empty_after : (a b : Disk) → SameShelves a b → IsEmpty a → IsEmpty b
empty_after a b same empty = λ slot. ap (λ (x : Shelf). meta_in (image x.now)) (same slot) ∙ empty slot

-- a slot that is listed has metadata
pub some_slot : (disk : Disk) (slots : List ℕ) → ((slot : ℕ) → disk.out slot ≡ false) → HasSlots disk slots → 0 < length slots → (slot : ℕ) × IsSome (meta_in (image (disk.shelf slot).now))
some_slot disk [] free has some = absurd (omega (arith, some))
some_slot disk (slot ∷ slots) free has some = (slot, (has slot (free slot)).0 (0, omega arith, refl))

-- where no file is out and no slot has metadata, all slots can be lent
pub lends_none : (tells : Type 0) (disk : Disk) → ((slot : ℕ) → disk.out slot ≡ false) → (tells → IsEmpty disk) → Lends tells 0 disk
lends_none tells disk free empty = record {
  out = λ slot lt. absurd (omega (arith, lt));
  here = λ slot le. free slot;
  blank = λ t slot le. empty t slot;
}

-- why no line was done, told from before the disk was attached
cause_before : (kept : Type 0) (moment : ℕ) (r r' : Outside) (a b c : Disk) (stop : Stop) → a.faults ≤ b.faults → (kept → SameShelves a b)
    → StartCause kept (around moment r b) (around moment r' c) stop → StartCause kept (around moment r a) (around moment r' c) stop
cause_before kept moment r r' a b c stops.Usage le same x = x
cause_before kept moment r r' a b c (stops.Refused n reason) le same x = x
cause_before kept moment r r' a b c stops.Source le same x = x
cause_before kept moment r r' a b c (stops.Limit what) le same x = x
cause_before kept moment r r' a b c stops.Remote le same x = x
cause_before kept moment r r' a b c stops.Disk le same x = later_rose a.faults b.faults c.faults le x
cause_before kept moment r r' a b c stops.Slots le same x =
    λ k. let found = x k in (found.0, subst (λ (s : Shelf). IsSome (meta_in (image s.now))) (same k found.0) found.1)
cause_before kept moment r r' a b c stops.NoMemory le same x = x

pub causes_before : {T : Type 0} (kept : Type 0) (moment : ℕ) (r r' : Outside) (a b c : Disk) (result : Result T Stop) → a.faults ≤ b.faults → (kept → SameShelves a b)
    → IfErr result (StartCause kept (around moment r b) (around moment r' c)) → IfErr result (StartCause kept (around moment r a) (around moment r' c))
causes_before kept moment r r' a b c (Ok x) le same h = tt
causes_before kept moment r r' a b c (Err stop) le same h = cause_before kept moment r r' a b c stop le same h

-- the remote couldn't be attached, whatever the disk tells
pub remote_cause : (kept : Type 0) (moment : ℕ) (r r' : Outside) (a b : Disk) (stop : Stop) → ((stop ≡ stops.Remote) × Rose r.faults r'.faults) ⊎ (stop ≡ stops.NoMemory)
    → StartCause kept (around moment r a) (around moment r' b) stop
remote_cause kept moment r r' a b stop (inl h) = subst (StartCause kept (around moment r a) (around moment r' b)) (sym h.0) h.1
remote_cause kept moment r r' a b stop (inr h) = subst (StartCause kept (around moment r a) (around moment r' b)) (sym h) tt
