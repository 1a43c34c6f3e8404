-- Calls that tell nothing new keep what a book says.
use Rattle.std.proofs.Common.{◌≡◌, ℕ, ◌++◌, Option, Some, None, List, [], ◌∷◌, Result, Ok, Err, refl, sym, ap, ◌∙◌, inl, inr, arith, append_assoc, subst}
use Rattle.vfs_outside.specs.Slot.{HasFault, IsCall, Makes, Slot, Told, Writes}
use Rattle.vfs_outside.specs.declared.disk_error.DiskError.{DiskError}
use Rattle.vfs_outside.specs.declared.disk_error.DiskError.TheVariants.{Failed, NoMemory}
use Rattle.vfs_outside.specs.declared.file_call.FileCall.{FileCall}
use Rattle.vfs_outside.specs.declared.file_call.FileCall.TheVariants.{Quiet, Wrote}
use Rattle.item_core.specs.declared.entry.Entry.{Entry}
use Rattle.item_meta.specs.declared.meta.Intent.{Intent}
use Rattle.item_meta.specs.declared.meta.Meta.{Meta}
use Rattle.item_image.specs.Book.{Book}
use Rattle.item_image.specs.Calls.{Does, DoesWrite, Goes, Stays}
use Rattle.item_image.specs.Next.{IsGrown, settled_meta}
use Rattle.item_image.specs.Premise.{Pairs}
use Rattle.item_image.proofs.Calls.{does, does_write}
use Rattle.item_image.proofs.Change.{settled, torn}
use Rattle.item_image.proofs.Quiet.{no_call, quiet_call}
use Rattle.sparse_item.specs.Moves.{GoesOn, Idles, Moves, PutsDown, Settles, after, idles, settles, stays, tears}

pub no_step : {tells : Type 0} (s : Slot) → Stays tells s s
no_step s = record { calls = refl; told = λ t. refl }

pub moves_keep : {tells shows : Type 0} {past : List Entry} {names : List (List ℕ)} {saved : ℕ} {pairs : Pairs} {m n : Option Meta} {s t : Slot}
    → Moves tells m s n t → Book tells shows past names saved pairs m s → Book tells shows past names saved pairs n t
moves_keep (stays h) b = no_call b h
moves_keep (idles h) b = quiet_call b h
moves_keep (settles is h) b = settled b is h refl
moves_keep (tears is h) b = torn b is h
moves_keep (after x y) b = moves_keep y (moves_keep x b)

pub idles_move : {tells : Type 0} {m : Option Meta} {s t : Slot} → Idles tells s t → Moves tells m s m t
idles_move (inl h) = stays h
idles_move (inr h) = idles h

-- a call that wasn't done
pub failed_idles : {tells : Type 0} {s t : Slot} (T : Type 0) (c : FileCall) (why : DiskError) → Does {T = T} tells c s t (Err why) → Idles tells s t
failed_idles T c Failed h = inr h
failed_idles T c NoMemory h = inl h

-- an intent that is none is settled
pub settled_none : (m : Meta) → m.intent ≡ None → m ≡ settled_meta m
settled_none m e = ap (λ (x : Option Intent). record m { intent = x }) e

-- a write of a pending intent that wasn't done
pub failed_write : {tells : Type 0} {m : Meta} {i : Intent} {s t : Slot} (T : Type 0) (why : DiskError) → m.intent ≡ Some i → DoesWrite {T = T} tells i.pos i.bytes s t (Err why)
    → Moves tells (Some m) s (Some m) t
failed_write T Failed is h = tears is h
failed_write T NoMemory is h = stays h

-- a pending write was done
pub settle_done : {tells : Type 0} {m m' : Meta} {i : Intent} {bytes : List ℕ} {s t : Slot} → m.intent ≡ Some i → bytes ≡ i.bytes → Goes tells (Wrote i.pos bytes) s t → m' ≡ settled_meta m
    → Moves tells (Some m) s (Some m') t
settle_done {tells} {m} {m'} {i} {bytes} {s} {t} is same g done = subst (λ (x : Meta). Moves tells (Some m) s (Some x) t) (sym done)
    (settles is (subst (λ (x : List ℕ). Goes tells (Wrote i.pos x) s t) same g))

pub settle_failed : {tells : Type 0} {m : Meta} {i : Intent} {bytes : List ℕ} {s t : Slot} (T : Type 0) (why : DiskError) → m.intent ≡ Some i → bytes ≡ i.bytes
    → DoesWrite {T = T} tells i.pos bytes s t (Err why) → Moves tells (Some m) s (Some m) t
settle_failed {tells} {i = i} {s = s} {t = t} T why is same h = failed_write T why is (subst (λ (x : List ℕ). DoesWrite {T = T} tells i.pos x s t (Err why)) same h)

-- a call that wasn't done, after others
pub then_failed : {tells : Type 0} {m n : Option Meta} {s t u : Slot} (T : Type 0) (c : FileCall) (why : DiskError) → Moves tells m s n t → Does {T = T} tells c t u (Err why) → Moves tells m s n u
then_failed T c why x h = after x (idles_move (failed_idles T c why h))

-- metadata were saved, and then a pending write was maybe settled
pub puts_down : {tells : Type 0} {pos now at : ℕ} {bytes : List ℕ} {m next n m' : Meta} {s t u : Slot} → IsGrown pos bytes now m next → n ≡ next → Settles tells m s n t → at ≡ t.calls
    → Moves tells (Some n) t (Some m') u → PutsDown tells pos bytes now m s at m' u
puts_down {pos = pos} {now = now} {bytes = bytes} {m = m} {n = n} {t = t} grown is saves number later = record {
  next = n;
  grown = subst (λ (x : Meta). IsGrown pos bytes now m x) (sym is) grown;
  there = t;
  settles = saves;
  number = number;
  later = later;
}

-- ---- a slot's file goes on

pub goes_nowhere : {tells : Type 0} (s : Slot) → GoesOn tells s s
goes_nowhere s = record { calls = omega arith; faults = omega arith; told = λ t. ([], refl) }

pub goes_further : {tells : Type 0} {s t u : Slot} → GoesOn tells s t → GoesOn tells t u → GoesOn tells s u
goes_further {tells} {s} {t} {u} a b = record {
  calls = omega (arith, a.calls, b.calls);
  faults = omega (arith, a.faults, b.faults);
  told = λ h. (
    (b.told h).0 ++ (a.told h).0,
    (b.told h).1 ∙ ap (λ (x : Told). record { first = x.first; since = (b.told h).0 ++ x.since }) (a.told h).1
        ∙ ap (λ (xs : List FileCall). record { first = s.told.first; since = xs }) (sym (append_assoc (b.told h).0 (a.told h).0 s.told.since)),
  );
}

pub call_goes : {T tells : Type 0} {s t : Slot} (c : FileCall) (result : Result T DiskError) → Does tells c s t result → HasFault s.faults t.faults result → GoesOn tells s t
call_goes c (Ok x) h f = record { calls = omega (arith, h.calls); faults = f.later; told = λ k. (c ∷ [], h.told k) }
call_goes c (Err Failed) h f = record { calls = omega (arith, h.calls); faults = f.later; told = λ k. (Quiet ∷ [], h.told k) }
call_goes c (Err NoMemory) h f = record { calls = omega (arith, h.calls); faults = f.later; told = λ k. ([], h.told k) }

pub write_goes : {T tells : Type 0} {s t : Slot} (pos : ℕ) (bytes : List ℕ) (result : Result T DiskError) → DoesWrite tells pos bytes s t result → HasFault s.faults t.faults result
    → GoesOn tells s t
write_goes pos bytes (Ok x) h f = record { calls = omega (arith, h.calls); faults = f.later; told = λ k. (Wrote pos bytes ∷ [], h.told k) }
write_goes pos bytes (Err Failed) h f = record { calls = omega (arith, h.calls); faults = f.later; told = λ k. (Wrote pos (h.told k).0 ∷ [], (h.told k).2) }
write_goes pos bytes (Err NoMemory) h f = record { calls = omega (arith, h.calls); faults = f.later; told = λ k. ([], h.told k) }

-- a call on the slot's file
pub slot_goes : {T tells : Type 0} {s t : Slot} (c : FileCall) (result : Result T DiskError) → IsCall s t result → (tells → Makes c s.told t.told result) → GoesOn tells s t
slot_goes c result call told = call_goes c result (does c result call told) call.fault

pub slot_writes : {T tells : Type 0} {s t : Slot} (pos : ℕ) (bytes : List ℕ) (result : Result T DiskError) → IsCall s t result → (tells → Writes pos bytes s.told t.told result) → GoesOn tells s t
slot_writes pos bytes result call told = write_goes pos bytes result (does_write pos bytes result call told) call.fault
