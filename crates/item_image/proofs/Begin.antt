-- How a file begins at a slot, and how it ends there.
use Rattle.std.proofs.Common.{◌≡◌, ◌⊎◌, ℕ, ◌++◌, Bool, true, false, Option, Some, None, List, [], ◌∷◌, length, refl, sym, ap, ◌∙◌, inl, inr, arith, subst}
use Rattle.std.specs.Prelude.{IsSome, unwrap_or}
use Rattle.std.proofs.lemmas.Bool.{true≢false}
use Rattle.byte_ranges.specs.Ranges.{has}
use Rattle.vfs_names.specs.declared.fingerprint.Fingerprint.{Fingerprint}
use Rattle.vfs_names.specs.declared.who.By.{By}
use Rattle.vfs_outside.specs.Image.{data_in, meta_in}
use Rattle.vfs_outside.specs.Slot.{Slot, Told, image}
use Rattle.vfs_outside.specs.declared.file_call.FileCall.{FileCall}
use Rattle.vfs_outside.specs.declared.file_call.FileCall.TheVariants.{Saved, Cleared}
use Rattle.item_core.specs.declared.entry.Entry.{Entry}
use Rattle.item_core.specs.declared.entry.FileKind.{FileKind}
use Rattle.item_core.specs.declared.entry.FileKind.TheVariants.{Create, Adopt, Evict, Discard}
use Rattle.item_core.specs.Content.{Known, base_byte, byte_at}
use Rattle.item_core.specs.History.{is_kept}
use Rattle.item_core.specs.Names.{names_before}
use Rattle.item_meta.specs.declared.meta.Meta.{Meta}
use Rattle.item_image.specs.Facts.{HasFacts, facts_of}
use Rattle.item_image.specs.Premise.{Fits, IsOfImage, IsWholeAs, Pairs}
use Rattle.item_image.specs.Stands.{EachStands, Means, Tells, laid}
use Rattle.item_image.specs.Book.{Book, Keeps, KeepsFor}
use Rattle.item_image.specs.Calls.{Goes}
use Rattle.item_image.specs.Entries.{made, recovered_entry}
use Rattle.item_image.specs.Next.{adopted_meta, fresh_meta}
use Rattle.item_image.proofs.Premises.{fewer_fits, older_fits}
use Rattle.item_image.proofs.Steps.{made_now, stands_of, step_made}
use Rattle.item_image.proofs.Tells.{keeps_saved}

-- metadata were saved, which tell the file after an entry at this call
pub saved_made : {tells shows : Type 0} {past : List Entry} {names names' : List (List ℕ)} {saved : ℕ} {pairs pairs' : Pairs} {meta : Option Meta} {m : Meta} {text : List ℕ} {old new : Slot} (e : Entry)
    → Book tells shows past names saved pairs meta old → Goes tells (Saved text) old new → Means text m → e.at ≡ new.calls → names_before e.kind names' ≡ names
    → ((known : Known) → Fits shows known (e ∷ past) pairs' → Fits shows known past pairs)
    → is_kept (e ∷ past) ≡ true → HasFacts (facts_of saved (e ∷ past) names') m
    → (tells → (known : Known) → Fits shows known (e ∷ past) pairs' → IsOfImage known old.told.first
    → Tells known (facts_of saved (e ∷ past) names') (λ p. byte_at known (e ∷ past) p) m (λ p. data_in (image old.told) p))
    → Book tells shows (e ∷ past) names' saved pairs' (Some m) new
saved_made {text = text} e b g means at n less kept has tells = step_made (Saved text) e b g at n less (kept, has) (λ t known f i. keeps_saved means (tells t known f i))

-- ---- a file begins

none_since : (told : Told) (n : ℕ) → length told.since ≡ n → n ≡ 0 → told.since ≡ []
none_since told n e z = none told.since (e ∙ z) where
  none : (calls : List FileCall) → length calls ≡ 0 → calls ≡ []
  none [] h = refl
  none (c ∷ older) h = absurd (omega (arith, h))

-- a slot that was just handed out and has nothing saved
pub started : {tells shows : Type 0} {slot : Slot} (saved : ℕ) → slot.calls ≡ 0 → (tells → length slot.told.since ≡ slot.calls)
    → (tells → meta_in (image slot.told) ≡ None) → Book tells shows [] [] saved [] None slot
started {tells} {shows} {slot} saved zero counted blank = record {
  late = omega (arith, zero);
  kept = refl;
  counted = counted;
  images = λ t known f i. subst (λ (calls : List FileCall). EachStands known saved slot.told.first calls [] []) (sym (since t))
      (stands_of known saved slot.told.first [] [] None refl (first_blank t));
  holds = λ t known f i. blank t;
} where
  since : tells → slot.told.since ≡ []
  since t = none_since slot.told slot.calls (counted t) zero

  first_blank : tells → meta_in slot.told.first ≡ None
  first_blank t = subst (λ (calls : List FileCall). meta_in (calls ++ slot.told.first) ≡ None) (since t) (blank t)

absent_in_none : (p : ℕ) → has [] p ≡ true → ⊥
absent_in_none p h = true≢false (sym h)

-- a file is made here
pub created : {tells shows : Type 0} {past : List Entry} {names : List (List ℕ)} {saved : ℕ} {pairs : Pairs} {meta : Option Meta} {m : Meta} {text path : List ℕ} {old new : Slot} (by : By) (at : ℕ)
    → Book tells shows past names saved pairs meta old → Goes tells (Saved text) old new → Means text m → m ≡ fresh_meta path by.now → at ≡ new.calls
    → Book tells shows (made by at Create ∷ past) (path ∷ names) saved pairs (Some m) new
created {tells} {shows} {past} {names} {saved} {pairs} {meta} {m} {text} {path} {old} {new} by at b g means is at_is =
    subst (λ (x : Meta). Book tells shows (made by at Create ∷ past) (path ∷ names) saved pairs (Some x) new) (sym is)
    (saved_made (made by at Create) b g means' at_is refl (λ known f. older_fits f) refl has (λ t known f i. record {
      same = has;
      present = λ p h. absurd (absent_in_none p h);
      absent = λ p h. refl;
    })) where
      means' : Means text (fresh_meta path by.now)
      means' = subst (λ (x : Meta). Means text x) is means

      has : HasFacts (facts_of saved (made by at Create ∷ past) (path ∷ names)) (fresh_meta path by.now)
      has = record { path = refl; size = refl; base_end = refl; base = refl; dirty = refl; mtime = refl; fits = means'.in_range }

-- an object is taken, of which nothing is here yet
pub adopted : {tells shows : Type 0} {past : List Entry} {names : List (List ℕ)} {saved : ℕ} {pairs : Pairs} {meta : Option Meta} {m : Meta} {text path : List ℕ} {print : Fingerprint} {now : ℕ} {old new : Slot} (by : By) (at : ℕ) (bytes : List ℕ)
    → Book tells shows past names saved pairs meta old → Goes tells (Saved text) old new → Means text m → m ≡ adopted_meta path print now → at ≡ new.calls
    → Book tells shows (made by at (Adopt print) ∷ past) (path ∷ names) saved ((print, bytes) ∷ pairs) (Some m) new
adopted {tells} {shows} {past} {names} {saved} {pairs} {meta} {m} {text} {path} {print} {now} {old} {new} by at bytes b g means is at_is =
    subst (λ (x : Meta). Book tells shows (made by at (Adopt print) ∷ past) (path ∷ names) saved ((print, bytes) ∷ pairs) (Some x) new) (sym is)
    (saved_made (made by at (Adopt print)) b g means' at_is refl (λ known f. fewer_fits (older_fits f)) refl has (λ t known f i. record {
      same = has;
      present = λ p h. absurd (absent_in_none p h);
      absent = λ p h. refl;
    })) where
      means' : Means text (adopted_meta path print now)
      means' = subst (λ (x : Meta). Means text x) is means

      has : HasFacts (facts_of saved (made by at (Adopt print) ∷ past) (path ∷ names)) (adopted_meta path print now)
      has = record { path = refl; size = refl; base_end = refl; base = refl; dirty = refl; mtime = refl; fits = means'.in_range }

recovered_facts : {text : List ℕ} {m : Meta} (by : By) → Means text m → HasFacts (facts_of m.mtime (recovered_entry by m ∷ []) (m.path ∷ [])) m
recovered_facts by means = record { path = refl; size = refl; base_end = refl; base = refl; dirty = refl; mtime = refl; fits = means.in_range }

some_unwrap : (o : Option ℕ) (d : ℕ) → IsSome o → o ≡ Some (unwrap_or o d)
some_unwrap None d h = absurd (true≢false (sym h))
some_unwrap (Some x) d h = refl

saved_there : (known : Known) (m : Meta) (stored : ℕ → Option ℕ) (p : ℕ) → IsWholeAs m stored known.saved → has m.ranges p ≡ true → known.saved p ≡ laid m.intent stored p
saved_there known m stored p w h = w.same p ∙ (rw h refl)

saved_nowhere : (known : Known) (m : Meta) (stored : ℕ → Option ℕ) (p : ℕ) → IsWholeAs m stored known.saved → has m.ranges p ≡ false → known.saved p ≡ None
saved_nowhere known m stored p w h = w.same p ∙ (rw h refl)

recovered_tells : (known : Known) (m : Meta) (by : By) (text : List ℕ) (stored : ℕ → Option ℕ) → Means text m → IsWholeAs m stored known.saved
    → Tells known (facts_of m.mtime (recovered_entry by m ∷ []) (m.path ∷ [])) (λ p. byte_at known (recovered_entry by m ∷ []) p) m stored
recovered_tells known m by text stored means w = record {
  same = recovered_facts by means;
  present = λ p h. some_unwrap (laid m.intent stored p) (base_byte known m.base_end m.base p) (w.whole p h)
      ∙ ap (λ (o : Option ℕ). Some (unwrap_or o (base_byte known m.base_end m.base p))) (sym (saved_there known m stored p w h));
  absent = λ p h. ap (λ (o : Option ℕ). unwrap_or o (base_byte known m.base_end m.base p)) (saved_nowhere known m stored p w h);
}

-- the file that a slot has saved, as the slot was handed out
pub recovered : {tells shows : Type 0} {m : Meta} {text : List ℕ} {slot : Slot} (by : By) → slot.calls ≡ 0 → (tells → length slot.told.since ≡ slot.calls)
    → (tells → meta_in (image slot.told) ≡ Some text) → Means text m
    → Book tells shows (recovered_entry by m ∷ []) (m.path ∷ []) m.mtime [] (Some m) slot
recovered {tells} {shows} {m} {text} {slot} by zero counted has means = record {
  late = omega (arith, zero);
  kept = (refl, recovered_facts by means);
  counted = counted;
  images = λ t known f i. subst (λ (calls : List FileCall). EachStands known m.mtime slot.told.first calls (recovered_entry by m ∷ []) (m.path ∷ [])) (sym (since t))
      (stands_of known m.mtime slot.told.first (recovered_entry by m ∷ []) (m.path ∷ []) (Some m) (refl, recovered_facts by means) (first_keeps t known i));
  holds = λ t known f i. subst (λ (calls : List FileCall). KeepsFor known m.mtime (calls ++ slot.told.first) (recovered_entry by m ∷ []) (m.path ∷ []) m) (sym (since t)) (first_keeps t known i);
} where
  since : tells → slot.told.since ≡ []
  since t = none_since slot.told slot.calls (counted t) zero

  there : tells → meta_in slot.told.first ≡ Some text
  there t = subst (λ (calls : List FileCall). meta_in (calls ++ slot.told.first) ≡ Some text) (since t) (has t)

  first_keeps : tells → (known : Known) → IsOfImage known slot.told.first → KeepsFor known m.mtime slot.told.first (recovered_entry by m ∷ []) (m.path ∷ []) m
  first_keeps t known i = subst (λ (x : Option (List ℕ)). Keeps known x (λ p. data_in slot.told.first p)
      (facts_of m.mtime (recovered_entry by m ∷ []) (m.path ∷ [])) (λ p. byte_at known (recovered_entry by m ∷ []) p) m) (sym (there t))
      (keeps_saved means (recovered_tells known m by text (λ p. data_in slot.told.first p) means (i text m (there t) means)))

-- ---- a file ends

-- the file isn't kept any more
pub cleared : {tells shows : Type 0} {past : List Entry} {names : List (List ℕ)} {saved : ℕ} {pairs : Pairs} {meta : Option Meta} {old new : Slot} (by : By) (at : ℕ) (kind : FileKind) (keep : Bool)
    → Book tells shows past names saved pairs meta old → Goes tells (Cleared keep) old new → (kind ≡ Evict) ⊎ (kind ≡ Discard) → at ≡ new.calls
    → Book tells shows (made by at kind ∷ past) names saved pairs None new
cleared {tells} {shows} {past} {names} {saved} {pairs} {meta} {old} {new} by at kind keep b g (inl is) at_is =
    subst (λ k. Book tells shows (made by at k ∷ past) names saved pairs None new) (sym is)
    (step_made (Cleared keep) (made by at Evict) b g at_is refl (λ known f. older_fits f) refl (λ t known f i. refl))
cleared {tells} {shows} {past} {names} {saved} {pairs} {meta} {old} {new} by at kind keep b g (inr is) at_is =
    subst (λ k. Book tells shows (made by at k ∷ past) names saved pairs None new) (sym is)
    (step_made (Cleared keep) (made by at Discard) b g at_is refl (λ known f. older_fits f) refl (λ t known f i. refl))

-- a file of which nothing is saved needs no call
pub discarded : {tells shows : Type 0} {past : List Entry} {names : List (List ℕ)} {saved : ℕ} {pairs : Pairs} {slot : Slot} (by : By) (at : ℕ)
    → Book tells shows past names saved pairs None slot → at ≡ slot.calls → Book tells shows (made by at Discard ∷ past) names saved pairs None slot
discarded by at b at_is = made_now (made by at Discard) b at_is refl (λ known f. older_fits f) refl (λ t known f i. b.holds t known (older_fits f) i)
