-- How a fetch puts bytes into the data, and then saves that they are there.
use Rattle.std.proofs.Common.{◌≡◌, ◌≤◌, ◌<◌, ℕ, ◌+◌, ◌-◌, ◌||◌, if◌then◌else◌, Bool, true, false, Option, Some, None, List, length, refl, sym, ap, ◌∙◌, inl, inr, arith, subst}
use Rattle.std.specs.Prelude.{slice_index}
use Rattle.std.proofs.lemmas.Bool.{cases_Bool, cases_lt, true≢false}
use Rattle.std.proofs.lemmas.Bool.Decides.{nat_tests}
use Rattle.byte_ranges.specs.Ranges.{has, is_in}
use Rattle.byte_ranges.specs.declared.Span.{Span}
use Rattle.vfs_outside.specs.Image.{data_in, is_within}
use Rattle.vfs_outside.specs.Slot.{Slot, Told, image}
use Rattle.vfs_outside.specs.declared.file_call.FileCall.TheVariants.{Quiet, Saved, Wrote}
use Rattle.item_core.specs.declared.entry.Entry.{Entry}
use Rattle.item_core.specs.Content.{Known, base_byte, byte_at}
use Rattle.item_core.specs.History.{base_end_of, held_by}
use Rattle.item_meta.specs.declared.meta.Meta.{Meta}
use Rattle.item_image.specs.Facts.{HasFacts, MetaFacts}
use Rattle.item_image.specs.Premise.{Fits, IsBase, IsOfImage, Pairs}
use Rattle.item_image.specs.Stands.{Means, Tells, laid}
use Rattle.item_image.specs.Book.{Book, Keeps}
use Rattle.item_image.specs.Calls.{Goes, Tears}
use Rattle.item_image.specs.Next.{IsFetched}
use Rattle.item_image.specs.Stored.{HasStored}
use Rattle.item_image.proofs.Change.{base_past}
use Rattle.item_image.proofs.Steps.{step, step_torn}
use Rattle.item_image.proofs.Tells.{beside, keeps_absent, keeps_data, keeps_moved, keeps_saved, keeps_there, laid_same, neither}

-- ---- a write beside the ranges

not_there : (b : Bool) → (b ≡ true → ⊥) → b ≡ false
not_there true h = absurd (h refl)
not_there false h = refl

keeps_beside : {known : Known} {text : Option (List ℕ)} {facts : MetaFacts} {bytes : ℕ → ℕ} {m : Meta} {stored stored' : ℕ → Option ℕ} → Keeps known text stored facts bytes m
    → ((p : ℕ) → has m.ranges p ≡ true → stored' p ≡ stored p) → Keeps known text stored' facts bytes m
keeps_beside {m = m} {stored = stored} {stored' = stored'} k same = keeps_moved k refl k.pending
    (λ p h. laid_same m.intent stored stored' p (same p h) ∙ k.present p h)
    (λ p h. laid_same k.saved.meta.intent stored stored' p (same p (keeps_there k p h)))

outside : (pos n p : ℕ) (there : Bool) → (is_within pos n p ≡ true → there ≡ false) → there ≡ true → is_within pos n p ≡ false
outside pos n p there h e = not_there (is_within pos n p) (λ w. true≢false (sym e ∙ h w))

-- bytes were written, whole or not, where none is there
pub stored_beside : {tells shows : Type 0} {past : List Entry} {names : List (List ℕ)} {saved : ℕ} {pairs : Pairs} {m : Meta} {pos : ℕ} {bytes : List ℕ} {old new : Slot}
    → Book tells shows past names saved pairs (Some m) old → Tears tells pos bytes old new → ((p : ℕ) → is_within pos (length bytes) p ≡ true → has m.ranges p ≡ false)
    → Book tells shows past names saved pairs (Some m) new
stored_beside {m = m} {pos = pos} {bytes = bytes} {old = old} b g free = step_torn b g b.kept (λ t known f i left len.
    keeps_beside (b.holds t known f i) (λ p h. beside pos (length left) (λ q. Some (slice_index left (q - pos))) (λ q. data_in (image old.told) q) p
    (ap (λ n. is_within pos n p) len ∙ outside pos (length bytes) p (has m.ranges p) (free p) h)))

-- ---- what a fetch has put into the data so far

pub stored_none : {tells shows : Type 0} {past : List Entry} {pairs : Pairs} {ranges : List Span} {span : Span} {slot : Slot} → span.end ≤ span.start
    → HasStored tells shows past pairs ranges span slot
stored_none h = record { stored = λ t known f i p from to out. absurd (omega (arith, h, from, to)) }

-- bytes that are there need no write
pub stored_present : {tells shows : Type 0} {past : List Entry} {pairs : Pairs} {ranges : List Span} {slot : Slot} (start a b : ℕ)
    → HasStored tells shows past pairs ranges (record { start = start; end = a }) slot → ((p : ℕ) → a ≤ p → p < b → has ranges p ≡ true)
    → HasStored tells shows past pairs ranges (record { start = start; end = b }) slot
stored_present start a b s there = record {
  stored = λ t known f i p from to out. elim (cases_lt p a) [
    | inl lt ↦ s.stored t known f i p from lt out
    | inr le ↦ absurd (true≢false (sym (there p le to) ∙ out))
  ];
}

pub stored_quiet : {tells shows : Type 0} {past : List Entry} {pairs : Pairs} {ranges : List Span} {span : Span} {old new : Slot}
    → HasStored tells shows past pairs ranges span old → Goes tells Quiet old new → HasStored tells shows past pairs ranges span new
stored_quiet {past = past} {ranges = ranges} {span = span} s g = record {
  stored = λ t known f. subst (λ (x : Told). IsOfImage known x.first → (p : ℕ) → span.start ≤ p → p < span.end → has ranges p ≡ false
      → data_in (image x) p ≡ Some (byte_at known past p)) (sym (g.told t)) (s.stored t known f);
}

before : (pos n p : ℕ) → p < pos → is_within pos n p ≡ false
before pos n p h = grind (arith, nat_tests)

inside : (pos n p : ℕ) → pos ≤ p → p < pos + n → is_within pos n p ≡ true
inside pos n p h k = grind (arith, nat_tests)

-- the next bytes, which the held object gives or which are zeros
pub stored_more : {tells shows : Type 0} {past : List Entry} {names : List (List ℕ)} {saved : ℕ} {pairs : Pairs} {m : Meta} {pos : ℕ} {bytes : List ℕ} {old new : Slot} (start : ℕ)
    → HasStored tells shows past pairs m.ranges (record { start = start; end = pos }) old → Book tells shows past names saved pairs (Some m) old
    → Goes tells (Wrote pos bytes) old new → IsBase shows past pairs pos bytes
    → HasStored tells shows past pairs m.ranges (record { start = start; end = pos + length bytes }) new
stored_more {tells} {shows} {past} {names} {saved} {pairs} {m} {pos} {bytes} {old} {new} start s b g base = record {
  stored = λ t known f.
      subst (λ (x : Told). IsOfImage known x.first → (p : ℕ) → start ≤ p → p < pos + length bytes → has m.ranges p ≡ false → data_in (image x) p ≡ Some (byte_at known past p)) (sym (g.told t)) (there t known f);
} where
  there : tells → (known : Known) → Fits shows known past pairs → IsOfImage known old.told.first → (p : ℕ) → start ≤ p → p < pos + length bytes → has m.ranges p ≡ false
      → (if is_within pos (length bytes) p then Some (slice_index bytes (p - pos)) else data_in (image old.told) p) ≡ Some (byte_at known past p)
  there t known f i p from to out = elim (cases_lt p pos) [
    | inl lt ↦ let w : is_within pos (length bytes) p ≡ false = before pos (length bytes) p lt in rw w (s.stored t known f i p from lt out)
    | inr le ↦
        let w : is_within pos (length bytes) p ≡ true = inside pos (length bytes) p le to in
        let k = b.holds t known f i in
        let at : pos + (p - pos) ≡ p = omega (arith, le) in
        rw w (ap Some (base.each known f (p - pos) (omega (arith, le, to)) ∙ ap (base_byte known (base_end_of past) (held_by past)) at ∙ sym (k.saved.tells.absent p (keeps_absent k p out))))
  ]

-- zeros, at or above the base end
pub zeros_base : {shows : Type 0} {past : List Entry} {pairs : Pairs} {pos : ℕ} {bytes : List ℕ} → base_end_of past ≤ pos
    → ((i : ℕ) → i < length bytes → slice_index bytes i ≡ 0) → IsBase shows past pairs pos bytes
zeros_base {past = past} {pos = pos} h zeros = record { each = λ known f i lt. zeros i lt ∙ sym (base_past known (base_end_of past) (held_by past) (pos + i) (omega (arith, h))) }

-- ---- the save

fetched_facts : {facts : MetaFacts} {m m' : Meta} {text : List ℕ} {span : Span} → HasFacts facts m → Means text m' → IsFetched span m m' → HasFacts facts m'
fetched_facts h means g = record {
  path = h.path ∙ ap (λ (x : Meta). Some x.path) (sym g.same);
  size = ap (λ (x : Meta). x.size) g.same ∙ h.size;
  base_end = ap (λ (x : Meta). x.base_end) g.same ∙ h.base_end;
  base = ap (λ (x : Meta). x.base) g.same ∙ h.base;
  dirty = ap (λ (x : Meta). x.dirty) g.same ∙ h.dirty;
  mtime = ap (λ (x : Meta). x.mtime) g.same ∙ h.mtime;
  fits = means.in_range;
}

fetched_tells : {known : Known} {text : Option (List ℕ)} {facts : MetaFacts} {bytes : ℕ → ℕ} {m m' : Meta} {span : Span} {stored : ℕ → Option ℕ}
    → HasFacts facts m' → Keeps known text stored facts bytes m → m.intent ≡ None → IsFetched span m m'
    → ((p : ℕ) → span.start ≤ p → p < span.end → has m.ranges p ≡ false → stored p ≡ Some (bytes p)) → Tells known facts bytes m' stored
fetched_tells {known} {text} {facts} {bytes} {m} {m'} {span} {stored} has_facts k none g came = record { same = has_facts; present = present; absent = absent } where
  from : (p : ℕ) → is_in span p ≡ true → span.start ≤ p
  from p h = grind (arith, nat_tests)

  to : (p : ℕ) → is_in span p ≡ true → p < span.end
  to p h = grind (arith, nat_tests)

  or_right : (a b : Bool) → (a || b) ≡ true → a ≡ false → b ≡ true
  or_right true b h e = absurd (true≢false e)
  or_right false b h e = h

  present : (p : ℕ) → has m'.ranges p ≡ true → laid m'.intent stored p ≡ Some (bytes p)
  present p h = ap (λ (x : Meta). laid x.intent stored p) g.same ∙ (elim (cases_Bool (has m.ranges p)) [
    | inl there ↦ keeps_data k none p there
    | inr out ↦ let w : is_in span p ≡ true = or_right (has m.ranges p) (is_in span p) (sym (g.ranges p) ∙ h) out in came p (from p w) (to p w) out
  ])

  absent : (p : ℕ) → has m'.ranges p ≡ false → bytes p ≡ base_byte known facts.base_end facts.held p
  absent p h = k.saved.tells.absent p (keeps_absent k p (neither (has m.ranges p) (is_in span p) (sym (g.ranges p) ∙ h)).0)

pub fetched : {tells shows : Type 0} {past : List Entry} {names : List (List ℕ)} {saved : ℕ} {pairs : Pairs} {m m' : Meta} {text : List ℕ} {span : Span} {old new : Slot}
    → Book tells shows past names saved pairs (Some m) old → m.intent ≡ None → HasStored tells shows past pairs m.ranges span old
    → Goes tells (Saved text) old new → Means text m' → IsFetched span m m' → Book tells shows past names saved pairs (Some m') new
fetched {text = text} {old = old} b none s g means f = step (Saved text) b g (b.kept.0, fetched_facts b.kept.1 means f) (λ t known fits i.
    keeps_saved means (fetched_tells (fetched_facts b.kept.1 means f) (b.holds t known fits i) none f (s.stored t known fits i)))
