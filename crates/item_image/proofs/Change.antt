-- How the calls that change a file keep its book.
use Rattle.std.proofs.Common.{◌≡◌, ◌≤◌, ◌<◌, ℕ, ◌+◌, ◌-◌, ◌==◌, ◌&&◌, nat_le, nat_lt, if◌then◌else◌, min, max, Bool, true, false, Option, Some, None, List, ◌∷◌, length, refl, sym, ap, ◌∙◌, inl, inr, arith, subst}
use Rattle.std.specs.Prelude.{slice_index}
use Rattle.std.proofs.lemmas.Bool.{cases_Bool, cases_lt, true≢false}
use Rattle.std.proofs.lemmas.Bool.Decides.{nat_tests}
use Rattle.byte_ranges.specs.Ranges.{has, is_in}
use Rattle.vfs_names.specs.Payload.{payload_len}
use Rattle.vfs_names.specs.declared.fingerprint.Fingerprint.{Fingerprint}
use Rattle.vfs_names.specs.declared.payload.Payload.{Payload}
use Rattle.vfs_names.specs.declared.who.By.{By}
use Rattle.vfs_outside.specs.Image.{data_in, is_within}
use Rattle.vfs_outside.specs.Slot.{Slot, image}
use Rattle.vfs_outside.specs.declared.file_call.FileCall.TheVariants.{Saved, Wrote}
use Rattle.item_core.specs.declared.entry.Entry.{Entry}
use Rattle.item_core.specs.declared.entry.FileKind.TheVariants.{Write, SetSize, Rename, Uploaded}
use Rattle.item_core.specs.Content.{Known, base_byte, byte_after, byte_at}
use Rattle.item_core.specs.History.{base_end_of, held_by, size_of}
use Rattle.item_meta.specs.InRange as range
use Rattle.item_meta.specs.declared.meta.Intent.{Intent}
use Rattle.item_meta.specs.declared.meta.Meta.{Meta}
use Rattle.item_image.specs.Facts.{HasFacts, MetaFacts, facts_of}
use Rattle.item_image.specs.Premise.{Pairs}
use Rattle.item_image.specs.Stands.{Means, Tells, laid}
use Rattle.item_image.specs.Book.{Book, IsPending, Keeps}
use Rattle.item_image.specs.Calls.{Goes, Tears}
use Rattle.item_image.specs.Entries.{made}
use Rattle.item_image.specs.Next.{IsBytes, IsCut, IsGrown, renamed_meta, settled_meta, uploaded_meta}
use Rattle.item_image.proofs.Premises.{older_fits}
use Rattle.item_image.proofs.Begin.{saved_made}
use Rattle.item_image.proofs.Steps.{step, step_torn}
use Rattle.item_image.proofs.Tells.{beside, both, keeps_absent, keeps_data, keeps_moved, laid_over, neither, or_left}

-- ---- the base object's bytes

pub base_past : (known : Known) (base_end : ℕ) (held : Option Fingerprint) (p : ℕ) → base_end ≤ p → base_byte known base_end held p ≡ 0
base_past known base_end None p h = refl
base_past known base_end (Some print) p h = let e : nat_lt p base_end ≡ false = grind (arith, nat_tests) in rw e refl

base_cut : (known : Known) (base_end n : ℕ) (held : Option Fingerprint) (p : ℕ) → p < n → base_byte known (min n base_end) held p ≡ base_byte known base_end held p
base_cut known base_end n None p h = refl
base_cut known base_end n (Some print) p h = ap (λ (b : Bool). if b then slice_index (known.content print) p else 0) same where
  same : nat_lt p (min n base_end) ≡ nat_lt p base_end
  same = grind (arith, nat_tests)

-- ---- a write, whose bytes are an intent

within_less : (pos n p : ℕ) → is_within pos n p ≡ true → p - pos < n
within_less pos n p h = grind (arith, nat_tests)

nonempty : (payload : Payload) (bytes : List ℕ) → IsBytes payload bytes → 0 < length bytes → (payload_len payload == 0) ≡ false
nonempty payload bytes b h = let e : 0 < payload_len payload = omega (arith, b.len, h) in grind (arith, nat_tests)

byte_in : (known : Known) (payload : Payload) (bytes : List ℕ) (pos p old : ℕ) → IsBytes payload bytes → is_within pos (length bytes) p ≡ true
    → byte_after known (Write pos payload) p old ≡ slice_index bytes (p - pos)
byte_in known payload bytes pos p old b w =
    let e : is_within pos (payload_len payload) p ≡ true = ap (λ n. is_within pos n p) (sym b.len) ∙ w in
    rw e (sym (b.each (p - pos) (within_less pos (length bytes) p w)))

byte_out : (known : Known) (payload : Payload) (bytes : List ℕ) (pos p old : ℕ) → IsBytes payload bytes → is_within pos (length bytes) p ≡ false
    → byte_after known (Write pos payload) p old ≡ old
byte_out known payload bytes pos p old b w =
    let e : is_within pos (payload_len payload) p ≡ false = ap (λ n. is_within pos n p) (sym b.len) ∙ w in
    rw e refl

laid_in : (i : Intent) (stored : ℕ → Option ℕ) (p : ℕ) → is_within i.pos (length i.bytes) p ≡ true → laid (Some i) stored p ≡ Some (slice_index i.bytes (p - i.pos))
laid_in i stored p w = rw w refl

laid_out : (i : Intent) (stored : ℕ → Option ℕ) (p : ℕ) → is_within i.pos (length i.bytes) p ≡ false → laid (Some i) stored p ≡ stored p
laid_out i stored p w = rw w refl

-- an intent in range has bytes
intent_some : (m : Meta) (i : Intent) → range.IsMeta m → m.intent ≡ Some i → 0 < length i.bytes
intent_some m i fits is = (subst (λ (x : Option Intent). range.IsPending m.size m.ranges m.dirty x) is fits.intent).some

write_facts : {m m' : Meta} {text : List ℕ} {pos : ℕ} {bytes : List ℕ} (by : By) (at saved : ℕ) (payload : Payload) (past : List Entry) (names : List (List ℕ))
    → HasFacts (facts_of saved past names) m → Means text m' → IsGrown pos bytes by.now m m' → IsBytes payload bytes
    → HasFacts (facts_of saved (made by at (Write pos payload) ∷ past) names) m'
write_facts {m} {m'} {text} {pos} {bytes} by at saved payload past names h means g b = record {
  path = h.path ∙ ap (λ (x : Meta). Some x.path) (sym g.same);
  size = ap (λ (x : Meta). x.size) g.same ∙ ap (λ n. max n (pos + length bytes)) h.size ∙ ap (λ n. max (size_of past) (pos + n)) b.len ∙ (rw some refl);
  base_end = ap (λ (x : Meta). x.base_end) g.same ∙ h.base_end;
  base = ap (λ (x : Meta). x.base) g.same ∙ h.base;
  dirty = ap (λ (x : Meta). x.dirty) g.same ∙ (rw some refl);
  mtime = ap (λ (x : Meta). x.mtime) g.same ∙ (rw some refl);
  fits = means.in_range;
} where
  some : (payload_len payload == 0) ≡ false
  some = nonempty payload bytes b (intent_some m' (record { pos = pos; bytes = bytes }) means.in_range (ap (λ (x : Meta). x.intent) g.same))

write_tells : (known : Known) {text : Option (List ℕ)} {m m' : Meta} {pos : ℕ} {bytes : List ℕ} (by : By) (at saved : ℕ) (payload : Payload) (past : List Entry) (names : List (List ℕ)) (stored : ℕ → Option ℕ)
    → HasFacts (facts_of saved (made by at (Write pos payload) ∷ past) names) m' → Keeps known text stored (facts_of saved past names) (λ p. byte_at known past p) m
    → m.intent ≡ None → IsGrown pos bytes by.now m m' → IsBytes payload bytes
    → Tells known (facts_of saved (made by at (Write pos payload) ∷ past) names) (λ p. byte_at known (made by at (Write pos payload) ∷ past) p) m' stored
write_tells known {text} {m} {m'} {pos} {bytes} by at saved payload past names stored has_facts k none g b = record { same = has_facts; present = present; absent = absent } where
  intent : Intent
  intent = record { pos = pos; bytes = bytes }

  present : (p : ℕ) → has m'.ranges p ≡ true → laid m'.intent stored p ≡ Some (byte_after known (Write pos payload) p (byte_at known past p))
  present p h = ap (λ (x : Meta). laid x.intent stored p) g.same ∙ (elim (cases_Bool (is_within pos (length bytes) p)) [
    | inl w ↦ laid_in (record { pos = pos; bytes = bytes }) stored p w ∙ ap Some (sym (byte_in known payload bytes pos p (byte_at known past p) b w))
    | inr w ↦ laid_out (record { pos = pos; bytes = bytes }) stored p w
        ∙ keeps_data k none p (or_left (has m.ranges p) (is_in (record { start = pos; end = pos + length bytes }) p) (sym (g.ranges p) ∙ h) w)
        ∙ ap Some (sym (byte_out known payload bytes pos p (byte_at known past p) b w))
  ])

  absent : (p : ℕ) → has m'.ranges p ≡ false → byte_after known (Write pos payload) p (byte_at known past p) ≡ base_byte known (base_end_of past) (held_by past) p
  absent p h =
      let e = neither (has m.ranges p) (is_in (record { start = pos; end = pos + length bytes }) p) (sym (g.ranges p) ∙ h) in
      byte_out known payload bytes pos p (byte_at known past p) b e.1 ∙ k.saved.tells.absent p (keeps_absent k p e.0)

pub wrote : {tells shows : Type 0} {past : List Entry} {names : List (List ℕ)} {saved : ℕ} {pairs : Pairs} {m m' : Meta} {text : List ℕ} {pos : ℕ} {bytes : List ℕ} {old new : Slot} (by : By) (at : ℕ) (payload : Payload)
    → Book tells shows past names saved pairs (Some m) old → m.intent ≡ None → Goes tells (Saved text) old new → Means text m'
    → IsGrown pos bytes by.now m m' → IsBytes payload bytes → at ≡ new.calls
    → Book tells shows (made by at (Write pos payload) ∷ past) names saved pairs (Some m') new
wrote {past = past} {names = names} {saved = saved} {m = m} {m' = m'} {pos = pos} {old = old} by at payload b none g means grown bytes_are at_is =
    saved_made (made by at (Write pos payload)) b g means at_is refl (λ known f. older_fits f) b.kept.0 facts
    (λ t known f i. write_tells known by at saved payload past names (λ p. data_in (image old.told) p) facts (b.holds t known (older_fits f) i) none grown bytes_are) where
      facts : HasFacts (facts_of saved (made by at (Write pos payload) ∷ past) names) m'
      facts = write_facts by at saved payload past names b.kept.1 means grown bytes_are

-- ---- an intent's data

-- an intent that is laid over its own bytes
laid_twice : (i j : Intent) (stored : ℕ → Option ℕ) (p : ℕ) → laid (Some i) (λ q. laid (Some i) stored q) p ≡ laid (Some i) stored p
laid_twice i j stored p = laid_over i stored (λ q. laid (Some i) stored q) p (λ w. laid_out i stored p w)

settled_facts : {facts : MetaFacts} {m : Meta} → HasFacts facts m → HasFacts facts (settled_meta m)
settled_facts h = record {
  path = h.path;
  size = h.size;
  base_end = h.base_end;
  base = h.base;
  dirty = h.dirty;
  mtime = h.mtime;
  fits = record { path = h.fits.path; size = h.fits.size; base = h.fits.base; base_end = h.fits.base_end; ranges = h.fits.ranges; dirty = h.fits.dirty; intent = tt };
}

saved_intent : {known : Known} {text : Option (List ℕ)} {facts : MetaFacts} {bytes : ℕ → ℕ} {m : Meta} {stored : ℕ → Option ℕ} {i : Intent} (k : Keeps known text stored facts bytes m)
    → m.intent ≡ Some i → k.saved.meta.intent ≡ Some i
saved_intent k is = subst (λ (x : Option Intent). IsPending x k.saved.meta.intent) is k.pending

keeps_settled : {known : Known} {text : Option (List ℕ)} {facts : MetaFacts} {bytes : ℕ → ℕ} {m : Meta} {stored : ℕ → Option ℕ} {i : Intent}
    → Keeps known text stored facts bytes m → m.intent ≡ Some i → Keeps known text (λ p. laid (Some i) stored p) facts bytes (settled_meta m)
keeps_settled {m = m} {stored = stored} {i = i} k is = keeps_moved k refl tt
    (λ p h. ap (λ (x : Option Intent). laid x stored p) (sym is) ∙ k.present p h)
    (λ p h. ap (λ (x : Option Intent). laid x (λ q. laid (Some i) stored q) p) (saved_intent k is) ∙ laid_twice i i stored p
    ∙ ap (λ (x : Option Intent). laid x stored p) (sym (saved_intent k is)))

-- the bytes of a pending intent are written
pub settled : {tells shows : Type 0} {past : List Entry} {names : List (List ℕ)} {saved : ℕ} {pairs : Pairs} {m m' : Meta} {i : Intent} {old new : Slot}
    → Book tells shows past names saved pairs (Some m) old → m.intent ≡ Some i → Goes tells (Wrote i.pos i.bytes) old new → m' ≡ settled_meta m
    → Book tells shows past names saved pairs (Some m') new
settled {tells} {shows} {past} {names} {saved} {pairs} {m} {m'} {i} {old} {new} b is g done =
    subst (λ (x : Meta). Book tells shows past names saved pairs (Some x) new) (sym done)
    (step (Wrote i.pos i.bytes) b g (b.kept.0, settled_facts b.kept.1) (λ t known f im. keeps_settled (b.holds t known f im) is))

keeps_torn : {known : Known} {text : Option (List ℕ)} {facts : MetaFacts} {bytes : ℕ → ℕ} {m : Meta} {stored stored' : ℕ → Option ℕ} {i : Intent} → Keeps known text stored facts bytes m
    → m.intent ≡ Some i → ((p : ℕ) → is_within i.pos (length i.bytes) p ≡ false → stored' p ≡ stored p) → Keeps known text stored' facts bytes m
keeps_torn {m = m} {stored = stored} {stored' = stored'} {i = i} k is same = keeps_moved k refl k.pending
    (λ p h. over m.intent p is ∙ k.present p h) (λ p h. over k.saved.meta.intent p (saved_intent k is)) where
      over : (x : Option Intent) (p : ℕ) → x ≡ Some i → laid x stored' p ≡ laid x stored p
      over x p e = ap (λ (y : Option Intent). laid y stored' p) e ∙ laid_over i stored stored' p (same p) ∙ ap (λ (y : Option Intent). laid y stored p) (sym e)

torn_beside : (pos : ℕ) (left bytes : List ℕ) (stored : ℕ → Option ℕ) (p : ℕ) → length left ≡ length bytes → is_within pos (length bytes) p ≡ false
    → (if is_within pos (length left) p then Some (slice_index left (p - pos)) else stored p) ≡ stored p
torn_beside pos left bytes stored p e w = beside pos (length left) (λ q. Some (slice_index left (q - pos))) stored p (ap (λ n. is_within pos n p) e ∙ w)

-- the bytes of a pending intent weren't written whole: it is pending still
pub torn : {tells shows : Type 0} {past : List Entry} {names : List (List ℕ)} {saved : ℕ} {pairs : Pairs} {m : Meta} {i : Intent} {old new : Slot}
    → Book tells shows past names saved pairs (Some m) old → m.intent ≡ Some i → Tears tells i.pos i.bytes old new
    → Book tells shows past names saved pairs (Some m) new
torn {i = i} {old = old} b is g = step_torn b g b.kept (λ t known f im left len.
    keeps_torn (b.holds t known f im) is (λ p w. torn_beside i.pos left i.bytes (λ q. data_in (image old.told) q) p len w))

-- ---- another size

cut_facts : {m m' : Meta} {text : List ℕ} {n : ℕ} (by : By) (at saved : ℕ) (past : List Entry) (names : List (List ℕ))
    → HasFacts (facts_of saved past names) m → Means text m' → IsCut n by.now m m' → HasFacts (facts_of saved (made by at (SetSize n) ∷ past) names) m'
cut_facts {n = n} by at saved past names h means g = record {
  path = h.path ∙ ap (λ (x : Meta). Some x.path) (sym g.same);
  size = ap (λ (x : Meta). x.size) g.same;
  base_end = ap (λ (x : Meta). x.base_end) g.same ∙ ap (λ e. min n e) h.base_end;
  base = ap (λ (x : Meta). x.base) g.same ∙ h.base;
  dirty = ap (λ (x : Meta). x.dirty) g.same;
  mtime = ap (λ (x : Meta). x.mtime) g.same;
  fits = means.in_range;
}

below : (n p : ℕ) → nat_lt p n ≡ true → nat_le n p ≡ false
below n p h = grind (arith, nat_tests)

from_on : (n p : ℕ) → n ≤ p → nat_le n p ≡ true
from_on n p h = grind (arith, nat_tests)

is_below : (n p : ℕ) → p < n → nat_lt p n ≡ true
is_below n p h = grind (arith, nat_tests)

below_n : (n p : ℕ) → nat_lt p n ≡ true → p < n
below_n n p h = grind (arith, nat_tests)

but_true : (a b : Bool) → (a && b) ≡ false → b ≡ true → a ≡ false
but_true true b h e = absurd (true≢false (sym e ∙ h))
but_true false b h e = refl

cut_tells : (known : Known) {text : Option (List ℕ)} {m m' : Meta} {n : ℕ} (by : By) (at saved : ℕ) (past : List Entry) (names : List (List ℕ)) (stored : ℕ → Option ℕ)
    → HasFacts (facts_of saved (made by at (SetSize n) ∷ past) names) m' → Keeps known text stored (facts_of saved past names) (λ p. byte_at known past p) m
    → m.intent ≡ None → IsCut n by.now m m'
    → Tells known (facts_of saved (made by at (SetSize n) ∷ past) names) (λ p. byte_at known (made by at (SetSize n) ∷ past) p) m' stored
cut_tells known {text} {m} {m'} {n} by at saved past names stored has_facts k none g = record { same = has_facts; present = present; absent = absent } where
  present : (p : ℕ) → has m'.ranges p ≡ true → laid m'.intent stored p ≡ Some (if nat_le n p then 0 else byte_at known past p)
  present p h =
      let e = both (has m.ranges p) (nat_lt p n) (sym (g.ranges p) ∙ h) in
      let low : nat_le n p ≡ false = below n p e.1 in
      ap (λ (x : Meta). laid x.intent stored p) g.same ∙ keeps_data k none p e.0 ∙ (rw low refl)

  absent : (p : ℕ) → has m'.ranges p ≡ false → (if nat_le n p then 0 else byte_at known past p) ≡ base_byte known (min n (base_end_of past)) (held_by past) p
  absent p h = elim (cases_lt p n) [
    | inl lt ↦
        let low : nat_le n p ≡ false = below n p (is_below n p lt) in
        let out : has m.ranges p ≡ false = but_true (has m.ranges p) (nat_lt p n) (sym (g.ranges p) ∙ h) (is_below n p lt) in
        rw low (k.saved.tells.absent p (keeps_absent k p out) ∙ sym (base_cut known (base_end_of past) n (held_by past) p lt))
    | inr le ↦
        let high : nat_le n p ≡ true = from_on n p le in
        rw high (sym (base_past known (min n (base_end_of past)) (held_by past) p (omega (arith, le))))
  ]

pub sized : {tells shows : Type 0} {past : List Entry} {names : List (List ℕ)} {saved : ℕ} {pairs : Pairs} {m m' : Meta} {text : List ℕ} {n : ℕ} {old new : Slot} (by : By) (at : ℕ)
    → Book tells shows past names saved pairs (Some m) old → m.intent ≡ None → Goes tells (Saved text) old new → Means text m' → IsCut n by.now m m' → at ≡ new.calls
    → Book tells shows (made by at (SetSize n) ∷ past) names saved pairs (Some m') new
sized {past = past} {names = names} {saved = saved} {m = m} {m' = m'} {n = n} {old = old} by at b none g means cut at_is =
    saved_made (made by at (SetSize n)) b g means at_is refl (λ known f. older_fits f) b.kept.0 facts
    (λ t known f i. cut_tells known by at saved past names (λ p. data_in (image old.told) p) facts (b.holds t known (older_fits f) i) none cut) where
      facts : HasFacts (facts_of saved (made by at (SetSize n) ∷ past) names) m'
      facts = cut_facts by at saved past names b.kept.1 means cut

-- ---- another path

pub renamed : {tells shows : Type 0} {past : List Entry} {names : List (List ℕ)} {saved : ℕ} {pairs : Pairs} {m m' : Meta} {text path : List ℕ} {old new : Slot} (by : By) (at : ℕ)
    → Book tells shows past names saved pairs (Some m) old → m.intent ≡ None → Goes tells (Saved text) old new → Means text m' → m' ≡ renamed_meta path m → at ≡ new.calls
    → Book tells shows (made by at (Rename path) ∷ past) names saved pairs (Some m') new
renamed {tells} {shows} {past} {names} {saved} {pairs} {m} {m'} {text} {path} {old} {new} by at b none g means is at_is =
    subst (λ (x : Meta). Book tells shows (made by at (Rename path) ∷ past) names saved pairs (Some x) new) (sym is)
    (saved_made (made by at (Rename path)) b g means' at_is refl (λ known f. older_fits f) b.kept.0 facts
    (λ t known f i. let k = b.holds t known (older_fits f) i in record {
      same = facts;
      present = λ p h. keeps_data k none p h;
      absent = λ p h. k.saved.tells.absent p (keeps_absent k p h);
    })) where
      means' : Means text (renamed_meta path m)
      means' = subst (λ (x : Meta). Means text x) is means

      facts : HasFacts (facts_of saved (made by at (Rename path) ∷ past) names) (renamed_meta path m)
      facts = let h = b.kept.1 in record { path = refl; size = h.size; base_end = h.base_end; base = h.base; dirty = h.dirty; mtime = h.mtime; fits = means'.in_range }

-- ---- an upload

past_size : (b : Bool) (p n : ℕ) → (p < n → b ≡ true) → b ≡ false → n ≤ p
past_size b p n whole h = elim (cases_lt p n) [ inl lt ↦ absurd (true≢false (sym (whole lt) ∙ h)) | inr le ↦ le ]

pub uploaded : {tells shows : Type 0} {past : List Entry} {names : List (List ℕ)} {saved : ℕ} {pairs : Pairs} {m m' : Meta} {text : List ℕ} {print : Fingerprint} {old new : Slot} (by : By) (at start : ℕ)
    → Book tells shows past names saved pairs (Some m) old → m.intent ≡ None → ((p : ℕ) → p < m.size → has m.ranges p ≡ true)
    → Goes tells (Saved text) old new → Means text m' → m' ≡ uploaded_meta print m → at ≡ new.calls
    → Book tells shows (made by at (Uploaded start print) ∷ past) names saved pairs (Some m') new
uploaded {tells} {shows} {past} {names} {saved} {pairs} {m} {m'} {text} {print} {old} {new} by at start b none whole g means is at_is =
    subst (λ (x : Meta). Book tells shows (made by at (Uploaded start print) ∷ past) names saved pairs (Some x) new) (sym is)
    (saved_made (made by at (Uploaded start print)) b g means' at_is refl (λ known f. older_fits f) b.kept.0 facts
    (λ t known f i. let k = b.holds t known (older_fits f) i in record {
      same = facts;
      present = λ p h. keeps_data k none p h;
      absent = λ p h. let le : m.size ≤ p = past_size (has m.ranges p) p m.size (whole p) h in
          k.saved.tells.absent p (keeps_absent k p h)
          ∙ base_past known (base_end_of past) (held_by past) p (omega (arith, le, b.kept.1.base_end, b.kept.1.fits.base_end.0))
          ∙ sym (base_past known (size_of past) (Some print) p (omega (arith, le, b.kept.1.size)));
    })) where
      means' : Means text (uploaded_meta print m)
      means' = subst (λ (x : Meta). Means text x) is means

      facts : HasFacts (facts_of saved (made by at (Uploaded start print) ∷ past) names) (uploaded_meta print m)
      facts = let h = b.kept.1 in record { path = h.path; size = h.size; base_end = h.size; base = refl; dirty = refl; mtime = h.mtime; fits = means'.in_range }
