-- How a book goes on: by a call, by an entry, or by both.
use Rattle.std.proofs.Common.{◌≡◌, ◌≤◌, ℕ, suc, Option, Some, None, List, ◌∷◌, length, sym, ap, ◌∙◌, arith, subst}
use Rattle.std.proofs.lemmas.Bool.{true≢false}
use Rattle.vfs_outside.specs.Image.{Image}
use Rattle.vfs_outside.specs.Slot.{Slot, Told, image, image_after}
use Rattle.vfs_outside.specs.declared.file_call.FileCall.{FileCall}
use Rattle.vfs_outside.specs.declared.file_call.FileCall.TheVariants.{Wrote}
use Rattle.item_core.specs.declared.entry.Entry.{Entry}
use Rattle.item_core.specs.Content.{Known}
use Rattle.item_core.specs.History.{is_kept, place}
use Rattle.item_core.specs.Names.{names_at, names_before}
use Rattle.item_meta.specs.declared.meta.Meta.{Meta}
use Rattle.item_image.specs.Facts.{facts_of}
use Rattle.item_image.specs.Premise.{Fits, IsOfImage, Pairs}
use Rattle.item_image.specs.Stands.{EachStands, StandsFor}
use Rattle.item_image.specs.Book.{Book, HasMeta, HoldsFor}
use Rattle.item_image.specs.Calls.{Goes, Stays, Tears}
use Rattle.item_image.proofs.Images.{each_at, each_call, each_now, each_step, newest_stands}

-- the image of a book stands for its history
pub stands_now : {tells shows : Type 0} {past : List Entry} {names : List (List ℕ)} {saved : ℕ} {pairs : Pairs} {meta : Option Meta} {slot : Slot}
    → Book tells shows past names saved pairs meta slot → tells → (known : Known) → Fits shows known past pairs → IsOfImage known slot.told.first
    → StandsFor known saved (image slot.told) past names
stands_now {past = past} {names = names} {saved = saved} {slot = slot} b t known f i =
    newest_stands known saved slot.told.first slot.told.since past names (omega (arith, b.late, b.counted t)) (b.images t known f i)

-- the image after any number of calls stands for the part of the history that was made by then
pub images : {tells shows : Type 0} {past : List Entry} {names : List (List ℕ)} {saved : ℕ} {pairs : Pairs} {meta : Option Meta} {slot : Slot}
    → Book tells shows past names saved pairs meta slot → tells → (known : Known) → Fits shows known past pairs → IsOfImage known slot.told.first
    → (k : ℕ) → k ≤ slot.calls → StandsFor known saved (image_after slot.told k) (place past k) (names_at past k names)
images {past = past} {names = names} {saved = saved} {slot = slot} b t known f i k h =
    each_at known saved slot.told.first slot.told.since past names k (omega (arith, b.counted t, h)) (b.images t known f i)

-- an image that keeps the file stands for its history
pub stands_of : (known : Known) (saved : ℕ) (image : Image) (past : List Entry) (names : List (List ℕ)) (meta : Option Meta)
    → HasMeta (is_kept past) (facts_of saved past names) meta → HoldsFor known saved image past names meta → StandsFor known saved image past names
stands_of known saved image past names None has h = record { here = λ e. absurd (true≢false (sym e ∙ has)); gone = λ e. h }
stands_of known saved image past names (Some m) has h = record { here = λ e. h.saved; gone = λ e. absurd (true≢false (sym has.0 ∙ e)) }

-- a call without an entry
pub step : {tells shows : Type 0} {past : List Entry} {names : List (List ℕ)} {saved : ℕ} {pairs : Pairs} {meta meta' : Option Meta} {old new : Slot} (c : FileCall)
    → Book tells shows past names saved pairs meta old → Goes tells c old new → HasMeta (is_kept past) (facts_of saved past names) meta'
    → (tells → (known : Known) → Fits shows known past pairs → IsOfImage known old.told.first → HoldsFor known saved (c ∷ image old.told) past names meta')
    → Book tells shows past names saved pairs meta' new
step {tells} {shows} {past} {names} {saved} {pairs} {meta} {meta'} {old} {new} c b g has holds = record {
  late = omega (arith, b.late, g.calls);
  kept = has;
  counted = λ t. ap (λ (x : Told). length x.since) (g.told t) ∙ (let e : suc (length old.told.since) ≡ new.calls = omega (arith, b.counted t, g.calls) in e);
  images = λ t known f. subst (λ (x : Told). IsOfImage known x.first → EachStands known saved x.first x.since past names) (sym (g.told t))
      (λ i. each_call known saved old.told.first old.told.since c past names (omega (arith, b.late, b.counted t))
      (stands_of known saved (c ∷ image old.told) past names meta' has (holds t known f i)) (b.images t known f i));
  holds = λ t known f. subst (λ (x : Told). IsOfImage known x.first → HoldsFor known saved (image x) past names meta') (sym (g.told t)) (holds t known f);
}

-- a write that left any bytes, without an entry
pub step_torn : {tells shows : Type 0} {past : List Entry} {names : List (List ℕ)} {saved : ℕ} {pairs : Pairs} {meta meta' : Option Meta} {old new : Slot} {pos : ℕ} {bytes : List ℕ}
    → Book tells shows past names saved pairs meta old → Tears tells pos bytes old new → HasMeta (is_kept past) (facts_of saved past names) meta'
    → (tells → (known : Known) → Fits shows known past pairs → IsOfImage known old.told.first → (left : List ℕ) → length left ≡ length bytes
    → HoldsFor known saved (Wrote pos left ∷ image old.told) past names meta')
    → Book tells shows past names saved pairs meta' new
step_torn {tells} {shows} {past} {names} {saved} {pairs} {meta} {meta'} {old} {new} {pos} {bytes} b g has holds = record {
  late = omega (arith, b.late, g.calls);
  kept = has;
  counted = λ t. ap (λ (x : Told). length x.since) (g.told t).2 ∙ (let e : suc (length old.told.since) ≡ new.calls = omega (arith, b.counted t, g.calls) in e);
  images = λ t known f. subst (λ (x : Told). IsOfImage known x.first → EachStands known saved x.first x.since past names) (sym (g.told t).2)
      (λ i. each_call known saved old.told.first old.told.since (Wrote pos (g.told t).0) past names (omega (arith, b.late, b.counted t))
      (stands_of known saved (Wrote pos (g.told t).0 ∷ image old.told) past names meta' has (holds t known f i (g.told t).0 (g.told t).1)) (b.images t known f i));
  holds = λ t known f. subst (λ (x : Told). IsOfImage known x.first → HoldsFor known saved (image x) past names meta') (sym (g.told t).2)
      (λ i. holds t known f i (g.told t).0 (g.told t).1);
}

-- a call, and an entry at it
pub step_made : {tells shows : Type 0} {past : List Entry} {names names' : List (List ℕ)} {saved : ℕ} {pairs pairs' : Pairs} {meta meta' : Option Meta} {old new : Slot} (c : FileCall) (e : Entry)
    → Book tells shows past names saved pairs meta old → Goes tells c old new → e.at ≡ new.calls → names_before e.kind names' ≡ names
    → ((known : Known) → Fits shows known (e ∷ past) pairs' → Fits shows known past pairs)
    → HasMeta (is_kept (e ∷ past)) (facts_of saved (e ∷ past) names') meta'
    → (tells → (known : Known) → Fits shows known (e ∷ past) pairs' → IsOfImage known old.told.first → HoldsFor known saved (c ∷ image old.told) (e ∷ past) names' meta')
    → Book tells shows (e ∷ past) names' saved pairs' meta' new
step_made {tells} {shows} {past} {names} {names'} {saved} {pairs} {pairs'} {meta} {meta'} {old} {new} c e b g at n less has holds = record {
  late = omega (arith, at);
  kept = has;
  counted = λ t. ap (λ (x : Told). length x.since) (g.told t) ∙ (let e : suc (length old.told.since) ≡ new.calls = omega (arith, b.counted t, g.calls) in e);
  images = λ t known f. subst (λ (x : Told). IsOfImage known x.first → EachStands known saved x.first x.since (e ∷ past) names') (sym (g.told t))
      (λ i. each_step known saved old.told.first old.told.since c e past names names' (omega (arith, b.counted t, g.calls, at)) n
      (stands_of known saved (c ∷ image old.told) (e ∷ past) names' meta' has (holds t known f i)) (b.images t known (less known f) i));
  holds = λ t known f. subst (λ (x : Told). IsOfImage known x.first → HoldsFor known saved (image x) (e ∷ past) names' meta') (sym (g.told t)) (holds t known f);
}

-- an entry at the present number of calls
pub made_now : {tells shows : Type 0} {past : List Entry} {names names' : List (List ℕ)} {saved : ℕ} {pairs pairs' : Pairs} {meta meta' : Option Meta} {slot : Slot} (e : Entry)
    → Book tells shows past names saved pairs meta slot → e.at ≡ slot.calls → names_before e.kind names' ≡ names
    → ((known : Known) → Fits shows known (e ∷ past) pairs' → Fits shows known past pairs)
    → HasMeta (is_kept (e ∷ past)) (facts_of saved (e ∷ past) names') meta'
    → (tells → (known : Known) → Fits shows known (e ∷ past) pairs' → IsOfImage known slot.told.first → HoldsFor known saved (image slot.told) (e ∷ past) names' meta')
    → Book tells shows (e ∷ past) names' saved pairs' meta' slot
made_now {tells} {shows} {past} {names} {names'} {saved} {pairs} {pairs'} {meta} {meta'} {slot} e b at n less has holds = record {
  late = omega (arith, at);
  kept = has;
  counted = b.counted;
  images = λ t known f i. each_now known saved slot.told.first slot.told.since e past names names' (at ∙ sym (b.counted t)) n
      (stands_of known saved (image slot.told) (e ∷ past) names' meta' has (holds t known f i)) (b.images t known (less known f) i);
  holds = holds;
}

-- no call, no entry, and other metadata in memory or more objects
pub kept_now : {tells shows : Type 0} {past : List Entry} {names : List (List ℕ)} {saved : ℕ} {pairs pairs' : Pairs} {meta meta' : Option Meta} {old new : Slot}
    → Book tells shows past names saved pairs meta old → Stays tells old new → HasMeta (is_kept past) (facts_of saved past names) meta'
    → ((known : Known) → Fits shows known past pairs' → Fits shows known past pairs)
    → (tells → (known : Known) → Fits shows known past pairs' → IsOfImage known old.told.first → HoldsFor known saved (image old.told) past names meta')
    → Book tells shows past names saved pairs' meta' new
kept_now {tells} {shows} {past} {names} {saved} {pairs} {pairs'} {meta} {meta'} {old} {new} b s has less holds = record {
  late = omega (arith, b.late, s.calls);
  kept = has;
  counted = λ t. ap (λ (x : Told). length x.since) (s.told t) ∙ b.counted t ∙ sym s.calls;
  images = λ t known f. subst (λ (x : Told). IsOfImage known x.first → EachStands known saved x.first x.since past names) (sym (s.told t)) (b.images t known (less known f));
  holds = λ t known f. subst (λ (x : Told). IsOfImage known x.first → HoldsFor known saved (image x) past names meta') (sym (s.told t)) (holds t known f);
}
