-- An upload that hasn't ended, and the stage of a file of one block.
use Rattle.std.proofs.Common.{◌≡◌, ◌⊎◌, ◌≤◌, ℕ, ◌+◌, ◌++◌, ◌==◌, if◌then◌else◌, not, Bool, true, false, Option, Some, None, List, [], ◌∷◌, length, refl, sym, ap, ◌∙◌, inl, inr, arith, subst}
use Rattle.std.specs.Prelude.{is_some}
use Rattle.std.proofs.lemmas.Bool.{cases_Bool, true≢false}
use Rattle.std.proofs.lemmas.Bool.Decides.{nat_tests}
use Rattle.vfs_outside.specs.Image.{Image}
use Rattle.vfs_outside.specs.Slot.{Told}
use Rattle.item_core.specs.declared.entry.Entry.{Entry}
use Rattle.item_core.specs.declared.entry.FileKind.{FileKind}
use Rattle.item_core.specs.declared.entry.FileKind.TheVariants.{UploadStart, Uploaded, UploadDropped}
use Rattle.item_core.specs.declared.entry.Upload.{Upload}
use Rattle.item_core.specs.Content.{bytes_at, content_of}
use Rattle.item_core.specs.History.{is_dirty, size_of, upload_after, upload_at}
use Rattle.item_image.specs.Premise.{Fits, IsOfImage}
use Rattle.item_upload.specs.Finishing.{IsContent, IsStaged}
use Rattle.sparse_item.specs.Fetching.{AreHere}
use Rattle.sparse_item.specs.Item.{Item}
use Rattle.sparse_item.specs.Moves.{GoesOn}
use Rattle.sparse_item.specs.Reading.{Shows, shown}
use Rattle.sparse_item.specs.Uploading.{HasStart}

pub was_true : (b : Bool) → not b ≡ false → b ≡ true
was_true true h = refl
was_true false h = absurd (true≢false h)

-- ---- an upload that hasn't ended

version_in : Option Upload → ℕ
version_in None = 0
version_in (Some u) = u.version

same_place : (a b : ℕ) → (a == b) ≡ true → a ≡ b
same_place a b h = grind (arith, nat_tests)

none_some : (u : Upload) → None ≡ Some u → ⊥
none_some u e = true≢false (sym (ap is_some e))

begun_here : (k : FileKind) (pass index start : ℕ) (old : Option Upload) (u : Upload) → upload_after k pass index start old ≡ Some u
    → ((index ≡ start) × (k ≡ UploadStart u.version)) ⊎ (old ≡ Some u)
unfolding version_in
begun_here (UploadStart version) pass index start old u h = elim (cases_Bool (index == start)) [
  | inl t ↦
      let e : Some (record { version = version; pass = pass }) ≡ Some u = sym (ap (λ (b : Bool). if b then Some (record { version = version; pass = pass }) else old) t) ∙ h in
      inl (same_place index start t, ap UploadStart (ap version_in e))
  | inr f ↦ inr (sym (ap (λ (b : Bool). if b then Some (record { version = version; pass = pass }) else old) f) ∙ h)
]
begun_here (Uploaded ended print) pass index start old u h = elim (cases_Bool (ended == start)) [
  | inl t ↦ absurd (none_some u (sym (ap (λ (b : Bool). if b then None else old) t) ∙ h))
  | inr f ↦ inr (sym (ap (λ (b : Bool). if b then None else old) f) ∙ h)
]
begun_here (UploadDropped ended why) pass index start old u h = elim (cases_Bool (ended == start)) [
  | inl t ↦ absurd (none_some u (sym (ap (λ (b : Bool). if b then None else old) t) ∙ h))
  | inr f ↦ inr (sym (ap (λ (b : Bool). if b then None else old) f) ∙ h)
]
begun_here _ pass index start old u h = inr h

-- it began in the history
pub open_started : (past : List Entry) (start : ℕ) (u : Upload) → upload_at past start ≡ Some u → HasStart past start u.version
open_started [] start u h = absurd (none_some u h)
open_started (e ∷ older) start u h = elim (begun_here e.kind e.by.pass (length older) start (upload_at older start) u h) [
  | inl is ↦ inl is
  | inr before ↦ inr (open_started older start u before)
]

-- ---- a file of one block

nothing_first : (before bytes : List ℕ) → length before ≡ 0 → before ++ bytes ≡ bytes
nothing_first [] bytes h = refl
nothing_first (b ∷ before) bytes h = absurd (omega (arith, h))

small_content : {tells shows : Type 0} (old new : Item) (bytes : List ℕ) → new.log.past ≡ old.log.past → new.pairs ≡ old.pairs → GoesOn tells old.slot new.slot
    → size_of old.log.past ≤ 131072 → Shows tells shows old 0 131072 bytes → IsContent tells shows new bytes
small_content {tells} {shows} old new bytes past pairs goes small shows_it t known fits first =
    let count : shown old.log.past 0 131072 ≡ size_of old.log.past = omega (arith, small) in
    let fits' : Fits shows known old.log.past old.pairs = subst (λ (xs : List Entry). Fits shows known xs old.pairs) past (subst (λ ps. Fits shows known new.log.past ps) pairs fits) in
    let first' : IsOfImage known old.slot.told.first = subst (λ (i : Image). IsOfImage known i) (ap (λ (x : Told). x.first) (goes.told t).1) first in
    shows_it t known fits' first' ∙ ap (bytes_at known old.log.past 0) count ∙ ap (content_of known) (sym past)

pub small_staged : {tells store shows : Type 0} (old new : Item) (bytes staged before : List ℕ) (len : ℕ) → new.log.past ≡ old.log.past → new.pairs ≡ old.pairs → GoesOn tells old.slot new.slot
    → is_dirty old.log.past ≡ true → size_of old.log.past ≤ 131072 → length bytes ≡ shown old.log.past 0 131072 → Shows tells shows old 0 131072 bytes
    → AreHere new.here 0 (0 + shown old.log.past 0 131072) → len ≡ 0 + length bytes → (store → staged ≡ before ++ bytes) → (store → length before ≡ 0)
    → IsStaged tells store shows new len staged
small_staged {tells} {store} {shows} old new bytes staged before len past pairs goes dirty small count shows_it here is told none = record {
  dirty = ap is_dirty past ∙ dirty;
  whole = λ p lt. here p (omega arith) (omega (arith, lt, small, size));
  len = omega (arith, is, count, small, size);
  content = λ s. subst (λ (xs : List ℕ). IsContent tells shows new xs) (sym (told s ∙ nothing_first before bytes (none s))) (small_content old new bytes past pairs goes small shows_it);
} where
  size : size_of new.log.past ≡ size_of old.log.past
  size = ap size_of past
