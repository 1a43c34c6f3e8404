-- How a stage gets a file's content, block after block.
use Rattle.std.proofs.Common.{◌≡◌, ℕ, zero, suc, ◌+◌, ◌++◌, true, List, [], ◌∷◌, length, refl, sym, ap, ◌∙◌, inl, inr, arith, subst}
use Rattle.std.proofs.lemmas.Bool.{cases_lt}
use Rattle.byte_ranges.specs.Ranges.{has}
use Rattle.vfs_outside.specs.Image.{Image}
use Rattle.vfs_outside.specs.Slot.{Told}
use Rattle.item_core.specs.declared.entry.Entry.{Entry}
use Rattle.item_core.specs.Content.{Known, byte_at, bytes_at}
use Rattle.item_core.specs.History.{is_dirty, size_of, version_of}
use Rattle.item_image.specs.Premise.{Fits, IsOfImage, Pairs}
use Rattle.item_upload.specs.Finishing.{IsStaged}
use Rattle.item_upload.specs.Whole.{IsCurrent, IsStagedTo}
use Rattle.sparse_item.specs.Fetching.{AreHere}
use Rattle.sparse_item.specs.Item.{Item}
use Rattle.sparse_item.specs.Moves.{GoesOn}
use Rattle.sparse_item.specs.Reading.{Shows, shown}
use Rattle.sparse_item.specs.Uploading.{IsOf, Uploading, block_len}

-- the bytes from a place on, and those that come after them
pub bytes_join : (known : Known) (past : List Entry) (pos m n : ℕ) → bytes_at known past pos m ++ bytes_at known past (pos + m) n ≡ bytes_at known past pos (m + n)
bytes_join known past pos zero n =
    ap (λ (k : ℕ). bytes_at known past k n) (let e : pos + 0 ≡ pos = omega arith in e) ∙ ap (bytes_at known past pos) (let e : n ≡ 0 + n = omega arith in e)
bytes_join known past pos (suc m) n =
    ap (λ (bs : List ℕ). byte_at known past pos ∷ bs)
    (ap (λ (k : ℕ). bytes_at known past (suc pos) m ++ bytes_at known past k n) (let e : pos + suc m ≡ suc pos + m = omega arith in e) ∙ bytes_join known past (suc pos) m n)
    ∙ ap (bytes_at known past pos) (let e : suc (m + n) ≡ suc m + n = omega arith in e)

-- the bytes below a place, and those of the next block
front_on : (known : Known) (past : List Entry) (pos len n : ℕ) → len ≡ n → bytes_at known past 0 pos ++ bytes_at known past pos n ≡ bytes_at known past 0 (pos + len)
front_on known past pos len n is =
    ap (λ (k : ℕ). bytes_at known past 0 pos ++ bytes_at known past k n) (let e : pos ≡ 0 + pos = omega arith in e)
    ∙ bytes_join known past 0 pos n ∙ ap (λ (k : ℕ). bytes_at known past 0 (pos + k)) (sym is)

-- what was known of a file whose history, objects and first image are the same
pub fits_before : {shows : Type 0} (known : Known) (past past' : List Entry) (pairs pairs' : Pairs) → past' ≡ past → pairs' ≡ pairs → Fits shows known past' pairs' → Fits shows known past pairs
fits_before {shows} known past past' pairs pairs' same given fits =
    subst (λ (xs : List Entry). Fits shows known xs pairs) same (subst (λ (ps : Pairs). Fits shows known past' ps) given fits)

pub image_before : {tells : Type 0} (known : Known) (old new : Item) → GoesOn tells old.slot new.slot → tells → IsOfImage known new.slot.told.first → IsOfImage known old.slot.told.first
image_before known old new goes t first = subst (λ (i : Image). IsOfImage known i) (ap (λ (x : Told). x.first) (goes.told t).1) first

-- an empty stage has the bytes below 0
pub staged_none : {tells store shows : Type 0} (item : Item) (count : ℕ) (bytes : List ℕ) → count ≡ 0 → (store → count ≡ length bytes) → IsStagedTo tells store shows item 0 count bytes
staged_none {tells} {store} {shows} item count bytes none size = record {
  whole = λ p lt. absurd (omega (arith, lt));
  len = none;
  content = λ s t known fits first. empty bytes (sym (size s) ∙ none);
} where
  empty : (xs : List ℕ) → length xs ≡ 0 → xs ≡ []
  empty [] h = refl
  empty (x ∷ xs) h = absurd (omega (arith, h))

-- a stage that has the bytes below a place has those of the next block as well, once they were put at its end
pub staged_on : {tells store shows : Type 0} (old new : Item) (pos len count count' : ℕ) (before bytes staged : List ℕ)
    → new.log.past ≡ old.log.past → new.pairs ≡ old.pairs → GoesOn tells old.slot new.slot → IsStagedTo tells store shows old pos count before
    → ((p : ℕ) → has old.here p ≡ true → has new.here p ≡ true) → AreHere new.here pos (pos + shown old.log.past pos block_len)
    → length bytes ≡ shown old.log.past pos block_len → Shows tells shows old pos block_len bytes
    → len ≡ length bytes → count' ≡ count + length bytes → (store → staged ≡ before ++ bytes)
    → IsStagedTo tells store shows new (pos + len) count' staged
staged_on {tells} {store} {shows} old new pos len count count' before bytes staged same given goes front grows here size gives is longer told = record {
  whole = λ p lt. elim (cases_lt p pos) [
    | inl below ↦ grows p (front.whole p below)
    | inr up ↦ here p up (omega (arith, lt, is, size))
  ];
  len = omega (arith, longer, front.len, is);
  content = λ s t known fits first.
      let fits' = fits_before known old.log.past new.log.past old.pairs new.pairs same given fits in
      let first' = image_before known old new goes t first in
      told s ∙ ap (λ (xs : List ℕ). xs ++ bytes) (front.content s t known fits' first') ∙ ap (λ (xs : List ℕ). bytes_at known old.log.past 0 pos ++ xs) (gives t known fits' first')
      ∙ front_on known old.log.past pos len (shown old.log.past pos block_len) (is ∙ size) ∙ ap (λ (xs : List Entry). bytes_at known xs 0 (pos + len)) (sym same);
}

-- a stage that has the bytes below the size has all of them
pub staged_all : {tells store shows : Type 0} (item : Item) (pos count : ℕ) (bytes : List ℕ) → is_dirty item.log.past ≡ true → pos ≡ size_of item.log.past
    → IsStagedTo tells store shows item pos count bytes → IsStaged tells store shows item count bytes
staged_all {tells} {store} {shows} item pos count bytes dirty end front = record {
  dirty = dirty;
  whole = λ p lt. front.whole p (omega (arith, lt, end));
  len = front.len ∙ end;
  content = λ s t known fits first. front.content s t known fits first ∙ ap (bytes_at known item.log.past 0) end;
}

-- an upload stays current while the history does
pub current_on : (old new : Item) (u v : Uploading) → new.log.past ≡ old.log.past → v ≡ u → IsCurrent old u → IsCurrent new v
current_on old new u v same is h = record {
  begun = subst (λ (x : Uploading). IsOf new.log.past x) (sym is) (subst (λ (xs : List Entry). IsOf xs u) (sym same) h.begun);
  present = ap (λ (x : Uploading). x.version) is ∙ h.present ∙ ap version_of (sym same);
  dirty = ap is_dirty same ∙ h.dirty;
  size = ap (λ (x : Uploading). x.size) is ∙ h.size ∙ ap size_of (sym same);
}
