-- What a read's buffer comes to.
use Rattle.std.proofs.Common.{◌≡◌, ◌≤◌, ◌<◌, ℕ, zero, suc, ◌+◌, ◌-◌, ◌++◌, ◌&&◌, nat_le, nat_lt, min, true, false, Some, None, List, [], ◌∷◌, length, take, drop, refl, sym, ap, ◌∙◌, inl, inr, arith, subst, length-take, length-drop}
use Rattle.std.specs.Prelude.{slice_index}
use Rattle.std.proofs.lemmas.Bool.{cases_Bool, cases_lt, true≢false}
use Rattle.std.proofs.lemmas.List.{get_or-append_right, get_or-drop, get_or-take, get_or_append_left}
use Rattle.std.proofs.lemmas.Bool.Decides.{nat_tests}
use Rattle.std.proofs.Math.Seq.{take-append_seam}
use borrow.Rule.Slice.PartMut.{mid_of, put_mid, same_len_mid}
use Rattle.byte_ranges.specs.Ranges.{has, is_in, IsFirstRun, IsFirstRunIn}
use Rattle.byte_ranges.specs.declared.Span.{Span}
use Rattle.vfs_outside.specs.Image.{Image, data_in}
use Rattle.vfs_outside.specs.Slot.{Reads, Slot, Told, image}
use Rattle.item_core.specs.declared.entry.Entry.{Entry}
use Rattle.item_core.specs.Content.{Known, base_byte, byte_at, bytes_at}
use Rattle.item_core.specs.History.{base_end_of, held_by}
use Rattle.item_meta.specs.declared.meta.Meta.{Meta}
use Rattle.item_image.specs.Book.{Book}
use Rattle.item_image.specs.Premise.{Fits, IsOfImage, Pairs}
use Rattle.item_image.proofs.Change.{base_past}
use Rattle.item_image.proofs.ReadBytes.{absent_byte}
use Rattle.item_image.proofs.Tells.{keeps_data}
use Rattle.downloaders.specs.Rules.{AllHere}
use Rattle.base_object.specs.Base.{Base}
use Rattle.sparse_item.specs.Item.{Item, Saved}
use Rattle.sparse_item.specs.Moves.{GoesOn}
use Rattle.sparse_item.specs.Reading.{Fills, SameData, Shows, shown}
use Rattle.sparse_item.specs.Sound.{IsSound}

-- ---- filling a buffer

pub fills_none : {tells : Type 0} (slot : Slot) (here : List Span) (pos : ℕ) (xs : List ℕ) → Fills tells slot here pos pos xs xs
fills_none slot here pos xs = record {
  size = refl;
  there = λ t i b lt to h d. absurd (omega (arith, to));
  absent = λ i lt h. refl;
  later = λ i lt le. refl;
}

-- places where nothing is here need no read
pub fills_past : {tells : Type 0} {slot : Slot} {here : List Span} {pos at : ℕ} {before now : List ℕ} (to : ℕ) → Fills tells slot here pos at before now → at ≤ to
    → ((p : ℕ) → at ≤ p → p < to → has here p ≡ false) → Fills tells slot here pos to before now
fills_past {pos = pos} {at = at} to f le gone = record {
  size = f.size;
  there = λ t i b lt below h d. elim (cases_lt (pos + i) at) [
    | inl low ↦ f.there t i b lt low h d
    | inr high ↦ absurd (true≢false (sym h ∙ gone (pos + i) high below))
  ];
  absent = f.absent;
  later = λ i lt up. f.later i lt (omega (arith, le, up));
}

-- bytes stand in a buffer from a place on, and all others as before
pub record IsPut (at : ℕ) (part old new : List ℕ) : Type 0 where
  pub size : length new ≡ length old
  pub before : (i : ℕ) → i < at → slice_index new i ≡ slice_index old i
  pub inside : (j : ℕ) → j < length part → slice_index new (at + j) ≡ slice_index part j
  pub past : (i : ℕ) → at + length part ≤ i → slice_index new i ≡ slice_index old i

-- a part of a list was written over
pub is_put : (a k : ℕ) (old part : List ℕ) → length part ≡ k → a + k ≤ length old → IsPut a part old (put_mid a k old part)
is_put a k old part size fits = record {
  size = same_len_mid a k old part (size ∙ sym (length_mid a k old fits));
  before = λ i lt. get_or_append_left (take a old) (part ++ drop k (drop a old)) 0 i (omega (arith, front, lt)) ∙ get_or-take a old i 0 lt;
  inside = λ j lt. get_or-append_right (take a old) (part ++ drop k (drop a old)) a (a + j) 0 front (omega arith)
      ∙ ap (slice_index (part ++ drop k (drop a old))) (let e : a + j - a ≡ j = omega arith in e) ∙ get_or_append_left part (drop k (drop a old)) 0 j lt;
  past = λ i up. get_or-append_right (take a old) (part ++ drop k (drop a old)) a i 0 front (omega (arith, up))
      ∙ get_or-append_right part (drop k (drop a old)) k (i - a) 0 size (omega (arith, up, size))
      ∙ get_or-drop k (drop a old) (i - a - k) 0 ∙ get_or-drop a old (k + (i - a - k)) 0
      ∙ ap (slice_index old) (let e : a + (k + (i - a - k)) ≡ i = omega (arith, up, size) in e);
} where
  front : length (take a old) ≡ a
  front = omega (arith, fits, length-take {A = ℕ})

  length_mid : (a k : ℕ) (xs : List ℕ) → a + k ≤ length xs → length (mid_of a k xs) ≡ k
  length_mid a k xs le = omega (arith, le, length-take {A = ℕ}, length-drop {A = ℕ})

-- a run was read into its place
pub fills_run : {tells : Type 0} {first : Slot} {here : List Span} {pos from : ℕ} {before old new : List ℕ} (slot : Slot) (to : ℕ) (part : List ℕ) → Fills tells first here pos from before old
    → SameData tells first slot → pos ≤ from → from + length part ≡ to → ((p : ℕ) → from ≤ p → p < to → has here p ≡ true) → (tells → Reads (image slot.told) from part)
    → IsPut (from - pos) part old new → Fills tells first here pos to before new
fills_run {tells} {first} {here} {pos} {from} {before} {old} {new} slot to part f same low size there reads put = record {
  size = put.size ∙ f.size;
  there = is_there;
  absent = is_absent;
  later = λ i lt up. put.past i (omega (arith, size, low, up)) ∙ f.later i (short i lt) (omega (arith, up, size));
} where
  short : (i : ℕ) → i < length new → i < length old
  short i lt = omega (arith, put.size, lt)

  at : (i : ℕ) → from ≤ pos + i → from - pos + (pos + i - from) ≡ i
  at i up = omega (arith, low, up)

  place : (i : ℕ) → from ≤ pos + i → from + (pos + i - from) ≡ pos + i
  place i up = omega (arith, up)

  is_there : tells → (i b : ℕ) → i < length new → pos + i < to → has here (pos + i) ≡ true → data_in (image first.told) (pos + i) ≡ Some b → slice_index new i ≡ b
  is_there t i b lt below h d = elim (cases_lt (pos + i) from) [
    | inl less ↦ put.before i (omega (arith, less, low)) ∙ f.there t i b (short i lt) less h d
    | inr more ↦
        let j : ℕ = pos + i - from in
        let in_part : j < length part = omega (arith, below, size, more) in
        let data_at : data_in (image slot.told) (from + j) ≡ Some b = ap (data_in (image slot.told)) (place i more) ∙ same t (pos + i) ∙ d in
        ap (slice_index new) (sym (at i more)) ∙ put.inside j in_part ∙ reads t j b in_part data_at
  ]

  is_absent : (i : ℕ) → i < length new → has here (pos + i) ≡ false → slice_index new i ≡ slice_index before i
  is_absent i lt h = elim (cases_lt (pos + i) from) [
    | inl less ↦ put.before i (omega (arith, less, low)) ∙ f.absent i (short i lt) h
    | inr more ↦ elim (cases_lt (pos + i) to) [
      | inl below ↦ absurd (true≢false (sym (there (pos + i) more below) ∙ h))
      | inr past ↦ put.past i (omega (arith, size, low, past)) ∙ f.absent i (short i lt) h
    ]
  ]

-- the first run from a place on that is here was read into its place
pub fills_next : {tells : Type 0} {first : Slot} {here : List Span} {pos at : ℕ} {before old : List ℕ} (slot : Slot) (run : Span) (part : List ℕ) → Fills tells first here pos at before old → SameData tells first slot
    → IsFirstRun (has here) (record { start = at; end = pos + length old }) run → pos ≤ at → length part ≡ run.end - pos - (run.start - pos) → (tells → Reads (image slot.told) run.start part)
    → Fills tells first here pos run.end before (put_mid (run.start - pos) (run.end - pos - (run.start - pos)) old part)
fills_next {here = here} {pos = pos} {at = at} {before = before} {old = old} slot run part f same r low size reads =
    fills_run slot run.end part (fills_past run.start f r.from (λ p a b. r.before p a b)) same (omega (arith, low, r.from)) (omega (arith, size, low, r.from, r.some)) (λ p a b. r.passes p (inside run.start run.end p a b)) reads
    (is_put (run.start - pos) (run.end - pos - (run.start - pos)) old part size (omega (arith, low, r.from, r.some, r.to))) where
      inside : (from to p : ℕ) → from ≤ p → p < to → (nat_le from p && nat_lt p to) ≡ true
      inside from to p a b = grind (arith, nat_tests)

pub none_here : (here : List Span) (from to : ℕ) → IsFirstRunIn (has here) (record { start = from; end = to }) None → (p : ℕ) → from ≤ p → p < to → has here p ≡ false
none_here here from to none p a b = none p (inside from to p a b) where
  inside : (from to p : ℕ) → from ≤ p → p < to → (nat_le from p && nat_lt p to) ≡ true
  inside from to p a b = grind (arith, nat_tests)

-- ---- what is shown

pub listed : (known : Known) (past : List Entry) (pos n : ℕ) (found : List ℕ) → length found ≡ n → ((i : ℕ) → i < n → slice_index found i ≡ byte_at known past (pos + i)) → found ≡ bytes_at known past pos n
listed known past pos zero [] size each = refl
listed known past pos zero (x ∷ xs) size each = absurd (omega (arith, size))
listed known past pos (suc n) [] size each = absurd (omega (arith, size))
listed known past pos (suc n) (x ∷ xs) size each =
    ap (λ b. b ∷ xs) (each 0 (omega arith) ∙ ap (byte_at known past) (let e : pos + 0 ≡ pos = omega arith in e))
    ∙ ap (λ bs. byte_at known past pos ∷ bs) (listed known past (suc pos) n xs (omega (arith, size))
    (λ i lt. each (suc i) (omega (arith, lt)) ∙ ap (byte_at known past) (let e : pos + suc i ≡ suc pos + i = omega arith in e)))

-- the buffer, of which each byte that isn't here is 0, has the file's bytes
pub shown_bytes : {tells shows : Type 0} {past : List Entry} {names : List (List ℕ)} {saved : ℕ} {pairs : Pairs} {m : Meta} {slot : Slot} (pos n : ℕ) (zeros found : List ℕ)
    → Book tells shows past names saved pairs (Some m) slot → m.intent ≡ None → AllHere (has m.ranges) (record { start = pos; end = min (pos + n) m.base_end }) m.base_end
    → Fills tells slot m.ranges pos (pos + n) zeros found → length zeros ≡ n → ((i : ℕ) → i < length zeros → slice_index zeros i ≡ 0)
    → tells → (known : Known) → Fits shows known past pairs → IsOfImage known slot.told.first → found ≡ bytes_at known past pos n
shown_bytes {past = past} {m = m} {slot = slot} pos n zeros found b none all fills size each t known f i = listed known past pos n found (fills.size ∙ size) (λ k lt. elim (cases_Bool (has m.ranges (pos + k))) [
  | inl here ↦ fills.there t k (byte_at known past (pos + k)) (omega (arith, lt, fills.size, size)) (omega (arith, lt)) here (keeps_data (b.holds t known f i) none (pos + k) here)
  | inr gone ↦ fills.absent k (omega (arith, lt, fills.size, size)) gone ∙ each k (omega (arith, lt, size)) ∙ sym (absent_byte b t known f i (pos + k) gone ∙ is_past k lt gone)
]) where
  inside : (k : ℕ) → k < n → pos + k < m.base_end → is_in (record { start = pos; end = min (pos + n) m.base_end }) (pos + k) ≡ true
  inside k lt below = within pos (min (pos + n) m.base_end) (pos + k) (omega arith) (omega (arith, lt, below)) where
    within : (a b p : ℕ) → a ≤ p → p < b → (nat_le a p && nat_lt p b) ≡ true
    within a b p x y = grind (arith, nat_tests)

  is_past : (k : ℕ) → k < n → has m.ranges (pos + k) ≡ false → base_byte known (base_end_of past) (held_by past) (pos + k) ≡ 0
  is_past k lt gone = elim (cases_lt (pos + k) m.base_end) [
    | inl below ↦ absurd (true≢false (sym (all (pos + k) (inside k lt below) below) ∙ gone))
    | inr up ↦ base_past known (base_end_of past) (held_by past) (pos + k) (omega (arith, up, b.kept.1.base_end))
  ]

-- what a read shows, whose buffer was filled after all that it needs was here
pub read_shows : {tells shows : Type 0} {names : List (List ℕ)} {saved : Saved} {m : Meta} {slot : Slot} {base : Base} {atime : ℕ} (item : Item) (pos len n end before : ℕ) (zeros found : List ℕ)
    → IsSound tells shows item.log.past names saved item.pairs (Some m) slot base atime → GoesOn tells item.slot slot → m.intent ≡ None → n ≡ shown item.log.past pos len
    → before ≡ base_end_of item.log.past → end ≡ min (pos + n) (base_end_of item.log.past) → AllHere (has m.ranges) (record { start = pos; end = end }) before
    → Fills tells slot m.ranges pos (pos + n) zeros found → length zeros ≡ n → ((i : ℕ) → i < length zeros → slice_index zeros i ≡ 0)
    → Shows tells shows item pos len found
read_shows {m = m} {slot = slot} item pos len n end before zeros found b goes none is same ends all fills size each t known fits first =
    let at : m.base_end ≡ base_end_of item.log.past = b.book.kept.1.base_end in
    let stop : min (pos + n) m.base_end ≡ end = omega (arith, at, ends) in
    let there : AllHere (has m.ranges) (record { start = pos; end = min (pos + n) m.base_end }) m.base_end =
    λ (p : ℕ) i lt. all p (subst (λ (e : ℕ). is_in (record { start = pos; end = e }) p ≡ true) stop i) (omega (arith, lt, at, same)) in
    let from : IsOfImage known slot.told.first = subst (λ (i : Image). IsOfImage known i) (sym (ap (λ (x : Told). x.first) (goes.told t).1)) first in
    shown_bytes pos n zeros found b.book none there fills size each t known fits from ∙ ap (bytes_at known item.log.past pos) is

-- the front of a buffer that was read into
pub front_back : (n : ℕ) (front rest : List ℕ) → n ≡ length front → take n (front ++ rest) ≡ front
front_back n front rest e = ap (λ (k : ℕ). take k (front ++ rest)) e ∙ take-append_seam front rest
