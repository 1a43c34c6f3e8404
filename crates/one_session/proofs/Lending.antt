-- Which slots' files are out, as they are taken and given back.
use Rattle.std.proofs.Common.{◌≡◌, ◌≢◌, ◌⊎◌, ◌<◌, ◌≤◌, ℕ, zero, suc, ◌+◌, ◌-◌, ◌++◌, ◌==◌, ◌∙◌, if◌then◌else◌, ap, sym, refl, subst, inl, inr, arith, Bool, true, false, eqb, leb, List, [], ◌∷◌, length, map, reverse, append-nil, length-append, Option, Some, None, drop}
use Rattle.std.proofs.lemmas.Bool.Decides.{eqb_tells, leb_tells}
use Rattle.std.specs.List.{AllByRecursion}
use Rattle.std.proofs.lemmas.List.{map-append, reverse-reverse}
use Rattle.vfs_outside.specs.Disk.{Disk, SameOut, SameShelves, SetsOut, Shelf, TakesBack}
use Rattle.vfs_outside.specs.Image.{Image, meta_in}
use Rattle.vfs_outside.specs.Slot.{Slot, Told, image, image_after}
use Rattle.vfs_names.specs.declared.fingerprint.Fingerprint.{Fingerprint}
use Rattle.item_core.specs.Content.{Known}
use Rattle.item_core.specs.History.{is_kept, place}
use Rattle.item_core.specs.Legal.{IsLegal}
use Rattle.item_core.specs.Names.{names_at}
use Rattle.item_image.specs.Premise.{Fits, IsOfImage}
use Rattle.item_image.specs.Stands.{StandsFor}
use Rattle.sparse_item.specs.Item.{Item, Saved}
use Rattle.one_session.specs.Slots.{IsSoundItem, ItemStands, Lends}
use Rattle.one_session.specs.Logs.{history_of}
use Rattle.one_session.specs.State.{History, item_in}
use Rattle.one_session.specs.Views.{stored}
use Rattle.one_session.specs.declared.log.FileLog.{FileLog}

was : (s n : ℕ) (is own other : Bool) → (s ≡ n → own ≡ is) → (s ≢ n → own ≡ other) → own ≡ (if s == n then is else other)
was s n is own other here there = tell (eqb_tells s n) where
  tell : ((eqb s n ≡ true) × (s ≡ n)) ⊎ ((eqb s n ≡ false) × (s ≢ n)) → own ≡ (if s == n then is else other)
  tell (inl h) = rw (h.0) (here h.1)
  tell (inr h) = rw (h.0) (there h.1)

-- a slot's file is set out or back
pub set_own : (n : ℕ) (is : Bool) (old new : Disk) → SetsOut n is old new → new.out n ≡ is
set_own n is old new out = out n ∙ sym (was n n is is (old.out n) (λ e. refl) (λ ne. absurd (ne refl)))

pub set_other : (n s : ℕ) (is : Bool) (old new : Disk) → SetsOut n is old new → s ≢ n → new.out s ≡ old.out s
set_other n s is old new out ne = out s ∙ sym (was s n is (old.out s) (old.out s) (λ e. absurd (ne e)) (λ ne. refl))

-- the last slot's file is given back with no metadata
pub back_lends : (tells : Type 0) (n : ℕ) (told : Told) (old new : Disk) → Lends tells (n + 1) old → SetsOut n false old new → (tells → TakesBack n told old new) → (tells → meta_in (image told) ≡ None) → Lends tells n new
back_lends tells n told old new l out back blank = record {
  out = λ s lt. set_other n s false old new out (λ e. omega (arith, e, lt)) ∙ l.out s (omega (arith, lt));
  here = λ s le. given s le (eqb_tells s n);
  blank = λ t s le. bare t s le (eqb_tells s n);
} where
  more : (s n : ℕ) → n ≤ s → s ≢ n → n + 1 ≤ s
  more s n le ne = omega (arith, le, ne)

  given : (s : ℕ) → n ≤ s → ((eqb s n ≡ true) × (s ≡ n)) ⊎ ((eqb s n ≡ false) × (s ≢ n)) → new.out s ≡ false
  given s le (inl h) = subst (λ m. new.out m ≡ false) (sym h.1) (set_own n false old new out)
  given s le (inr h) = set_other n s false old new out h.1 ∙ l.here s (more s n le h.1)

  bare : tells → (s : ℕ) → n ≤ s → ((eqb s n ≡ true) × (s ≡ n)) ⊎ ((eqb s n ≡ false) × (s ≢ n)) → meta_in (image (new.shelf s).now) ≡ None
  bare t s le (inl h) = subst (λ m. meta_in (image (new.shelf m).now) ≡ None) (sym h.1) (ap (λ (x : Shelf). meta_in (image x.now)) (back t).here ∙ blank t)
  bare t s le (inr h) = ap (λ (x : Shelf). meta_in (image x.now)) ((back t).others s h.1) ∙ l.blank t s (more s n le h.1)

drop_none : {X : Type 0} (n : ℕ) (xs : List X) → n ≡ 0 → drop n xs ≡ xs
drop_none zero xs e = refl
drop_none (suc n) xs e = absurd (omega (arith, e))

-- after all of its calls the image is the one now
pub image_last : (t : Told) (k : ℕ) → length t.since ≡ k → image_after t k ≡ image t
image_last t k e = ap (λ l. l ++ t.first) (drop_none (length t.since - k) t.since (omega (arith, e)))

-- a file of which no entry was made has no metadata
pub unmade_blank : (tells shows : Type 0) (item : Item) → item.log.past ≡ [] → item.pairs ≡ [] → meta_in item.slot.told.first ≡ None → length item.slot.told.since ≡ item.slot.calls
    → ((known : Known) → Fits shows known item.log.past item.pairs → IsOfImage known item.slot.told.first → (k : ℕ) → k ≤ item.slot.calls
    → StandsFor known item.saved.mtime (image_after item.slot.told k) (place item.log.past k) (names_at item.log.past k item.names))
    → meta_in (image item.slot.told) ≡ None
unmade_blank tells shows item past pairs blank counted images =
    ap meta_in (sym (image_last item.slot.told item.slot.calls counted)) ∙ (stands.gone none) where
      nobody : Known
      nobody = record { content = λ print. []; saved = λ p. None }

      fits : Fits shows nobody item.log.past item.pairs
      fits = subst (λ l. Fits shows nobody l item.pairs) (sym past) (subst (λ l. Fits shows nobody [] l) (sym pairs) (record { given = tt; saved = tt }))

      of_image : IsOfImage nobody item.slot.told.first
      of_image text meta there means = absurd (never (sym blank ∙ there)) where
        never : None ≡ Some text → ⊥
        never e = cc

      stands : StandsFor nobody item.saved.mtime (image_after item.slot.told item.slot.calls) (place item.log.past item.slot.calls) (names_at item.log.past item.slot.calls item.names)
      stands = images nobody fits of_image item.slot.calls (omega arith)

      none : is_kept (place item.log.past item.slot.calls) ≡ false
      none = ap (λ l. is_kept (place l item.slot.calls)) past

-- after each of its calls a sound file's image stands for its history
pub stands_back : (tells shows : Type 0) (limit n : ℕ) (item : Item) (told : Told) → IsSoundItem tells limit n item → tells → told ≡ item.slot.told → length item.slot.told.since ≡ item.slot.calls
    → ((known : Known) → Fits shows known item.log.past item.pairs → IsOfImage known item.slot.told.first → (k : ℕ) → k ≤ item.slot.calls
    → StandsFor known item.saved.mtime (image_after item.slot.told k) (place item.log.past k) (names_at item.log.past k item.names))
    → ItemStands shows item told
stands_back tells shows limit n item told s t e counted images known fits k le =
    subst (λ l. StandsFor known 0 (image_after told k) (place l k) (names_at l k (reverse (reverse item.names)))) (sym (reverse-reverse item.log.past))
    (subst (λ l. StandsFor known 0 (image_after told k) (place item.log.past k) (names_at item.log.past k l)) (sym (reverse-reverse item.names))
    (subst (λ x. StandsFor known 0 (image_after x k) (place item.log.past k) (names_at item.log.past k item.names)) (sym e)
    (subst (λ m. StandsFor known m (image_after item.slot.told k) (place item.log.past k) (names_at item.log.past k item.names)) (ap (λ (x : Saved). x.mtime) s.fresh)
    (images known fits of_image k (omega (arith, le, ap (λ (x : Told). length x.since) e, counted)))))) where
      of_image : IsOfImage known item.slot.told.first
      of_image text meta there means = absurd (never (sym (s.blank t) ∙ there)) where
        never : None ≡ Some text → ⊥
        never e = cc

-- The files of the first n slots were given back, each with an image that stands for it after each call; those of the others
-- are out, and no other slot's.
pub record GaveBack (tells shows : Type 0) (all : List Item) (n : ℕ) (first disk : Disk) : Type 0 where
  pub out : (slot : ℕ) → n ≤ slot → slot < length all → disk.out slot ≡ true
  pub back : (slot : ℕ) → slot < n → disk.out slot ≡ false
  pub others : (slot : ℕ) → length all ≤ slot → disk.out slot ≡ false
  pub faults : first.faults ≤ disk.faults
  pub stands : tells → (m : ℕ) → m < n → ItemStands shows (item_in all m) (disk.shelf m).now

-- none was given back yet
pub gave_none : (tells shows : Type 0) (all : List Item) (disk : Disk) → Lends tells (length all) disk → GaveBack tells shows all 0 disk disk
gave_none tells shows all disk l = record {
  out = λ slot le lt. l.out slot lt;
  back = λ slot lt. absurd (omega (arith, lt));
  others = λ slot le. l.here slot le;
  faults = omega arith;
  stands = λ t m lt. absurd (omega (arith, lt));
}

-- the next one is given back
pub gave_next : (tells shows : Type 0) (all : List Item) (n : ℕ) (first old new : Disk) (item : Item) → GaveBack tells shows all n first old → item_in all n ≡ item → item.slot_id.0 ≡ n → n < length all
    → SetsOut item.slot_id.0 false old new → old.faults ≤ new.faults → (tells → ItemStands shows item (new.shelf item.slot_id.0).now) → (tells → (slot : ℕ) → slot ≢ item.slot_id.0 → new.shelf slot ≡ old.shelf slot)
    → GaveBack tells shows all (n + 1) first new
gave_next tells shows all n first old new item gave is at inside out faults stands others = record {
  out = λ slot le lt. set_other n slot false old new there (λ e. omega (arith, e, le)) ∙ gave.out slot (omega (arith, le)) lt;
  back = λ slot lt. back slot lt (eqb_tells slot n);
  others = λ slot le. set_other n slot false old new there (λ e. omega (arith, e, le, inside)) ∙ gave.others slot le;
  faults = omega (arith, gave.faults, faults);
  stands = λ t m lt. each t m lt (eqb_tells m n);
} where
  there : SetsOut n false old new
  there = subst (λ m. SetsOut m false old new) at out

  less : (s n : ℕ) → s < n + 1 → s ≢ n → s < n
  less s n lt ne = omega (arith, lt, ne)

  back : (slot : ℕ) → slot < n + 1 → ((eqb slot n ≡ true) × (slot ≡ n)) ⊎ ((eqb slot n ≡ false) × (slot ≢ n)) → new.out slot ≡ false
  back slot lt (inl h) = subst (λ m. new.out m ≡ false) (sym h.1) (set_own n false old new there)
  back slot lt (inr h) = set_other n slot false old new there h.1 ∙ gave.back slot (less slot n lt h.1)

  each : tells → (m : ℕ) → m < n + 1 → ((eqb m n ≡ true) × (m ≡ n)) ⊎ ((eqb m n ≡ false) × (m ≢ n)) → ItemStands shows (item_in all m) (new.shelf m).now
  each t m lt (inl h) = subst (λ k. ItemStands shows (item_in all k) (new.shelf k).now) (sym h.1) (subst (λ x. ItemStands shows x (new.shelf n).now) (sym is) (subst (λ k. ItemStands shows item (new.shelf k).now) at (stands t)))
  each t m lt (inr h) = subst (λ x. ItemStands shows (item_in all m) x.now) (sym (others t m (λ e. h.1 (e ∙ at)))) (gave.stands t m (less m n lt h.1))

-- the file that comes next
pub next_is : (all yielded rest : List Item) (item : Item) → yielded ++ item ∷ rest ≡ all → (item_in all (length yielded) ≡ item) × (length yielded < length all)
next_is all yielded rest item e = subst (λ l. (item_in l (length yielded) ≡ item) × (length yielded < length l)) e (found yielded) where
  found : (ys : List Item) → (item_in (ys ++ item ∷ rest) (length ys) ≡ item) × (length ys < length (ys ++ item ∷ rest))
  found [] = (refl, omega arith)
  found (y ∷ ys) = let h = found ys in (h.0, omega (arith, h.1))

-- it is sound, and its slot's file is out
pub next_sound : (kept : Type 0) (limit : ℕ) (all yielded rest : List Item) (item : Item) → yielded ++ item ∷ rest ≡ all → ((n : ℕ) → n < length all → IsSoundItem kept limit n (item_in all n)) → IsSoundItem kept limit (length yielded) item
next_sound kept limit all yielded rest item e sound = let h = next_is all yielded rest item e in subst (IsSoundItem kept limit (length yielded)) h.0 (sound (length yielded) h.1)

pub next_out : (tells shows kept : Type 0) (limit : ℕ) (all yielded rest : List Item) (item : Item) (first disk : Disk) → yielded ++ item ∷ rest ≡ all → IsSoundItem kept limit (length yielded) item
    → GaveBack tells shows all (length yielded) first disk → disk.out item.slot_id.0 ≡ true
next_out tells shows kept limit all yielded rest item first disk e sound gave = let h = next_is all yielded rest item e in
    subst (λ s. disk.out s ≡ true) (sym sound.slot) (gave.out (length yielded) (omega arith) h.1)

one_more : {X : Type 0} (xs : List X) (x : X) → length (xs ++ x ∷ []) ≡ length xs + 1
one_more xs x = length-append xs (x ∷ [])

pub next_gave : (tells shows kept : Type 0) (limit : ℕ) (all yielded rest : List Item) (item : Item) (first old new : Disk) → yielded ++ item ∷ rest ≡ all → IsSoundItem kept limit (length yielded) item → GaveBack tells shows all (length yielded) first old
    → SetsOut item.slot_id.0 false old new → old.faults ≤ new.faults → (tells → ItemStands shows item (new.shelf item.slot_id.0).now) → (tells → (slot : ℕ) → slot ≢ item.slot_id.0 → new.shelf slot ≡ old.shelf slot)
    → GaveBack tells shows all (length (yielded ++ item ∷ [])) first new
next_gave tells shows kept limit all yielded rest item first old new e sound gave out faults stands others = let h = next_is all yielded rest item e in
    subst (λ n. GaveBack tells shows all n first new) (sym (one_more yielded item)) (gave_next tells shows all (length yielded) first old new item gave h.0 sound.slot h.1 out faults stands others)

-- all were given back
pub all_back : (tells shows : Type 0) (all yielded : List Item) (first disk : Disk) → yielded ≡ all → GaveBack tells shows all (length yielded) first disk → (slot : ℕ) → disk.out slot ≡ false
all_back tells shows all yielded first disk e gave slot = tell (leb_tells (length all) slot) where
  tell : ((leb (length all) slot ≡ true) × (length all ≤ slot)) ⊎ ((leb (length all) slot ≡ false) × (slot < length all)) → disk.out slot ≡ false
  tell (inl h) = gave.others slot h.1
  tell (inr h) = gave.back slot (omega (arith, h.1, ap length e))

pub all_stand : (tells shows : Type 0) (all yielded : List Item) (first disk : Disk) → yielded ≡ all → GaveBack tells shows all (length yielded) first disk → tells → (n : ℕ) → n < length all → ItemStands shows (item_in all n) (disk.shelf n).now
all_stand tells shows all yielded first disk e gave t n lt = gave.stands t n (omega (arith, lt, ap length e))

-- a log more is that of a file more
pub log_more : (logs new : List FileLog) (log : FileLog) (yielded : List Item) (item : Item) → new ≡ logs ++ log ∷ [] → map history_of logs ≡ map stored yielded → history_of log ≡ stored item
    → map history_of new ≡ map stored (yielded ++ item ∷ [])
log_more logs new log yielded item pushed so_far is = ap (λ l. map history_of l) pushed ∙ map-append history_of logs (log ∷ []) ∙ ap (λ l. l ++ history_of log ∷ []) so_far
    ∙ ap (λ h. map stored yielded ++ h ∷ []) is ∙ sym (map-append stored yielded (item ∷ []))

pub legal_more : (yielded : List Item) (item : Item) → AllByRecursion (λ (file : History). IsLegal (reverse file.entries)) (map stored yielded) → IsLegal item.log.past
    → AllByRecursion (λ (file : History). IsLegal (reverse file.entries)) (map stored (yielded ++ item ∷ []))
legal_more [] item all legal = (subst IsLegal (sym (reverse-reverse item.log.past)) legal, tt)
legal_more (y ∷ yielded) item all legal = (all.0, legal_more yielded item all.1 legal)

-- nothing is left
pub none_left : (all yielded rest : List Item) → yielded ++ rest ≡ all → length rest ≡ 0 → yielded ≡ all
none_left all yielded [] e none = sym (append-nil yielded) ∙ e
none_left all yielded (x ∷ rest) e none = absurd (omega (arith, none))
