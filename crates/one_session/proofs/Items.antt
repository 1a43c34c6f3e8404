-- A file stays sound as its history goes on.
use Rattle.std.proofs.Common.{◌≡◌, ◌⊎◌, ◌<◌, ◌≤◌, ℕ, zero, suc, ◌+◌, ◌++◌, ◌∙◌, ap, sym, refl, subst, inl, inr, arith, Bool, true, false, List, [], ◌∷◌, length, eqb, length-append, nat_lt}
use Rattle.std.proofs.lemmas.Bool.Decides.{eqb_tells}
use Rattle.vfs_outside.specs.Image.{meta_in}
use Rattle.item_core.specs.Effects.{is_opened, is_start}
use Rattle.item_core.specs.History.{count_of}
use Rattle.item_core.specs.declared.entry.Entry.{Entry}
use Rattle.item_core.specs.declared.entry.FileKind.{FileKind}
use Rattle.sparse_item.specs.Item.{Item}
use Rattle.sparse_item.specs.Sound.{is_begun}
use Rattle.one_session.specs.Books.{IsSameFile, TouchesOne}
use Rattle.one_session.specs.Slots.{IsSoundItem}
use Rattle.one_session.specs.State.{item_in}
use Rattle.one_session.proofs.Shelves.{touched_length, touched_other}

-- a count never falls
count_up : (such : FileKind → Bool) (e : Entry) (past : List Entry) (b : Bool) → such e.kind ≡ b → count_of such past ≤ count_of such (e ∷ past)
count_up such e past true h = rw h (omega arith)
count_up such e past false h = rw h (omega arith)

begun_step : (e : Entry) (past : List Entry) → is_begun past ≡ true → is_begun (e ∷ past) ≡ true
begun_step e past h = still _ _ _ _ h (count_up is_opened e past (is_opened e.kind) refl) (count_up is_start e past (is_start e.kind) refl) where
  still : (a b a' b' : ℕ) → nat_lt 0 (a + b) ≡ true → a ≤ a' → b ≤ b' → nat_lt 0 (a' + b') ≡ true
  still a b a' b' h x y = grind (arith, h, x, y)

begun_more : (es past : List Entry) → is_begun past ≡ true → is_begun (es ++ past) ≡ true
begun_more [] past h = h
begun_more (e ∷ es) past h = begun_step e (es ++ past) (begun_more es past h)

-- a file stays sound
pub sound_on : (tells : Type 0) (limit n : ℕ) (old new : Item) (es : List Entry) → IsSoundItem tells limit n old → IsSameFile tells old new → new.log.past ≡ es ++ old.log.past → IsSoundItem tells limit n new
sound_on tells limit n old new es s same past = record {
  slot = ap (λ i. i.0) same.slot_id ∙ s.slot;
  places = same.limit ∙ s.places;
  begun = ap is_begun past ∙ begun_more es old.log.past s.begun;
  blank = λ t. ap (λ told. meta_in told.first) (same.slot.told t).1 ∙ s.blank t;
  fresh = same.saved ∙ s.fresh;
}

-- and the others with it
pub items_on : (tells : Type 0) (limit : ℕ) (old new : List Item) (i : ℕ) → TouchesOne i old new → i < length old → IsSoundItem tells limit i (item_in new i)
    → ((n : ℕ) → n < length old → IsSoundItem tells limit n (item_in old n)) → (n : ℕ) → n < length new → IsSoundItem tells limit n (item_in new n)
items_on tells limit old new i one lt own all n inside = tell (eqb_tells n i) where
  tell : ((eqb n i ≡ true) × (n ≡ i)) ⊎ ((eqb n i ≡ false) × (n ≡ i → ⊥)) → IsSoundItem tells limit n (item_in new n)
  tell (inl h) = subst (λ m. IsSoundItem tells limit m (item_in new m)) (sym h.1) own
  tell (inr h) = subst (IsSoundItem tells limit n) (sym (touched_other old new i one lt n h.1)) (all n (omega (arith, inside, touched_length old new i one lt)))

-- a sound file more stands at the end
pub items_end : (tells : Type 0) (limit : ℕ) (old : List Item) (new : Item) → IsSoundItem tells limit (length old) new
    → ((n : ℕ) → n < length old → IsSoundItem tells limit n (item_in old n)) → (n : ℕ) → n < length (old ++ new ∷ []) → IsSoundItem tells limit n (item_in (old ++ new ∷ []) n)
items_end tells limit [] new own all zero lt = own
items_end tells limit [] new own all (suc n) lt = absurd (omega (arith, lt))
items_end tells limit (x ∷ old) new own all n lt = by_place old n lt (λ m l. all m l) own where
  found : (xs : List Item) (n : ℕ) → n < length xs + 1 → ((n < length xs) × (item_in (xs ++ new ∷ []) n ≡ item_in xs n)) ⊎ ((n ≡ length xs) × (item_in (xs ++ new ∷ []) n ≡ new))
  found [] zero lt = inr (refl, refl)
  found [] (suc n) lt = absurd (omega (arith, lt))
  found (y ∷ xs) zero lt = inl (omega arith, refl)
  found (y ∷ xs) (suc n) lt = next (found xs n (omega (arith, lt))) where
    next : ((n < length xs) × (item_in (xs ++ new ∷ []) n ≡ item_in xs n)) ⊎ ((n ≡ length xs) × (item_in (xs ++ new ∷ []) n ≡ new))
        → ((suc n < length (y ∷ xs)) × (item_in ((y ∷ xs) ++ new ∷ []) (suc n) ≡ item_in (y ∷ xs) (suc n))) ⊎ ((suc n ≡ length (y ∷ xs)) × (item_in ((y ∷ xs) ++ new ∷ []) (suc n) ≡ new))
    next (inl h) = inl (omega (arith, h.0), h.1)
    next (inr h) = inr (ap suc h.0, h.1)

  longer : (xs : List Item) → length (xs ++ new ∷ []) ≡ length xs + 1
  longer xs = length-append xs (new ∷ [])

  by_place : (old' : List Item) (n : ℕ) → n < length ((x ∷ old') ++ new ∷ []) → ((m : ℕ) → m < length (x ∷ old') → IsSoundItem tells limit m (item_in (x ∷ old') m)) → IsSoundItem tells limit (length (x ∷ old')) new → IsSoundItem tells limit n (item_in ((x ∷ old') ++ new ∷ []) n)
  by_place old' n lt all own = tell (found (x ∷ old') n (omega (arith, lt, longer (x ∷ old')))) where
    tell : ((n < length (x ∷ old')) × (item_in ((x ∷ old') ++ new ∷ []) n ≡ item_in (x ∷ old') n)) ⊎ ((n ≡ length (x ∷ old')) × (item_in ((x ∷ old') ++ new ∷ []) n ≡ new)) → IsSoundItem tells limit n (item_in ((x ∷ old') ++ new ∷ []) n)
    tell (inl h) = subst (IsSoundItem tells limit n) (sym h.1) (all n h.0)
    tell (inr h) = subst (λ m. IsSoundItem tells limit m (item_in ((x ∷ old') ++ new ∷ []) n)) (sym h.0) (subst (IsSoundItem tells limit (length (x ∷ old'))) (sym h.1) own)
