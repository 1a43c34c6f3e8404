-- The laws of images: which calls leave an image that stands for the same history, and what a restart finds in one.
use Rattle.std.proofs.Common.{◌≡◌, ℕ, ◌-◌, Bool, true, false, Option, Some, None, List, [], ◌∷◌, length, refl, sym, ap, ◌∙◌, inl, inr, subst}
use Rattle.std.specs.Prelude.{IsSome, slice_index, unwrap_or}
use Rattle.std.proofs.lemmas.Bool.{cases_Bool, true≢false}
use Rattle.byte_ranges.specs.Ranges.{has}
use Rattle.vfs_names.specs.declared.fingerprint.Fingerprint.{Fingerprint}
use Rattle.vfs_names.specs.declared.who.By.{By}
use Rattle.vfs_outside.specs.Image.{Image, data_in, is_within, meta_in}
use Rattle.vfs_outside.specs.declared.file_call.FileCall.TheVariants.{Quiet, Saved, Wrote, Cleared}
use Rattle.item_core.specs.declared.entry.Entry.{Entry}
use Rattle.item_core.specs.Content.{Known, base_byte, byte_at}
use Rattle.item_core.specs.History.{base_end_of, held_by, is_kept}
use Rattle.item_meta.specs.declared.meta.Intent.{Intent}
use Rattle.item_meta.specs.declared.meta.Meta.{Meta}
use Rattle.item_meta.proofs.Back.{text_of_one}
use Rattle.item_image.specs.Facts.{MetaFacts, facts_of}
use Rattle.item_image.specs.Premise.{IsOfImage, IsWholeAs, saved_by}
use Rattle.item_image.specs.Stands.{IsSaved, Means, Stands, StandsFor, Tells, laid}
use Rattle.item_image.specs.Entries.{recovered_entry}
use Rattle.item_image.specs.Restart.{IsFound, known_from}
use Rattle.item_image.proofs.Tells.{beside, laid_over, laid_same}

-- a call that changed nothing
pub quiet_stands : (known : Known) (saved : ℕ) (image : Image) (past : List Entry) (names : List (List ℕ)) → StandsFor known saved image past names
    → StandsFor known saved (Quiet ∷ image) past names
quiet_stands known saved image past names s = record { here = s.here; gone = s.gone }

-- there is metadata of a kept file alone
pub is_here : {known : Known} {text : Option (List ℕ)} {stored : ℕ → Option ℕ} {kept : Bool} {facts : MetaFacts} {bytes : ℕ → ℕ} {words : List ℕ}
    → Stands known text stored kept facts bytes → text ≡ Some words → kept ≡ true
is_here {kept = kept} {words = words} s e = elim (cases_Bool kept) [ inl t ↦ t | inr n ↦ absurd (none_some words (sym (s.gone n) ∙ e)) ] where
  none_some : (w : List ℕ) → ◌≡◌ {A = Option (List ℕ)} None (Some w) → ⊥
  none_some w h = cc

-- the metadata that an image stands by are those that its text means
pub one_saved : {known : Known} {text : Option (List ℕ)} {stored : ℕ → Option ℕ} {facts : MetaFacts} {bytes : ℕ → ℕ} {words : List ℕ} {meta : Meta}
    → IsSaved known text stored facts bytes → text ≡ Some words → Means words meta → Tells known facts bytes meta stored
one_saved {known} {text} {stored} {facts} {bytes} {words} {meta} s e means = subst (λ (m : Meta). Tells known facts bytes m stored) same s.tells where
  same_words : (a b : List ℕ) → ◌≡◌ {A = Option (List ℕ)} (Some a) (Some b) → a ≡ b
  same_words a b h = cc

  same : s.meta ≡ meta
  same = text_of_one words s.meta meta (subst (λ (w : List ℕ). Means w s.meta) (same_words s.words words (sym s.there ∙ e)) s.means) means

-- data changed, and the saved metadata find the same bytes in it
data_stands : {known : Known} {text : Option (List ℕ)} {stored stored' : ℕ → Option ℕ} {kept : Bool} {facts : MetaFacts} {bytes : ℕ → ℕ} {words : List ℕ} {meta : Meta}
    → Stands known text stored kept facts bytes → text ≡ Some words → Means words meta
    → ((p : ℕ) → has meta.ranges p ≡ true → laid meta.intent stored' p ≡ laid meta.intent stored p) → Stands known text stored' kept facts bytes
data_stands {words = words} {meta = meta} s e means same = let t = one_saved (s.here (is_here s e)) e means in record {
  here = λ k. record { words = words; meta = meta; there = e; means = means; tells = record { same = t.same; present = λ p h. same p h ∙ t.present p h; absent = t.absent } };
  gone = s.gone;
}

not_there : (b : Bool) → (b ≡ true → ⊥) → b ≡ false
not_there true h = absurd (h refl)
not_there false h = refl

-- bytes were written, whole or not, that are all outside the saved ranges
pub beside_stands : (known : Known) (saved : ℕ) (image : Image) (past : List Entry) (names : List (List ℕ)) (text : List ℕ) (meta : Meta) (pos : ℕ) (left : List ℕ)
    → StandsFor known saved image past names → meta_in image ≡ Some text → Means text meta
    → ((p : ℕ) → is_within pos (length left) p ≡ true → has meta.ranges p ≡ false) → StandsFor known saved (Wrote pos left ∷ image) past names
beside_stands known saved image past names text meta pos left s e means free = data_stands s e means (λ p h.
    laid_same meta.intent (λ q. data_in image q) (λ q. data_in (Wrote pos left ∷ image) q) p
    (beside pos (length left) (λ q. Some (slice_index left (q - pos))) (λ q. data_in image q) p (not_there (is_within pos (length left) p) (λ w. true≢false (sym h ∙ free p w)))))

-- bytes were written, whole or not, that are all in the saved intent
pub intent_stands : (known : Known) (saved : ℕ) (image : Image) (past : List Entry) (names : List (List ℕ)) (text : List ℕ) (meta : Meta) (i : Intent) (pos : ℕ) (left : List ℕ)
    → StandsFor known saved image past names → meta_in image ≡ Some text → Means text meta → meta.intent ≡ Some i
    → ((p : ℕ) → is_within pos (length left) p ≡ true → is_within i.pos (length i.bytes) p ≡ true) → StandsFor known saved (Wrote pos left ∷ image) past names
intent_stands known saved image past names text meta i pos left s e means is within = data_stands s e means (λ p h. over p) where
  out : (p : ℕ) → is_within i.pos (length i.bytes) p ≡ false → data_in (Wrote pos left ∷ image) p ≡ data_in image p
  out p n = beside pos (length left) (λ q. Some (slice_index left (q - pos))) (λ q. data_in image q) p (not_there (is_within pos (length left) p) (λ w. true≢false (sym (within p w) ∙ n)))

  over : (p : ℕ) → laid meta.intent (λ q. data_in (Wrote pos left ∷ image) q) p ≡ laid meta.intent (λ q. data_in image q) p
  over p = ap (λ (x : Option Intent). laid x (λ q. data_in (Wrote pos left ∷ image) q) p) is
      ∙ laid_over i (λ q. data_in image q) (λ q. data_in (Wrote pos left ∷ image) q) p (out p)
      ∙ ap (λ (x : Option Intent). laid x (λ q. data_in image q) p) (sym is)

-- metadata were saved that tell a kept file's facts and, with the data, its bytes
pub save_stands : (known : Known) (saved : ℕ) (image : Image) (past : List Entry) (names : List (List ℕ)) (text : List ℕ) (meta : Meta) → is_kept past ≡ true → Means text meta
    → Tells known (facts_of saved past names) (λ p. byte_at known past p) meta (λ p. data_in image p) → StandsFor known saved (Saved text ∷ image) past names
save_stands known saved image past names text meta kept means t = record {
  here = λ k. record { words = text; meta = meta; there = refl; means = means; tells = t };
  gone = λ no. absurd (true≢false (sym kept ∙ no));
}

-- the metadata were dropped
pub clear_stands : (known : Known) (saved : ℕ) (image : Image) (past : List Entry) (names : List (List ℕ)) (keep : Bool) → is_kept past ≡ false
    → StandsFor known saved (Cleared keep ∷ image) past names
clear_stands known saved image past names keep gone = record { here = λ k. absurd (true≢false (sym k ∙ gone)); gone = λ no. refl }

-- ---- a restart

some_is : (o : Option ℕ) (b d : ℕ) → o ≡ Some b → unwrap_or o d ≡ b
some_is o b d e = ap (λ (x : Option ℕ). unwrap_or x d) e

none_is : (o : Option ℕ) (d : ℕ) → o ≡ None → unwrap_or o d ≡ d
none_is o d e = ap (λ (x : Option ℕ). unwrap_or x d) e

-- the same contents give the same bytes
same_base : (known : Known) (saved : ℕ → Option ℕ) (base_end : ℕ) (held : Option Fingerprint) (p : ℕ)
    → base_byte (record { content = known.content; saved = saved }) base_end held p ≡ base_byte known base_end held p
same_base known saved base_end None p = refl
same_base known saved base_end (Some print) p = refl

found_known : (known : Known) (image : Image) (text : List ℕ) (meta : Meta) → meta_in image ≡ Some text → Means text meta
    → ((p : ℕ) → has meta.ranges p ≡ true → IsSome (laid meta.intent (λ q. data_in image q) p)) → IsOfImage (known_from known meta image) image
found_known known image text meta e means whole text' meta' e' means' = subst (λ (m : Meta). IsWholeAs m (λ q. data_in image q) (λ p. saved_by meta (λ q. data_in image q) p)) same
    (record { whole = whole; same = λ p. refl }) where
      same_words : (a b : List ℕ) → ◌≡◌ {A = Option (List ℕ)} (Some a) (Some b) → a ≡ b
      same_words a b h = cc

      same : meta ≡ meta'
      same = text_of_one text meta meta' means (subst (λ (w : List ℕ). Means w meta') (same_words text' text (sym e' ∙ e)) means')

-- what a restart finds in an image that stands for a history is that history's file
pub restart_finds : (known : Known) (saved : ℕ) (image : Image) (past : List Entry) (names : List (List ℕ)) (text : List ℕ) (meta : Meta) (by : By)
    → StandsFor known saved image past names → meta_in image ≡ Some text → Means text meta → IsFound known saved image past names meta by
restart_finds known saved image past names text meta by s e means = record { facts = facts; bytes = bytes; of_image = found_known known image text meta e means whole } where
  told : Tells known (facts_of saved past names) (λ p. byte_at known past p) meta (λ p. data_in image p)
  told = one_saved (s.here (is_here s e)) e means

  facts : facts_of meta.mtime (recovered_entry by meta ∷ []) (meta.path ∷ []) ≡ facts_of saved past names
  facts = let h = told.same in λ i. record { name = sym h.path i; size = h.size i; base_end = h.base_end i; held = h.base i; dirty = h.dirty i; mtime = h.mtime i }

  whole : (p : ℕ) → has meta.ranges p ≡ true → IsSome (laid meta.intent (λ q. data_in image q) p)
  whole p h = subst (λ (o : Option ℕ). IsSome o) (sym (told.present p h)) refl

  base_is : (p : ℕ) → base_byte (known_from known meta image) meta.base_end meta.base p ≡ base_byte known (base_end_of past) (held_by past) p
  base_is p = ap (λ (n : ℕ). base_byte (known_from known meta image) n meta.base p) told.same.base_end
      ∙ ap (λ (h : Option Fingerprint). base_byte (known_from known meta image) (base_end_of past) h p) told.same.base
      ∙ same_base known (λ q. saved_by meta (λ r. data_in image r) q) (base_end_of past) (held_by past) p

  here : (p : ℕ) → has meta.ranges p ≡ true → saved_by meta (λ q. data_in image q) p ≡ Some (byte_at known past p)
  here p h = rw h (told.present p h)

  nowhere : (p : ℕ) → has meta.ranges p ≡ false → saved_by meta (λ q. data_in image q) p ≡ None
  nowhere p h = rw h refl

  bytes : (p : ℕ) → unwrap_or (saved_by meta (λ q. data_in image q) p) (base_byte (known_from known meta image) meta.base_end meta.base p) ≡ byte_at known past p
  bytes p = elim (cases_Bool (has meta.ranges p)) [
    | inl t ↦ some_is (saved_by meta (λ q. data_in image q) p) (byte_at known past p) (base_byte (known_from known meta image) meta.base_end meta.base p) (here p t)
    | inr n ↦ none_is (saved_by meta (λ q. data_in image q) p) (base_byte (known_from known meta image) meta.base_end meta.base p) (nowhere p n) ∙ base_is p ∙ sym (told.absent p n)
  ]
