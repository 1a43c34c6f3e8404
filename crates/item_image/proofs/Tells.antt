-- When metadata, with the data, go on telling a file's bytes.
use Rattle.std.proofs.Common.{◌≡◌, ℕ, ◌-◌, ◌&&◌, ◌||◌, if◌then◌else◌, Bool, true, false, Option, Some, None, List, length, refl, sym, ap, ◌∙◌}
use Rattle.std.specs.Prelude.{slice_index}
use Rattle.std.proofs.lemmas.Bool.{true≢false}
use Rattle.byte_ranges.specs.Ranges.{has}
use Rattle.vfs_outside.specs.Image.{is_within}
use Rattle.item_core.specs.Content.{Known}
use Rattle.item_meta.specs.declared.meta.Intent.{Intent}
use Rattle.item_meta.specs.declared.meta.Meta.{Meta}
use Rattle.item_image.specs.Facts.{MetaFacts}
use Rattle.item_image.specs.Stands.{Means, Tells, laid}
use Rattle.item_image.specs.Book.{IsPending, Keeps}

-- ---- truth values

pub or_left : (a b : Bool) → (a || b) ≡ true → b ≡ false → a ≡ true
or_left true b h e = refl
or_left false b h e = absurd (true≢false (sym h ∙ e))

pub neither : (a b : Bool) → (a || b) ≡ false → (a ≡ false) × (b ≡ false)
neither true b h = absurd (true≢false h)
neither false b h = (refl, h)

pub both : (a b : Bool) → (a && b) ≡ true → (a ≡ true) × (b ≡ true)
both true b h = (refl, h)
both false b h = absurd (true≢false (sym h))

pub both_are : (a b : Bool) → a ≡ true → b ≡ true → (a && b) ≡ true
both_are a b x y = rw x y

-- ---- data that a call has changed

-- other metadata in memory and other data, in which the saved metadata still find their bytes
pub keeps_moved : {known : Known} {text : Option (List ℕ)} {facts : MetaFacts} {bytes : ℕ → ℕ} {meta meta' : Meta} {stored stored' : ℕ → Option ℕ} (k : Keeps known text stored facts bytes meta)
    → meta'.ranges ≡ meta.ranges → IsPending meta'.intent k.saved.meta.intent
    → ((p : ℕ) → has meta'.ranges p ≡ true → laid meta'.intent stored' p ≡ Some (bytes p))
    → ((p : ℕ) → has k.saved.meta.ranges p ≡ true → laid k.saved.meta.intent stored' p ≡ laid k.saved.meta.intent stored p)
    → Keeps known text stored' facts bytes meta'
keeps_moved k ranges pending present same = record {
  present = present;
  saved = record {
    words = k.saved.words;
    meta = k.saved.meta;
    there = k.saved.there;
    means = k.saved.means;
    tells = record { same = k.saved.tells.same; present = λ p h. same p h ∙ k.saved.tells.present p h; absent = k.saved.tells.absent };
  };
  ranges = k.ranges ∙ sym ranges;
  pending = pending;
}

-- an intent is laid over what is the same beside it
pub laid_over : (i : Intent) (stored stored' : ℕ → Option ℕ) (p : ℕ) → (is_within i.pos (length i.bytes) p ≡ false → stored' p ≡ stored p) → laid (Some i) stored' p ≡ laid (Some i) stored p
laid_over i stored stored' p same = by_case (is_within i.pos (length i.bytes) p) same where
  by_case : (w : Bool) → (w ≡ false → stored' p ≡ stored p)
      → (if w then Some (slice_index i.bytes (p - i.pos)) else stored' p) ≡ (if w then Some (slice_index i.bytes (p - i.pos)) else stored p)
  by_case true h = refl
  by_case false h = h refl

pub laid_same : (intent : Option Intent) (stored stored' : ℕ → Option ℕ) (p : ℕ) → stored' p ≡ stored p → laid intent stored' p ≡ laid intent stored p
laid_same None stored stored' p e = e
laid_same (Some i) stored stored' p e = laid_over i stored stored' p (λ _. e)

pub beside : (pos n : ℕ) (b : ℕ → Option ℕ) (stored : ℕ → Option ℕ) (p : ℕ) → is_within pos n p ≡ false → (if is_within pos n p then b p else stored p) ≡ stored p
beside pos n b stored p e = rw e refl

-- ---- metadata that were saved just now

pub pending_same : (i : Option Intent) → IsPending i i
pending_same None = tt
pending_same (Some i) = refl

pub keeps_saved : {known : Known} {words : List ℕ} {facts : MetaFacts} {bytes : ℕ → ℕ} {meta : Meta} {stored : ℕ → Option ℕ} → Means words meta
    → Tells known facts bytes meta stored → Keeps known (Some words) stored facts bytes meta
keeps_saved {words = words} {meta = meta} m t = record {
  present = t.present;
  saved = record { words = words; meta = meta; there = refl; means = m; tells = t };
  ranges = refl;
  pending = pending_same meta.intent;
}

-- ---- what a book's metadata tell

-- a byte that isn't in the ranges is the held object's below the base end, and 0 from there on
pub keeps_absent : {known : Known} {text : Option (List ℕ)} {stored : ℕ → Option ℕ} {facts : MetaFacts} {bytes : ℕ → ℕ} {meta : Meta} (k : Keeps known text stored facts bytes meta)
    → (p : ℕ) → has meta.ranges p ≡ false → has k.saved.meta.ranges p ≡ false
keeps_absent k p h = ap (λ r. has r p) k.ranges ∙ h

pub keeps_there : {known : Known} {text : Option (List ℕ)} {stored : ℕ → Option ℕ} {facts : MetaFacts} {bytes : ℕ → ℕ} {meta : Meta} (k : Keeps known text stored facts bytes meta)
    → (p : ℕ) → has k.saved.meta.ranges p ≡ true → has meta.ranges p ≡ true
keeps_there k p h = ap (λ r. has r p) (sym k.ranges) ∙ h

-- without a pending intent a present byte is in the data
pub keeps_data : {known : Known} {text : Option (List ℕ)} {stored : ℕ → Option ℕ} {facts : MetaFacts} {bytes : ℕ → ℕ} {meta : Meta} → Keeps known text stored facts bytes meta
    → meta.intent ≡ None → (p : ℕ) → has meta.ranges p ≡ true → stored p ≡ Some (bytes p)
keeps_data {stored = stored} {meta = meta} k e p h = ap (λ i. laid i stored p) (sym e) ∙ k.present p h
