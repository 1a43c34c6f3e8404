-- A file is made, opened and written: what its image stands for after each call. A history, the calls and the paths are
-- written with the newest first.
use Rattle.std.proofs.Common.{◌≡◌, ℕ, ◌+◌, ◌||◌, Bool, true, false, Option, Some, None, List, [], ◌∷◌, codes, length, refl, sym, ◌∙◌, arith, lit≤}
use Rattle.std.specs.Prelude.{⊤}
use Rattle.byte_ranges.specs.Ranges.{is_in}
use Rattle.vfs_names.specs.declared.calls.Access.TheVariants.{Both}
use Rattle.vfs_names.specs.declared.fingerprint.Fingerprint.{Fingerprint}
use Rattle.vfs_names.specs.declared.payload.Payload.TheVariants.{Bytes}
use Rattle.vfs_names.specs.declared.who.Actor.TheVariants.{Session}
use Rattle.vfs_names.specs.declared.who.By.{By}
use Rattle.vfs_outside.specs.Image.{Image, data_in}
use Rattle.vfs_outside.specs.Slot.{Slot}
use Rattle.vfs_outside.specs.declared.file_call.FileCall.{FileCall}
use Rattle.vfs_outside.specs.declared.file_call.FileCall.TheVariants.{Saved, Wrote}
use Rattle.item_core.specs.declared.entry.Entry.{Entry}
use Rattle.item_core.specs.declared.entry.FileKind.TheVariants.{Create, Adopt, Write, Opened, Discard}
use Rattle.item_core.specs.Content.{Known, content_of}
use Rattle.item_core.specs.History.{place}
use Rattle.item_meta.specs.declared.meta.Meta.{Meta}
use Rattle.item_image.specs.Book.{Book}
use Rattle.item_image.specs.Calls.{Goes}
use Rattle.item_image.specs.Entries.{made}
use Rattle.item_image.specs.Facts.{mtime_of}
use Rattle.item_image.specs.Next.{IsGrown, adopted_meta, fresh_meta, settled_meta}
use Rattle.item_image.specs.Premise.{Fits, IsOfImage}
use Rattle.item_image.specs.Stands.{Means, StandsFor}
use Rattle.item_image.proofs.Begin.{adopted, created, started}
use Rattle.item_image.proofs.Change.{settled, torn, wrote}
use Rattle.item_image.proofs.LawProofs.{is_here, one_saved}
use Rattle.item_image.proofs.Quiet.{plain_entry}
use Rattle.item_image.proofs.Steps.{images}

-- pass 2, under the tree's lock as well
abbrev by : ℕ → By
by now = record { who = record { epoch = 0; phase = 1; actor = Session 1 }; pass = 2; tree = true; now = now }

abbrev hello : List ℕ
hello = codes "hello"

abbrev names : List (List ℕ)
names = codes "a.txt" ∷ []

abbrev past-made : List Entry
past-made = made (by 10) 1 Create ∷ []

abbrev past-opened : List Entry
past-opened = made (by 10) 1 (Opened Both) ∷ past-made

-- the write has the number of its save
abbrev past-written : List Entry
past-written = made (by 20) 2 (Write 0 (Bytes hello)) ∷ past-opened

abbrev meta-made : Meta
meta-made = fresh_meta (codes "a.txt") 10

abbrev meta-written : Meta
meta-written = record {
  path = codes "a.txt";
  size = 5;
  base_end = 0;
  ranges = record { start = 0; end = 5 } ∷ [];
  base = None;
  dirty = true;
  mtime = 20;
  atime = 20;
  intent = Some (record { pos = 0; bytes = hello });
}

-- the slot after these calls, of an image that had nothing
abbrev after : List FileCall → Slot
after calls = record { told = record { first = []; since = calls }; calls = length calls; faults = 0 }

one_more : (c : FileCall) (calls : List FileCall) → length (c ∷ calls) ≡ length calls + 1 → Goes ⊤ c (after calls) (after (c ∷ calls))
one_more c calls e = record { calls = e; told = λ t. refl }

or_none : (b : Bool) → (b || false) ≡ (false || b)
or_none true = refl
or_none false = refl

grown : IsGrown 0 hello 20 meta-made meta-written
grown = record { same = refl; ranges = λ p. or_none (is_in (record { start = 0; end = 5 }) p) }

book-made : (t1 : List ℕ) → Means t1 meta-made → Book ⊤ ⊤ past-made names 0 [] (Some meta-made) (after (Saved t1 ∷ []))
book-made t1 m1 = created (by 10) 1 (started 0 refl (λ t. refl) (λ t. refl)) (one_more (Saved t1) [] refl) m1 refl refl

book-opened : (t1 : List ℕ) → Means t1 meta-made → Book ⊤ ⊤ past-opened names 0 [] (Some meta-made) (after (Saved t1 ∷ []))
book-opened t1 m1 = plain_entry (by 10) 1 (Opened Both) (book-made t1 m1) refl refl

-- the save of a write, whose bytes are an intent
book-saved : (t1 t2 : List ℕ) → Means t1 meta-made → Means t2 meta-written → Book ⊤ ⊤ past-written names 0 [] (Some meta-written) (after (Saved t2 ∷ Saved t1 ∷ []))
book-saved t1 t2 m1 m2 = wrote (by 20) 2 (Bytes hello) (book-opened t1 m1) refl (one_more (Saved t2) (Saved t1 ∷ []) refl) m2 grown
    (record { len = refl; each = λ i h. refl }) refl

-- the bytes are written as well
book-written : (t1 t2 : List ℕ) → Means t1 meta-made → Means t2 meta-written
    → Book ⊤ ⊤ past-written names 0 [] (Some (settled_meta meta-written)) (after (Wrote 0 hello ∷ Saved t2 ∷ Saved t1 ∷ []))
book-written t1 t2 m1 m2 = settled (book-saved t1 t2 m1 m2) refl (one_more (Wrote 0 hello) (Saved t2 ∷ Saved t1 ∷ []) refl) refl

-- a write of the bytes that failed left others, and the intent is pending
book-torn : (t1 t2 : List ℕ) → Means t1 meta-made → Means t2 meta-written
    → Book ⊤ ⊤ past-written names 0 [] (Some meta-written) (after (Wrote 0 (codes "hexxx") ∷ Saved t2 ∷ Saved t1 ∷ []))
book-torn t1 t2 m1 m2 = torn (book-saved t1 t2 m1 m2) refl (record { calls = refl; told = λ t. (codes "hexxx", refl, refl) })

fits : (known : Known) → Fits ⊤ known past-written []
fits known = record { given = tt; saved = (tt, (tt, (tt, tt))) }

of_nothing : (known : Known) → IsOfImage known []
of_nothing known text meta e means = absurd (no_text text e) where
  no_text : (text : List ℕ) → ◌≡◌ {A = Option (List ℕ)} None (Some text) → ⊥
  no_text text h = cc

-- ---- the image after each number of calls

before-create : (known : Known) (t1 t2 : List ℕ) → Means t1 meta-made → Means t2 meta-written → StandsFor known 0 [] [] []
before-create known t1 t2 m1 m2 = images (book-written t1 t2 m1 m2) tt known (fits known) (of_nothing known) 0 (lit≤ tt)

before-save : (known : Known) (t1 t2 : List ℕ) → Means t1 meta-made → Means t2 meta-written → StandsFor known 0 (Saved t1 ∷ []) past-opened names
before-save known t1 t2 m1 m2 = images (book-written t1 t2 m1 m2) tt known (fits known) (of_nothing known) 1 (lit≤ tt)

between-save-and-data : (known : Known) (t1 t2 : List ℕ) → Means t1 meta-made → Means t2 meta-written → StandsFor known 0 (Saved t2 ∷ Saved t1 ∷ []) past-written names
between-save-and-data known t1 t2 m1 m2 = images (book-written t1 t2 m1 m2) tt known (fits known) (of_nothing known) 2 (lit≤ tt)

after-data : (known : Known) (t1 t2 : List ℕ) → Means t1 meta-made → Means t2 meta-written
    → StandsFor known 0 (Wrote 0 hello ∷ Saved t2 ∷ Saved t1 ∷ []) past-written names
after-data known t1 t2 m1 m2 = images (book-written t1 t2 m1 m2) tt known (fits known) (of_nothing known) 3 (lit≤ tt)

after-torn-data : (known : Known) (t1 t2 : List ℕ) → Means t1 meta-made → Means t2 meta-written
    → StandsFor known 0 (Wrote 0 (codes "hexxx") ∷ Saved t2 ∷ Saved t1 ∷ []) past-written names
after-torn-data known t1 t2 m1 m2 = images (book-torn t1 t2 m1 m2) tt known (fits known) (of_nothing known) 3 (lit≤ tt)

-- ---- images that stand for no such history

-- metadata that say the bytes to be there, before they are, and carry no intent
no_intent : (known : Known) (older : Image) (t : List ℕ) → data_in older 0 ≡ None → Means t (settled_meta meta-written)
    → StandsFor known 0 (Saved t ∷ older) past-written names → ⊥
no_intent known older t nobody means s =
    let told = one_saved (s.here (is_here s refl)) refl means in
    none_some 104 (sym nobody ∙ told.present 0 refl) where
      none_some : (b : ℕ) → ◌≡◌ {A = Option ℕ} None (Some b) → ⊥
      none_some b h = cc

-- the write stands from its save on, and not only from its data on
not_older : (known : Known) (older : Image) (t : List ℕ) → Means t meta-written → StandsFor known 0 (Saved t ∷ older) past-opened names → ⊥
not_older known older t means s = five (one_saved (s.here (is_here s refl)) refl means).same.size where
  five : ◌≡◌ {A = ℕ} 5 0 → ⊥
  five h = omega (arith, h)

-- a file that was removed leaves no metadata
not_kept : (known : Known) (older : Image) (t : List ℕ) → StandsFor known 0 (Saved t ∷ older) (made (by 30) 3 Discard ∷ past-written) names → ⊥
not_kept known older t s = some_none t (s.gone refl) where
  some_none : (w : List ℕ) → ◌≡◌ {A = Option (List ℕ)} (Some w) None → ⊥
  some_none w h = cc

-- ---- an object of which a part is written over

abbrev print : Fingerprint
print = record { size = 10; mtime = 7; rev = 1 }

abbrev digits : Known
digits = record { content = λ print. codes "0123456789"; saved = λ p. None }

abbrev past-over : List Entry
past-over = made (by 20) 2 (Write 3 (Bytes (codes "XY"))) ∷ made (by 10) 1 (Opened Both) ∷ made (by 10) 1 (Adopt print) ∷ []

over-content : content_of digits past-over ≡ codes "012XY56789"
over-content = refl

over-content_before : content_of digits (place past-over 1) ≡ codes "0123456789"
over-content_before = refl

-- the time of the last change is the object's own, until a write
over-mtime : mtime_of 0 past-over ≡ 20
over-mtime = refl

over-mtime_before : mtime_of 0 (place past-over 1) ≡ 7
over-mtime_before = refl

abbrev meta-over : Meta
meta-over = record {
  path = codes "a.txt";
  size = 10;
  base_end = 10;
  ranges = record { start = 3; end = 5 } ∷ [];
  base = Some print;
  dirty = true;
  mtime = 20;
  atime = 20;
  intent = Some (record { pos = 3; bytes = codes "XY" });
}

-- nothing of the object was fetched: the image stands for the history by what the object is known to hold
over-stands : (t1 t2 : List ℕ) → Means t1 (adopted_meta (codes "a.txt") print 10) → Means t2 meta-over → StandsFor digits 0 (Saved t2 ∷ Saved t1 ∷ []) past-over names
over-stands t1 t2 m1 m2 = images book tt digits (record { given = ((tt, refl), tt); saved = (tt, (tt, (tt, tt))) }) (of_nothing digits) 2 (lit≤ tt) where
  book-adopted : Book ⊤ ⊤ (made (by 10) 1 (Adopt print) ∷ []) names 0 ((print, codes "0123456789") ∷ []) (Some (adopted_meta (codes "a.txt") print 10)) (after (Saved t1 ∷ []))
  book-adopted = adopted (by 10) 1 (codes "0123456789") (started 0 refl (λ t. refl) (λ t. refl)) (one_more (Saved t1) [] refl) m1 refl refl

  book : Book ⊤ ⊤ past-over names 0 ((print, codes "0123456789") ∷ []) (Some meta-over) (after (Saved t2 ∷ Saved t1 ∷ []))
  book = wrote (by 20) 2 (Bytes (codes "XY")) (plain_entry (by 10) 1 (Opened Both) book-adopted refl refl) refl (one_more (Saved t2) (Saved t1 ∷ []) refl) m2
      (record { same = refl; ranges = λ p. or_none (is_in (record { start = 3; end = 5 }) p) }) (record { len = refl; each = λ i h. refl }) refl
