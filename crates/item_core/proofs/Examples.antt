-- Histories as their facts, bytes and answers are computed by the definitions. Each is written with its newest entry first.
use Rattle.std.proofs.Common.{◌≡◌, ℕ, ◌-◌, ◌^◌, true, false, Option, Some, None, List, zero, suc, [], ◌∷◌, codes, refl, ap, arith, lit≤, lit<, ◌<◌}
use Rattle.vfs_names.specs.declared.calls.Access.TheVariants.{Both}
use Rattle.vfs_names.specs.declared.fingerprint.Fingerprint.{Fingerprint}
use Rattle.vfs_names.specs.declared.payload.Payload.TheVariants.{Bytes, Fill}
use Rattle.vfs_names.specs.declared.refusal.Found.TheVariants as found
use Rattle.vfs_names.specs.declared.refusal.Refusal.TheVariants as refusals
use Rattle.vfs_names.specs.declared.refusal.Verb.TheVariants as verbs
use Rattle.vfs_names.specs.declared.who.Actor.TheVariants.{Session}
use Rattle.item_core.specs.declared.entry.Entry.{Entry}
use Rattle.item_core.specs.declared.entry.FileKind.{FileKind}
use Rattle.item_core.specs.declared.entry.FileKind.TheVariants.{Create, Recovered, Adopt, Write, SetSize, Read, Opened, Closed, Rename, UploadStart, Uploaded, Evict, Discard, Refused}
use Rattle.item_core.specs.History.{size_of, base_end_of, held_by, is_dirty, version_of, opens_of, opens_by, is_modified, is_owed, begun_of, Upload, upload_at, place}
use Rattle.item_core.specs.Content.{Known, byte_at, content_of}
use Rattle.item_core.specs.Legal.{MayFollow, IsLegal, IsTimely}
use Rattle.item_core.specs.Names.{name_of, names_at, atime_of}
use Rattle.item_core.specs.Answer.{bytes, answer_of}

-- an entry that pass 2 made under the tree's lock as well
abbrev made : ℕ → ℕ → FileKind → Entry
made now at kind = record { by = record { who = record { epoch = 0; phase = 1; actor = Session 1 }; pass = 2; tree = true; now = now }; at = at; kind = kind }

-- the remote's only content is `remote`, and the cache saved nothing
abbrev known : Known
known = record { content = λ print. codes "remote"; saved = λ p. None }

-- a file is made, opened, written and read
abbrev written : List Entry
written = made 30 2 (Write 0 (Bytes (codes "hello"))) ∷ made 20 1 (Opened Both) ∷ made 20 1 Create ∷ []

abbrev finished : List Entry
finished = made 50 2 Closed ∷ made 40 2 (Read 1 100) ∷ written

is_legal : IsLegal finished
is_legal = (
  record { allowed = (refl, lit< tt); later = lit≤ tt },
  (
    record { allowed = (refl, lit< tt, lit≤ tt); later = lit≤ tt },
    (
      record { allowed = (refl, lit< tt, lit≤ tt, lit≤ tt); later = lit≤ tt },
      (
        record { allowed = (refl, refl); later = lit≤ tt },
        (record { allowed = (refl, refl, refl); later = lit≤ tt }, tt),
      ),
    ),
  ),
)

is_timely : IsTimely finished
is_timely = ((lit≤ tt, lit≤ tt), ((lit≤ tt, lit≤ tt), ((lit≤ tt, lit≤ tt), ((lit≤ tt, lit≤ tt), (tt, tt)))))

finished-content : content_of known finished ≡ codes "hello"
finished-content = refl

finished-size : size_of finished ≡ 5
finished-size = refl

finished-version : version_of finished ≡ 2
finished-version = refl

read-answer : answer_of known written (Read 1 100) ≡ bytes (codes "ello")
read-answer = refl

-- the file is modified until its last close, and owed from then on
written-modified : is_modified written ≡ true
written-modified = refl

finished-modified : is_modified finished ≡ false
finished-modified = refl

written-owed : is_owed written ≡ false
written-owed = refl

finished-owed : is_owed finished ≡ true
finished-owed = refl

written-opens : opens_of written ≡ 1
written-opens = refl

written-opens_by_other : opens_by 3 written ≡ 0
written-opens_by_other = refl

finished-opens : opens_of finished ≡ 0
finished-opens = refl

finished-atime : atime_of 7 finished ≡ 50
finished-atime = refl

-- after one call on the cache file the file was made and opened
finished-place : place finished 1 ≡ made 20 1 (Opened Both) ∷ made 20 1 Create ∷ []
finished-place = refl

-- what a cut takes away doesn't come back when the file grows
abbrev grown : List Entry
grown = made 50 4 (SetSize 8) ∷ made 40 3 (SetSize 2) ∷ written

grown-content : content_of known grown ≡ 104 ∷ 101 ∷ 0 ∷ 0 ∷ 0 ∷ 0 ∷ 0 ∷ 0 ∷ []
grown-content = refl

-- the last byte that a file may have
abbrev largest : List Entry
largest = made 50 3 (Write (2 ^ 40 - 1) (Fill 120 1)) ∷ written

largest-size : size_of largest ≡ 2 ^ 40
largest-size = refl

largest-byte : byte_at known largest (2 ^ 40 - 1) ≡ 120
largest-byte = refl

largest-byte_before : byte_at known largest (2 ^ 40 - 2) ≡ 0
largest-byte_before = refl

-- an upload begins at index 5 and ends: nothing is dirty, and the object is held
abbrev print : Fingerprint
print = record { size = 5; mtime = 60; rev = 1 }

abbrev begun : List Entry
begun = made 60 2 (UploadStart 2) ∷ finished

abbrev uploaded : List Entry
uploaded = made 70 3 (Uploaded 5 print) ∷ begun

begun-upload : upload_at begun 5 ≡ Some (record { version = 2; pass = 2 })
begun-upload = refl

begun-count : begun_of begun ≡ 1
begun-count = refl

uploaded-count : begun_of uploaded ≡ 0
uploaded-count = refl

uploaded-dirty : is_dirty uploaded ≡ false
uploaded-dirty = refl

uploaded-held : held_by uploaded ≡ Some print
uploaded-held = refl

uploaded-base_end : base_end_of uploaded ≡ 5
uploaded-base_end = refl

abbrev noted : Option Upload → ℕ
noted None = 0
noted (Some upload) = upload.version

differ : (a b : ℕ) → a < b → a ≡ b → ⊥
differ a b lt e = omega arith

-- no upload is saved after a later write, and no dirty file is evicted
no_save_after_write : MayFollow (made 65 3 (SetSize 5) ∷ begun) (made 70 4 (Uploaded 5 print)) → ⊥
no_save_after_write m = differ 2 3 (lit< tt) (ap noted m.allowed.3)

no_evict_of_dirty : MayFollow finished (made 60 3 Evict) → ⊥
no_evict_of_dirty m = let lie : true ≡ false = m.allowed.1 in cc

-- an adopted object gives the bytes below its end, and a stale refusal tells it and no other
abbrev base : Fingerprint
base = record { size = 6; mtime = 1; rev = 1 }

abbrev adopted : List Entry
adopted = made 10 1 (Adopt base) ∷ []

adopted-content : content_of known adopted ≡ codes "remote"
adopted-content = refl

abbrev length_held : Option Fingerprint → ℕ
length_held None = 0
length_held (Some held) = held.size

no_other_held : MayFollow adopted (made 20 1 (Refused verbs.Read (refusals.Stale (record { size = 9; mtime = 9; rev = 9 }) found.Missing))) → ⊥
no_other_held m = differ 6 9 (lit< tt) (ap length_held m.allowed.0)

-- the saved bytes stand before those of the base, and past its end there are none
abbrev saved : Known
saved = record { content = λ print. codes "remote"; saved = elim [ zero ↦ Some 88 | suc p ↦ None ] }

recovered-content : content_of saved (made 10 0 (Recovered 8 4 true (Some base)) ∷ []) ≡ 88 ∷ 101 ∷ 109 ∷ 111 ∷ 0 ∷ 0 ∷ 0 ∷ 0 ∷ []
recovered-content = refl

-- a file's path is that of its last rename, or of the last file that began at its item
abbrev renamed : List Entry
renamed = made 30 3 (Rename (codes "b")) ∷ made 20 2 Discard ∷ made 10 1 Create ∷ []

renamed-name : name_of renamed (codes "a" ∷ []) ≡ Some (codes "b")
renamed-name = refl

renamed-name_before : name_of (place renamed 1) (names_at renamed 1 (codes "a" ∷ [])) ≡ Some (codes "a")
renamed-name_before = refl
