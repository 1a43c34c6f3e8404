-- How an upload begins and ends in a file's book.
use Rattle.std.proofs.Common.{◌≡◌, ◌<◌, ℕ, ◌+◌, ◌==◌, ◌&&◌, nat_lt, not, if◌then◌else◌, Bool, true, false, Option, Some, None, List, [], ◌∷◌, refl, sym, ap, ◌∙◌, inl, inr, arith, subst}
use Rattle.std.specs.Prelude.{IsSomeAnd, unwrap_or, ◌≢◌}
use Rattle.std.proofs.lemmas.Bool.{true≢false}
use Rattle.std.proofs.lemmas.Bool.Decides.{nat_tests}
use Rattle.byte_ranges.specs.Ranges.{has}
use Rattle.vfs_names.specs.declared.fingerprint.Fingerprint.{Fingerprint}
use Rattle.vfs_names.specs.declared.refusal.Refusal.{Refusal}
use Rattle.vfs_names.specs.declared.refusal.Refusal.TheVariants as refusals
use Rattle.vfs_names.specs.declared.who.By.{By}
use Rattle.vfs_outside.specs.Slot.{Slot}
use Rattle.item_core.specs.declared.entry.Dropped.TheVariants as dropped
use Rattle.item_core.specs.declared.entry.Entry.{Entry}
use Rattle.item_core.specs.declared.entry.FileKind.TheVariants as kinds
use Rattle.item_core.specs.Effects.{is_opened, is_start}
use Rattle.item_core.specs.declared.entry.Upload.{Upload}
use Rattle.item_core.specs.History.{count_of, held_by, is_dirty, is_kept, is_modified, is_owed, size_of, version_of}
use Rattle.item_core.specs.Legal.{Allows, EndsUpload, IsCause, IsLegal}
use Rattle.item_core.proofs.LawProofs.{dirty_kept}
use Rattle.item_meta.specs.declared.meta.Meta.{Meta}
use Rattle.item_image.specs.Entries.{made}
use Rattle.item_image.specs.Next.{uploaded_meta}
use Rattle.item_image.specs.Premise.{Pairs}
use Rattle.item_image.proofs.Change.{uploaded}
use Rattle.base_object.specs.Base.{Base, ObjectFacts, held_by as held_in}
use Rattle.base_object.specs.declared.state.BaseState.TheVariants as states
use Rattle.sparse_item.specs.Fetching.{IsBringCause}
use Rattle.sparse_item.specs.Item.{IsAllHere, Saved}
use Rattle.sparse_item.specs.Moves.{Settles}
use Rattle.sparse_item.specs.Sound.{IsGiven, IsSound, is_begun}
use Rattle.sparse_item.specs.Uploading.{HasStart, IsDroppable, IsOpen, Uploading, dropped_as}
use Rattle.sparse_item.proofs.Moved.{moves_keep}
use Rattle.sparse_item.proofs.Refusals.{stale_tells}

-- ---- the start

more : (b : Bool) (n : ℕ) → 0 < n → 0 < (if b then n + 1 else n)
more true n h = omega arith
more false n h = h

started : (past : List Entry) (start version : ℕ) → HasStart past start version → 0 < count_of is_start past
started [] start version h = absurd h
started (e ∷ older) start version (inl h) = let y : is_start e.kind ≡ true = ap is_start h.1 in rw y (omega arith)
started (e ∷ older) start version (inr h) = more (is_start e.kind) (count_of is_start older) (started older start version h)

-- a file of which an upload began
pub upload_begun : (past : List Entry) (start version : ℕ) → HasStart past start version → is_begun past ≡ true
upload_begun past start version h = some (count_of is_opened past) (count_of is_start past) (started past start version h) where
  some : (a b : ℕ) → 0 < b → nat_lt 0 (a + b) ≡ true
  some a b h = grind (arith, nat_tests)

first_of : (a b : Bool) → (a && b) ≡ true → a ≡ true
first_of true b h = refl
first_of false b h = h

-- a file that is owed is changed, and so is kept
pub owed_kept : (past : List Entry) → IsLegal past → is_owed past ≡ true → is_kept past ≡ true
owed_kept past legal owed = dirty_kept past legal (first_of (is_dirty past) (not (is_modified past)) owed)

pub may_begin : (past : List Entry) (by : By) → IsLegal past → is_owed past ≡ true → Allows past (kinds.UploadStart (version_of past)) by
may_begin past by legal owed = (owed_kept past legal owed, owed, refl)

-- ---- why a block is refused

-- an upload may be dropped for that for which bytes of the object can't be had
pub ends_cause : (lacks : Type 0) (past : List Entry) (old new : Base) (s t : Slot) (why : Refusal) → held_in old.state ≡ held_by past → IsBringCause lacks old new s t why → EndsUpload (held_by past) why
ends_cause lacks past old new s t (refusals.Stale held what) h c = stale_tells lacks past old new s t (refusals.Stale held what) h c
ends_cause lacks past old new s t refusals.RemoteFault h c = tt
ends_cause lacks past old new s t refusals.NoMemory h c = tt
ends_cause lacks past old new s t refusals.DiskFault h c = tt
ends_cause lacks past old new s t refusals.NotFound h c = tt
ends_cause lacks past old new s t refusals.HistoryFull h c = tt
ends_cause lacks past old new s t refusals.Exists h c = absurd c
ends_cause lacks past old new s t refusals.IsDir h c = absurd c
ends_cause lacks past old new s t refusals.NotDir h c = absurd c
ends_cause lacks past old new s t refusals.NotEmpty h c = absurd c
ends_cause lacks past old new s t refusals.BadHandle h c = absurd c
ends_cause lacks past old new s t refusals.NotReadable h c = absurd c
ends_cause lacks past old new s t refusals.NotWritable h c = absurd c
ends_cause lacks past old new s t refusals.TableFull h c = absurd c
ends_cause lacks past old new s t refusals.InUse h c = absurd c
ends_cause lacks past old new s t refusals.Unsupported h c = absurd c
ends_cause lacks past old new s t refusals.TooBig h c = absurd c

-- ---- the end by a save

none_given : (shows : Type 0) (pairs : Pairs) (o : Option ObjectFacts) → o ≡ None → IsGiven shows pairs o
none_given shows pairs o e = subst (λ (x : Option ObjectFacts). IsGiven shows pairs x) (sym e) tt

pub uploaded_sound : {tells shows : Type 0} {past : List Entry} {names : List (List ℕ)} {saved : Saved} {pairs : Pairs} {m m' : Meta} {s t : Slot} {base base' : Base} {atime : ℕ}
    (by : By) (at start : ℕ) (print : Fingerprint) → IsSound tells shows past names saved pairs (Some m) s base atime → Settles tells m s m' t → m' ≡ uploaded_meta print m
    → IsAllHere m.ranges (size_of past) → at ≡ t.calls → base'.state ≡ states.Unbound print → base'.object ≡ None
    → IsSound tells shows (made by at (kinds.Uploaded start print) ∷ past) names saved pairs (Some m') t base' atime
uploaded_sound {shows = shows} {past = past} {pairs = pairs} {m = m} {base' = base'} by at start print b settles is whole at_is state object = record {
  book = uploaded by at start (moves_keep settles.settled b.book) refl (λ p lt. whole p (omega (arith, lt, b.book.kept.1.size))) settles.saved.goes settles.saved.means is at_is;
  held = ap held_in state ∙ sym (ap (λ (k : Bool). if k then Some print else None) b.book.kept.0);
  given = none_given shows pairs base'.object object;
  supplied = λ x k. inr (λ p lt. ap (λ (x : Meta). has x.ranges p) is ∙ whole p lt);
  used = b.used;
}

pub saved_kept : (past : List Entry) (start : ℕ) (print : Fingerprint) (by : By) → IsLegal past → Allows past (kinds.Uploaded start print) by → is_kept past ≡ true
saved_kept past start print by legal allows = dirty_kept past legal allows.1

-- ---- the end by a drop

same_version : (a b : ℕ) → (a == b) ≡ true → a ≡ b
same_version a b h = grind (arith, nat_tests)

other_version : (a b : ℕ) → (a == b) ≡ false → a ≢ b
other_version a b h e = true≢false (sym (same a b e) ∙ h) where
  same : (a b : ℕ) → a ≡ b → (a == b) ≡ true
  same a b e = grind (arith, nat_tests)

kept_why : (held : Option Fingerprint) (why : Option Refusal) → IsSomeAnd why (EndsUpload held) → EndsUpload held (unwrap_or why refusals.NotFound)
kept_why held None h = absurd h
kept_why held (Some why) h = h

drop_cause : (past : List Entry) (upload : Uploading) (same dirty : Bool) → (upload.version == version_of past) ≡ same → is_dirty past ≡ dirty → IsDroppable past upload
    → IsCause (held_by past) (if same then (if dirty then dropped.Refused (unwrap_or upload.why refusals.NotFound) else dropped.Refused refusals.NotFound) else dropped.Cancelled upload.version (version_of past))
    upload.version (version_of past)
drop_cause past upload false dirty v d may = (refl, refl, other_version upload.version (version_of past) v)
drop_cause past upload true false v d may = (tt, same_version upload.version (version_of past) v)
drop_cause past upload true true v d (inl other) = absurd (other (same_version upload.version (version_of past) v))
drop_cause past upload true true v d (inr (inl clean)) = absurd (true≢false (sym d ∙ clean))
drop_cause past upload true true v d (inr (inr kept)) = (kept_why (held_by past) upload.why kept, same_version upload.version (version_of past) v)

pub may_drop : (past : List Entry) (upload : Uploading) (by : By) → IsOpen past by.pass upload → IsDroppable past upload
    → Allows past (kinds.UploadDropped upload.start (dropped_as past upload)) by
may_drop past upload by is may =
    subst (λ (o : Option Upload). IsSomeAnd o (λ u. (u.pass ≡ by.pass) × IsCause (held_by past) (dropped_as past upload) u.version (version_of past))) (sym is)
    (refl, drop_cause past upload (upload.version == version_of past) (is_dirty past) refl refl may)
