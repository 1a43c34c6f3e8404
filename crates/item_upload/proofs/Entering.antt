-- What one upload adds to a file's history, and what was said of the file before its start.
use Rattle.std.proofs.Common.{◌≡◌, ℕ, zero, suc, not, if◌then◌else◌, Bool, true, Option, Some, List, ◌∷◌, length, Result, Ok, Err, refl, sym, ap, ◌∙◌, inl, inr, arith, subst}
use Rattle.std.specs.Prelude.{◌↔◌, IsSomeAnd, OnOk}
use Rattle.std.proofs.lemmas.Bool.{and_parts, eq-eqb}
use Rattle.byte_ranges.specs.Ranges.{has}
use Rattle.vfs_names.specs.declared.fingerprint.Fingerprint.{Fingerprint}
use Rattle.vfs_names.specs.declared.refusal.Refusal.{Refusal}
use Rattle.vfs_names.specs.declared.refusal.Refusal.TheVariants as refusals
use Rattle.vfs_names.specs.declared.who.By.{By}
use Rattle.vfs_names.specs.declared.who.ItemId.{ItemId}
use Rattle.vfs_outside.specs.Image.{Image}
use Rattle.vfs_outside.specs.Outside.{Outside}
use Rattle.item_core.specs.declared.entry.Dropped.{Dropped}
use Rattle.item_core.specs.declared.entry.Dropped.TheVariants as dropped
use Rattle.item_core.specs.declared.entry.Entry.{Entry}
use Rattle.item_core.specs.declared.entry.FileKind.TheVariants as kinds
use Rattle.item_core.specs.Content.{Known, byte_at, bytes_at, content_of}
use Rattle.item_core.specs.History.{base_end_of, held_by, is_dirty, is_modified, is_owed, size_of, upload_at, version_of}
use Rattle.item_core.specs.Legal.{EndsUpload}
use Rattle.item_image.specs.Entries.{made}
use Rattle.item_image.specs.Premise.{Fits, IsHanded, IsOfImage}
use Rattle.item_image.proofs.Premises.{handed_entry}
use Rattle.base_object.specs.Base.{Base, IsLaterOf}
use Rattle.base_object.specs.Pulls.{Loses}
use Rattle.base_object.proofs.WholeRead.{later_same}
use Rattle.item_upload.specs.declared.whole.Ended.TheVariants.{Saved, Dropped as DroppedFor, Unbegun}
use Rattle.item_upload.specs.declared.ending.Finished.{Finished}
use Rattle.item_upload.specs.declared.ending.Finished.TheVariants.{Done, Cancelled}
use Rattle.item_upload.specs.Finishing.{IsCommitted, IsContent}
use Rattle.item_upload.specs.Whole.{EntersUpload, IsCurrent, LeavesBase, MayCommitWhole, MayHandWhole, UploadsWhole, with_start}
use Rattle.item_upload.proofs.Carrying.{StaysFile, handed_as}
use Rattle.item_upload.proofs.Stopping.{IsEarlier}
use Rattle.sparse_item.specs.Answers.{Enters}
use Rattle.sparse_item.specs.Item.{Item}
use Rattle.sparse_item.proofs.Refusals.{same_refusal}
use Rattle.sparse_item.specs.Uploading.{IsDroppable, IsOf, IsOpen, Uploading, begun_upload, dropped_as}

-- ---- after the start

-- a file that is owed is changed
pub owed_dirty : (past : List Entry) → is_owed past ≡ true → is_dirty past ≡ true
owed_dirty past owed = (and_parts (is_dirty past) (not (is_modified past)) owed).0

-- the history after the start, by the file before it
pub started : (by : By) (first item : Item) → item ≡ record first { log = item.log } → Enters by (kinds.UploadStart (version_of first.log.past)) first item → item.log.past ≡ with_start by first
started by first item same enters = enters ∙ ap (λ (v : Item). made by v.slot.calls (kinds.UploadStart (version_of first.log.past)) ∷ first.log.past) same

pub started_current : (by : By) (first item : Item) (u : Uploading) → is_owed first.log.past ≡ true → item.log.past ≡ with_start by first → u ≡ begun_upload first.id first.log.past → IsCurrent item u
started_current by first item u owed start is = record {
  begun = subst (λ (xs : List Entry). IsOf xs u) (sym start) (subst (λ (x : Uploading). IsOf (with_start by first) x) (sym is) (inl (refl, refl)));
  present = ap (λ (x : Uploading). x.version) is ∙ sym (ap version_of start);
  dirty = ap is_dirty start ∙ owed_dirty first.log.past owed;
  size = ap (λ (x : Uploading). x.size) is ∙ sym (ap size_of start);
}

open_at : (by : By) (at version : ℕ) (past : List Entry)
    → upload_at (made by at (kinds.UploadStart version) ∷ past) (length past) ≡ Some (record { version = version; pass = by.pass })
open_at by at version past =
    ap (λ (b : Bool). if b then Some (record { version = version; pass = by.pass }) else upload_at past (length past)) (eq-eqb (length past) (length past) refl)

pub started_open : (by : By) (first item : Item) (u : Uploading) → item.log.past ≡ with_start by first → u ≡ begun_upload first.id first.log.past → IsOpen item.log.past by.pass u
started_open by first item u start is =
    subst (λ (xs : List Entry). IsOpen xs by.pass u) (sym start)
    (subst (λ (x : Uploading). IsOpen (with_start by first) by.pass x) (sym is) (open_at by first.slot.calls (version_of first.log.past) first.log.past))

pub started_earlier : (by : By) (first item : Item) → item ≡ record first { log = item.log } → item.log.past ≡ with_start by first → IsEarlier first item
started_earlier by first item same start = record {
  faults = let e : item.slot.faults ≡ first.slot.faults = ap (λ (v : Item). v.slot.faults) same in omega (arith, e);
  object = subst (λ (v : Item). IsLaterOf first.base.object v.base.object) (sym same) (later_same first.base.object);
  state = ap (λ (v : Item). v.base.state) same;
  here = λ p h. ap (λ (v : Item). has v.here p) same ∙ h;
  end = ap base_end_of start;
}

-- ---- the end of an upload that began there

-- it has the same start and version, and only what it keeps is another
pub still_open : (past past' : List Entry) (pass : ℕ) (u v : Uploading) (why : Option Refusal) → past' ≡ past → v ≡ record u { why = why } → IsOpen past pass u → IsOpen past' pass v
still_open past past' pass u v why same is h =
    subst (λ (x : Uploading). IsOpen past' pass x) (sym is) (subst (λ (xs : List Entry). IsOpen xs pass u) (sym same) h)

pub droppable : (past past' : List Entry) (u v : Uploading) (why : Refusal) → past' ≡ past → v ≡ record u { why = Some why } → EndsUpload (held_by past) why → IsDroppable past' v
droppable past past' u v why same is ends =
    inr (inr (subst (λ (o : Option Refusal). IsSomeAnd o (EndsUpload (held_by past'))) (sym (ap (λ (x : Uploading). x.why) is)) (subst (λ (xs : List Entry). EndsUpload (held_by xs) why) (sym same) ends)))

pub enters_saved : (by : By) (first item new : Item) (u : Uploading) (print : Fingerprint) → item.log.past ≡ with_start by first → u ≡ begun_upload first.id first.log.past
    → Enters by (kinds.Uploaded u.start print) item new → EntersUpload by first new (Saved print)
enters_saved by first item new u print start is enters =
    enters ∙ ap (λ (x : Uploading). made by new.slot.calls (kinds.Uploaded x.start print) ∷ item.log.past) is
    ∙ ap (λ (xs : List Entry). made by new.slot.calls (kinds.Uploaded (length first.log.past) print) ∷ xs) start

drops_for : (by : By) (at : ℕ) (id : ItemId) (past : List Entry) (why : Refusal) → is_dirty past ≡ true
    → dropped_as (made by at (kinds.UploadStart (version_of past)) ∷ past) (record (begun_upload id past) { why = Some why }) ≡ dropped.Refused why
drops_for by at id past why dirty =
    ap (λ (b : Bool). if b then (if is_dirty past then dropped.Refused why else dropped.Refused refusals.NotFound) else dropped.Cancelled (version_of past) (version_of past))
    (eq-eqb (version_of past) (version_of past) refl)
    ∙ ap (λ (b : Bool). if b then dropped.Refused why else dropped.Refused refusals.NotFound) dirty

pub enters_dropped : (by : By) (first mid new : Item) (u : Uploading) (why : Refusal) → is_owed first.log.past ≡ true → mid.log.past ≡ with_start by first
    → u ≡ record (begun_upload first.id first.log.past) { why = Some why } → Enters by (kinds.UploadDropped u.start (dropped_as mid.log.past u)) mid new → EntersUpload by first new (DroppedFor why)
enters_dropped by first mid new u why owed start is enters =
    enters ∙ ap (λ (x : Uploading). made by new.slot.calls (kinds.UploadDropped x.start (dropped_as mid.log.past x)) ∷ mid.log.past) is
    ∙ ap (λ (xs : List Entry). made by new.slot.calls (kinds.UploadDropped (length first.log.past) (dropped_as xs (record (begun_upload first.id first.log.past) { why = Some why }))) ∷ xs) start
    ∙ ap (λ (d : Dropped). made by new.slot.calls (kinds.UploadDropped (length first.log.past) d) ∷ with_start by first)
    (drops_for by first.slot.calls first.id first.log.past why (owed_dirty first.log.past owed))

-- ---- the content before and after the start

quiet_bytes : (known : Known) (by : By) (at version : ℕ) (past : List Entry) (pos n : ℕ) → bytes_at known (made by at (kinds.UploadStart version) ∷ past) pos n ≡ bytes_at known past pos n
quiet_bytes known by at version past pos zero = refl
quiet_bytes known by at version past pos (suc n) = ap (λ (bs : List ℕ). byte_at known past pos ∷ bs) (quiet_bytes known by at version past (suc pos) n)

-- what is the content after the start was so before it
pub content_started : {tells shows : Type 0} (by : By) (first item : Item) (bytes : List ℕ) → item ≡ record first { log = item.log } → item.log.past ≡ with_start by first
    → IsContent tells shows item bytes → IsContent tells shows first bytes
content_started {tells} {shows} by first item bytes same start h =
    let there = subst (λ (v : Item). IsContent tells shows v bytes) same h in
    let begun = subst (λ (xs : List Entry). tells → (known : Known) → Fits shows known xs first.pairs → IsOfImage known first.slot.told.first → bytes ≡ content_of known xs) start there in
    λ t known fits image. begun t known (record { given = fits.given; saved = (tt, fits.saved) }) image
    ∙ quiet_bytes known by first.slot.calls (version_of first.log.past) first.log.past 0 (size_of first.log.past)

pub committed_started : (by : By) (first item : Item) (bytes : List ℕ) (a b : Outside) (print : Fingerprint) → item ≡ record first { log = item.log } → item.log.past ≡ with_start by first
    → IsCommitted item bytes a b print → IsCommitted first bytes a b print
committed_started by first item bytes a b print same start h =
    let there = subst (λ (v : Item). IsCommitted v bytes a b print) same h in
    subst (λ (xs : List Entry). IsCommitted (record first { log = record first.log { past = xs } }) bytes a b print) start there

-- ---- what an upload leaves, by the file before its start

pub uploads_started : {tells store shows : Type 0} (by : By) (first item : Item) (a b : Outside) (print : Fingerprint) → item ≡ record first { log = item.log } → item.log.past ≡ with_start by first
    → UploadsWhole tells store shows item a b print → UploadsWhole tells store shows first a b print
uploads_started by first item a b print same start u = record {
  bytes = u.bytes;
  handed = u.handed;
  content = λ s. content_started by first item u.bytes same start (u.content s);
  put = λ s. committed_started by first item u.bytes a b print same start (u.put s);
}

pub commits_started : {tells shows : Type 0} (by : By) (first item : Item) (a b : Outside) → item ≡ record first { log = item.log } → item.log.past ≡ with_start by first
    → MayCommitWhole tells shows item a b → MayCommitWhole tells shows first a b
commits_started by first item a b same start (inl none) = inl none
commits_started by first item a b same start (inr u) = inr (record {
  print = u.print;
  bytes = u.bytes;
  content = content_started by first item u.bytes same start u.content;
  put = committed_started by first item u.bytes a b u.print same start u.put;
})

pub hands_started : {tells store shows : Type 0} (by : By) (first item : Item) (a b : Outside) → item ≡ record first { log = item.log } → item.log.past ≡ with_start by first
    → MayHandWhole tells store shows item a b → MayHandWhole tells store shows first a b
hands_started by first item a b same start (inl none) = inl none
hands_started by first item a b same start (inr u) = inr (record {
  print = u.print;
  bytes = u.bytes;
  content = λ s. content_started by first item u.bytes same start (u.content s);
  handed = u.handed;
})

-- only entries were added
pub stays_noted : (old new : Item) → new ≡ record old { log = new.log } → StaysFile old new
stays_noted old new same = subst (λ (v : Item). StaysFile old v) (sym same) refl

pub leaves_dropped : (first item mid new : Base) (why : Refusal) → item ≡ first → new ≡ mid → IsLaterOf item.object mid.object → Loses {T = Fingerprint} (Err why) item.state mid.state
    → LeavesBase first new (DroppedFor why)
leaves_dropped first item mid new why before after later loses =
    subst (λ (b : Base). LeavesBase first b (DroppedFor why)) (sym after) (subst (λ (b : Base). LeavesBase b mid (DroppedFor why)) before (later, loses))

-- ---- a history whose uploads are shown to be whole

-- what is carried on after the start is carried on from before it
pub whole_started : (by : By) (shows : Type 0) (first item new : Item) (a b : Outside) → item ≡ record first { log = item.log } → item.log.past ≡ with_start by first
    → (IsHanded shows a.handed item.slot.told.first item.log.past item.pairs → IsHanded shows b.handed item.slot.told.first new.log.past new.pairs)
    → IsHanded shows a.handed first.slot.told.first first.log.past first.pairs → IsHanded shows b.handed first.slot.told.first new.log.past new.pairs
whole_started by shows first item new a b same start carries is =
    let image : item.slot.told.first ≡ first.slot.told.first = ap (λ (v : Item). v.slot.told.first) same in
    let begun = handed_entry shows a.handed first.slot.told.first first.log.past first.pairs by first.slot.calls (kinds.UploadStart (version_of first.log.past)) is refl in
    let there = handed_as shows first.slot.told.first item.slot.told.first (with_start by first) item.log.past first.pairs item.pairs a.handed a.handed image refl start (ap (λ (v : Item). v.pairs) same) begun in
    handed_as shows item.slot.told.first first.slot.told.first new.log.past new.log.past new.pairs new.pairs b.handed b.handed (sym image) refl refl refl (carries there)

pub handed_dropped : (by : By) (shows : Type 0) (first : Image) (mid new : Item) (b : Outside) (u : Uploading) → new ≡ record mid { log = new.log }
    → Enters by (kinds.UploadDropped u.start (dropped_as mid.log.past u)) mid new → IsHanded shows b.handed first mid.log.past mid.pairs → IsHanded shows b.handed first new.log.past new.pairs
handed_dropped by shows first mid new b u same enters is =
    let ended = handed_entry shows b.handed first mid.log.past mid.pairs by new.slot.calls (kinds.UploadDropped u.start (dropped_as mid.log.past u)) is refl in
    handed_as shows first first (made by new.slot.calls (kinds.UploadDropped u.start (dropped_as mid.log.past u)) ∷ mid.log.past) new.log.past mid.pairs new.pairs b.handed b.handed refl refl enters
    (ap (λ (v : Item). v.pairs) same) ended

-- ---- which it is

not_both : {T : Type 0} (result : Result T Refusal) (x : T) (why : Refusal) → result ≡ Ok x → result ≡ Err why → ⊥
not_both result x why ok err = cc

not_saved : (print : Fingerprint) (why : Refusal) → Saved print ≡ Unbegun why → ⊥
not_saved print why e = cc

not_dropped : (what why : Refusal) → DroppedFor what ≡ Unbegun why → ⊥
not_dropped what why e = cc

same_unbegun : (a b : Refusal) → Unbegun a ≡ Unbegun b → a ≡ b
same_unbegun a b e = cc

pub never_cancelled : (result : Result Finished Refusal) (was now : ℕ) → result ≡ Ok (Cancelled was now) → OnOk result ((print : Fingerprint) × (result ≡ Ok (Done print))) → ⊥
never_cancelled (Ok f) was now is done = let e : Ok f ≡ Ok (Done done.0) = done.1 in cc
never_cancelled (Err why) was now is done = cc

pub saved_full : (T full : Type 0) (result : Result T Refusal) (x : T) (print : Fingerprint) → result ≡ Ok x → (result ≡ Err refusals.HistoryFull) ↔ full → (Saved print ≡ Unbegun refusals.HistoryFull) ↔ full
saved_full T full result x print is iff = (λ e. absurd (not_saved print refusals.HistoryFull e), λ few. absurd (not_both result x refusals.HistoryFull is (iff.1 few)))

pub dropped_full : (T full : Type 0) (result : Result T Refusal) (x : T) (why : Refusal) → result ≡ Ok x → (result ≡ Err refusals.HistoryFull) ↔ full → (DroppedFor why ≡ Unbegun refusals.HistoryFull) ↔ full
dropped_full T full result x why is iff = (λ e. absurd (not_dropped why refusals.HistoryFull e), λ few. absurd (not_both result x refusals.HistoryFull is (iff.1 few)))

pub unbegun_full : (T full : Type 0) (result : Result T Refusal) (why : Refusal) → result ≡ Err why → (result ≡ Err refusals.HistoryFull) ↔ full → (Unbegun why ≡ Unbegun refusals.HistoryFull) ↔ full
unbegun_full T full result why is iff = (
  λ e. iff.0 (is ∙ ap (λ (w : Refusal). Err w) (same_unbegun why refusals.HistoryFull e)),
  λ few. ap (λ (w : Refusal). Unbegun w) (same_refusal why refusals.HistoryFull result result refl is (iff.1 few)),
)
