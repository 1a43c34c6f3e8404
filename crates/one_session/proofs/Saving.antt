-- Each upload of a file saved the content that the file had then: this stays so after a call.
use Rattle.std.proofs.Common.{◌≡◌, ◌⊎◌, ◌<◌, ◌≤◌, ℕ, ◌++◌, ◌∙◌, ap, sym, refl, subst, inl, inr, arith, Bool, true, false, leb, Option, List, [], ◌∷◌, length, map, reverse, true≢false}
use Rattle.std.specs.List.{AllByRecursion}
use Rattle.std.proofs.lemmas.Bool.Decides.{leb_tells}
use Rattle.std.proofs.lemmas.List.{reverse-append}
use Rattle.vfs_names.specs.declared.calls.Access.{Access}
use Rattle.vfs_names.specs.declared.calls.How.{How}
use Rattle.vfs_names.specs.declared.fingerprint.Fingerprint.{Fingerprint}
use Rattle.vfs_names.specs.declared.who.By.{By}
use Rattle.item_core.specs.Content.{IsSavedWhole, Known, SavesContent}
use Rattle.item_core.specs.declared.entry.Entry.{Entry}
use Rattle.item_core.specs.declared.entry.FileKind.{FileKind}
use Rattle.item_core.specs.declared.entry.FileKind.TheVariants as file
use Rattle.item_image.specs.Entries.{is_saving}
use Rattle.item_image.specs.Premise.{Holds}
use Rattle.session_script.specs.declared.call.Call.{Call}
use Rattle.session_script.specs.declared.call.Call.TheVariants as call
use Rattle.session_text.specs.declared.reply.Record.{Record}
use Rattle.one_session.specs.Calls.{AddsOne, Begins, FileDoes, OpensAs, in_file}
use Rattle.one_session.specs.Causes.{AreSaved}
use Rattle.one_session.specs.Did.{Did, Grows}
use Rattle.one_session.specs.Served.{file_phase, in_file_of, place_in}
use Rattle.one_session.specs.Sound.{IsSound}
use Rattle.one_session.specs.State.{History, State, entries_in}
use Rattle.vfs_outside.specs.declared.tree.TreeEntry.{TreeEntry}
use Rattle.one_session.specs.Whole.{IsUpTo}
use Rattle.one_session.specs.declared.handle.Handle.{Handle}
use Rattle.one_session.proofs.Keeping.{none_past}
use Rattle.one_session.proofs.Makers.{stored_no_later}
use Rattle.one_session.proofs.Serving.{holds_part}

-- none of these entries is that of an upload that saved
abbrev pub AreUnsaving : List Entry → Type 0
AreUnsaving [] = Unit {0}
AreUnsaving (e ∷ es) = (is_saving e.kind ≡ false) × AreUnsaving es

saves_nothing : (known : Known) (past : List Entry) (kind : FileKind) → is_saving kind ≡ false → SavesContent known past kind
saves_nothing known past (file.Uploaded start print) h = absurd (true≢false h)
saves_nothing known past _ h = tt

pub whole_more : (known : Known) (es past : List Entry) → AreUnsaving es → IsSavedWhole known past → IsSavedWhole known (es ++ past)
whole_more known [] past q w = w
whole_more known (e ∷ es) past q w = (saves_nothing known (es ++ past) e.kind q.0, whole_more known es past q.1 w)

one_unsaving : (by : By) (under : Bool) (kind : FileKind) (added : List Entry) → is_saving kind ≡ false → AddsOne by under kind added → AreUnsaving (reverse added)
one_unsaving by under kind added quiet a = subst (λ l. AreUnsaving (reverse l)) (sym a.1) (quiet, tt)

front_unsaving : (by : By) (at : ℕ) (access : Access) (front : List FileKind) → Begins front → AreUnsaving (reverse (map (in_file by true at) (front ++ file.Opened access ∷ [])))
front_unsaving by at access front (inl e) = subst (λ f. AreUnsaving (reverse (map (in_file by true at) (f ++ file.Opened access ∷ [])))) (sym e) (refl, tt)
front_unsaving by at access front (inr (inl e)) = subst (λ f. AreUnsaving (reverse (map (in_file by true at) (f ++ file.Opened access ∷ [])))) (sym e) (refl, (refl, tt))
front_unsaving by at access front (inr (inr (inl (print, e)))) = subst (λ f. AreUnsaving (reverse (map (in_file by true at) (f ++ file.Opened access ∷ [])))) (sym e) (refl, (refl, tt))
front_unsaving by at access front (inr (inr (inr (print, e)))) = subst (λ f. AreUnsaving (reverse (map (in_file by true at) (f ++ file.Opened access ∷ [])))) (sym e) (refl, (refl, tt))

opens_unsaving : (by : By) (how : How) (added : List Entry) → OpensAs by how added → AreUnsaving (reverse added)
opens_unsaving by how added o = subst (λ l. AreUnsaving (reverse l)) (sym o.3) (front_unsaving by o.0 how.access o.1 o.2)

-- what a call adds to a file is no upload's
unsaving : (holds : Known → Type 0) (by : By) (c : Call) (done : Record) (before added : List Entry) → FileDoes holds by c done before added → AreUnsaving (reverse added)
unsaving holds by (call.Open h path how) done before added d = opens_unsaving by how added d.1
unsaving holds by (call.Read h pos len) done before added (inl d) = one_unsaving by false (file.Read pos len) added refl d.1
unsaving holds by (call.Read h pos len) done before added (inr d) = one_unsaving by false _ added refl d.3
unsaving holds by (call.Write h pos payload) done before added (inl d) = one_unsaving by false (file.Write pos payload) added refl d.1
unsaving holds by (call.Write h pos payload) done before added (inr d) = one_unsaving by false _ added refl d.1
unsaving holds by (call.Size h size) done before added (inl d) = one_unsaving by false (file.SetSize size) added refl d.1
unsaving holds by (call.Size h size) done before added (inr d) = one_unsaving by false _ added refl d.1
unsaving holds by (call.Close h) done before added d = one_unsaving by true file.Closed added refl d.1
unsaving holds by (call.Stat path) done before added d = absurd d
unsaving holds by (call.List path) done before added d = absurd d
unsaving holds by (call.MakeDir path) done before added d = absurd d
unsaving holds by (call.RemoveDir path) done before added d = absurd d
unsaving holds by (call.Unlink path) done before added d = absurd d
unsaving holds by (call.Rename from to) done before added d = absurd d

grown_saved : (known : Known) (holds : Known → Type 0) (by : By) (c : Call) (done : Record) (place : Option ℕ) (old new : List Entry) → Grows in_file_of 1 (FileDoes holds by c done) place old new → IsSavedWhole known (reverse old) → IsSavedWhole known (reverse new)
grown_saved known holds by c done place old new (inl h) w = subst (λ l. IsSavedWhole known (reverse l)) (sym h.0) w
grown_saved known holds by c done place old new (inr h) w = let added = h.0 ++ h.1 ∷ [] in
    subst (IsSavedWhole known) (sym (ap reverse h.2 ∙ reverse-append old added)) (whole_more known (reverse added) (reverse old) (unsaving holds by c done old added h.6) w)

-- a call leaves it so
pub saved_after : (kept tells : Type 0) (holds : Known → Type 0) (more before : List (Fingerprint × List ℕ)) (by : By) (c : Call) (done : Record) (s t : State) → Did 1 holds by c done s t → AreSaved kept tells before s.files → AreSaved kept tells (more ++ before) t.files
saved_after kept tells holds more before by c done s t d saved k known h item = grown_saved known holds by c done (place_in item done.file) (entries_in s.files item) (entries_in t.files item) (d.in_file item) (saved k known (holds_part tells more before known h) item)

-- nothing of a file was done in a later phase than what is no sooner
pub files_no_later : (es : List TreeEntry) (paths : List (List ℕ)) (files : List History) (table : List (Option Handle)) (by : By) → IsSound es paths files table → IsUpTo by files → (item : ℕ) → AllByRecursion (λ (e : Entry). file_phase e ≤ by.who.phase) (entries_in files item)
files_no_later es paths files table by s up item = tell (leb_tells (length files) item) where
  tell : ((leb (length files) item ≡ true) × (length files ≤ item)) ⊎ ((leb (length files) item ≡ false) × (item < length files)) → AllByRecursion (λ (e : Entry). file_phase e ≤ by.who.phase) (entries_in files item)
  tell (inl h) = subst (AllByRecursion (λ (e : Entry). file_phase e ≤ by.who.phase)) (sym (none_past files item h.1)) tt
  tell (inr h) = stored_no_later (entries_in files item) by (up item) (s.each item h.1).own.timely
