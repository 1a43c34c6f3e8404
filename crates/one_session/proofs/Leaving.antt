-- What an upload leaves of all that is kept.
use Rattle.std.proofs.Common.{◌≡◌, ◌≢◌, ◌⊎◌, ◌<◌, ℕ, ◌++◌, ◌∙◌, ap, sym, refl, subst, inl, inr, arith, Bool, true, false, cond, eqb, Option, None, Some, Result, Ok, Err, OnErr, List, [], ◌∷◌, append-nil, length, reverse}
use Rattle.std.specs.Prelude.{IfNone, IfOk, IfSome}
use Rattle.std.proofs.lemmas.Bool.Decides.{eqb_tells}
use Rattle.std.proofs.lemmas.List.{length-map}
use Rattle.vfs_names.specs.declared.fingerprint.Fingerprint.{Fingerprint}
use Rattle.vfs_names.specs.declared.who.Actor.TheVariants.{Main}
use Rattle.vfs_names.specs.declared.who.By.{By}
use Rattle.vfs_outside.specs.Outside.{Outside}
use Rattle.vfs_outside.specs.declared.tree.TreeEntry.{TreeEntry}
use Rattle.item_core.specs.Content.{IsSavedWhole, Known}
use Rattle.vfs_names.specs.declared.refusal.Refusal.{Refusal}
use Rattle.vfs_outside.specs.declared.tree.TreeKind.TheVariants as tree
use Rattle.item_core.specs.declared.entry.Dropped.TheVariants as dropped
use Rattle.item_core.specs.declared.entry.Entry.{Entry}
use Rattle.item_core.specs.declared.entry.FileKind.TheVariants as file
use Rattle.item_core.specs.History.{version_of}
use Rattle.item_image.specs.Premise.{Holds, IsHanded}
use Rattle.item_upload.specs.Whole.{IfDropped, IfSaved, MayHandWhole, UploadsWhole}
use Rattle.item_upload.specs.declared.whole.Ended.{Ended}
use Rattle.item_upload.specs.declared.whole.Ended.TheVariants.{Saved, Dropped, Unbegun}
use Rattle.sparse_item.specs.Item.{Item}
use Rattle.session_text.specs.declared.reply.Record.{Record}
use Rattle.one_session.specs.Calls.{in_file, in_tree}
use Rattle.one_session.specs.Causes.{AreGiven, AreSaved}
use Rattle.one_session.specs.Matching.{entries_of}
use Rattle.one_session.specs.Sending.{NotesUpload, Sends, SendsNext}
use Rattle.one_session.specs.Served.{Fits, Knows, Served, in_file_of, in_tree_of, is_session}
use Rattle.one_session.specs.Standing.{IsSoundStore, state_of}
use Rattle.one_session.specs.State.{State, Step, entries_in, item_in}
use Rattle.one_session.specs.Views.{given_all, histories, stored}
use Rattle.one_session.specs.declared.store.Store.{Store}
use Rattle.one_session.proofs.Given.{given_at, given_later}
use Rattle.one_session.proofs.Keeping.{Goes, goes_on}
use Rattle.one_session.proofs.Others.{OthersAdd, fits_others}
use Rattle.one_session.proofs.ReadsDone.{of_blank}
use Rattle.one_session.proofs.Saving.{whole_more}
use Rattle.one_session.proofs.Serving.{holds_part}
use Rattle.one_session.proofs.Shelves.{item_past, touched_given_same, touched_grown, touched_length}

abbrev Pairs : Type 0
Pairs = List (Fingerprint × List ℕ)

-- objects that tell are those of a store that tells
told_saved : (kept store tells : Type 0) (was : Item) (o o' : Outside) (ended : Ended) → (tells → store) → IfSaved ended (UploadsWhole kept store tells was o o') → IfSaved ended (UploadsWhole kept tells tells was o o')
told_saved kept store tells was o o' (Saved print) told u = record { bytes = u.bytes; handed = u.handed; content = λ t. u.content (told t); put = λ t. u.put (told t) }
told_saved kept store tells was o o' (Dropped why) told u = tt
told_saved kept store tells was o o' (Unbegun why) told u = tt

told_hands : (kept store tells : Type 0) (was : Item) (o o' : Outside) (ended : Ended) → (tells → store) → IfDropped ended (λ why. MayHandWhole kept store tells was o o') → IfDropped ended (λ why. MayHandWhole kept tells tells was o o')
told_hands kept store tells was o o' (Saved print) told h = tt
told_hands kept store tells was o o' (Dropped why) told (inl e) = inl e
told_hands kept store tells was o o' (Dropped why) told (inr w) = inr (record { print = w.print; bytes = w.bytes; content = λ t. w.content (told t); handed = w.handed })
told_hands kept store tells was o o' (Unbegun why) told h = tt

sends_told : (kept store tells : Type 0) (by : By) (full : Type 0) (was is : Item) (o o' : Outside) (ended : Ended) → (tells → store) → Sends kept store tells by full was is o o' ended → Sends kept tells tells by full was is o o' ended
sends_told kept store tells by full was is o o' ended told x = record {
  enters = x.enters;
  dirty = x.dirty;
  owed = x.owed;
  uploads = told_saved kept store tells was o o' ended told x.uploads;
  unsaved = λ t. x.unsaved (told t);
  hands = told_hands kept store tells was o o' ended told x.hands;
  uncalled = x.uncalled;
  causes = x.causes;
  full_cause = x.full_cause;
  whole = λ k t. x.whole k (told t);
  later = x.later;
  same = x.same;
  has_same = x.has_same;
}

-- whatever was recorded
sends_with : (kept store tells : Type 0) (by : By) (s t : State) (o o' : Outside) (ended : Ended) (r : List Record) (x : List Step) (n : ℕ) → (tells → store) → SendsNext kept store tells by s t o o' ended
    → SendsNext kept tells tells by (record s { records = r; steps = x; room = n }) (record t { records = r; steps = x; room = n }) o o' ended
sends_with kept store tells by s t o o' ended r x n told p = record {
  item = p.item;
  inside = p.inside;
  next = p.next;
  one = p.one;
  sends = sends_told kept store tells by _ _ _ o o' ended told p.sends;
  notes = p.notes;
  queue = p.queue;
  same = ap (λ (st : State). record st { records = r; steps = x; room = n }) p.same;
}

-- what the store handed out
pub sends_handed : (kept store tells : Type 0) (by : By) (full : Type 0) (was is : Item) (o o' : Outside) (ended : Ended) → Sends kept store tells by full was is o o' ended → (more : Pairs) × (o'.handed ≡ more ++ o.handed)
sends_handed kept store tells by full was is o o' (Saved print) x = ((print, x.uploads.bytes) ∷ [], x.uploads.handed)
sends_handed kept store tells by full was is o o' (Dropped why) x = told x.hands where
  told : MayHandWhole kept store tells was o o' → (more : Pairs) × (o'.handed ≡ more ++ o.handed)
  told (inl e) = ([], e)
  told (inr w) = ((w.print, w.bytes) ∷ [], w.handed)
sends_handed kept store tells by full was is o o' (Unbegun why) x = ([], ap (λ (o : Outside). o.handed) x.uncalled)

-- the entries are none of the session's
alone : (e : Entry) (es : List Entry) → e.by.who.actor ≡ Main → entries_of in_file_of 1 es ≡ [] → entries_of in_file_of 1 (e ∷ es) ≡ []
alone e es main none = ap (λ a. cond (is_session a 1) (e ∷ entries_of in_file_of 1 es) (entries_of in_file_of 1 es)) main ∙ none

abbrev begun_entry : By → Item → Entry
begun_entry by was = in_file by true was.slot.calls (file.UploadStart (version_of was.log.past))

abbrev saved_entry : By → Item → Item → Fingerprint → Entry
saved_entry by was is print = in_file by true is.slot.calls (file.Uploaded (length was.log.past) print)

abbrev dropped_entry : By → Item → Item → Refusal → Entry
dropped_entry by was is why = in_file by true is.slot.calls (file.UploadDropped (length was.log.past) (dropped.Refused why))

sends_entries : (kept store tells : Type 0) (by : By) (full : Type 0) (was is : Item) (o o' : Outside) (ended : Ended) → by.who.actor ≡ Main → Sends kept store tells by full was is o o' ended
    → (more : List Entry) × (is.log.past ≡ reverse more ++ was.log.past) × (entries_of in_file_of 1 more ≡ [])
sends_entries kept store tells by full was is o o' (Saved print) main x = let end = saved_entry by was is print in
    (begun_entry by was ∷ end ∷ [], x.enters, alone (begun_entry by was) (end ∷ []) main (alone end [] main refl))
sends_entries kept store tells by full was is o o' (Dropped why) main x = let end = dropped_entry by was is why in
    (begun_entry by was ∷ end ∷ [], x.enters, alone (begun_entry by was) (end ∷ []) main (alone end [] main refl))
sends_entries kept store tells by full was is o o' (Unbegun why) main x = ([], x.enters, refl)

notes_more : (by : By) (item : Item) (ended : Ended) (old new : List TreeEntry) → by.who.actor ≡ Main → NotesUpload by item ended old new → (more : List TreeEntry) × (new ≡ old ++ more) × (entries_of in_tree_of 1 more ≡ [])
notes_more by item (Saved print) old new main n = let e = in_tree by (tree.Stored n.0 print) in (e ∷ [], n.2, ap (λ a. cond (is_session a 1) (e ∷ []) []) main)
notes_more by item (Dropped why) old new main n = ([], n ∙ sym (append-nil old), refl)
notes_more by item (Unbegun why) old new main n = ([], n ∙ sym (append-nil old), refl)

module _ {O S F : Type 0} (kept store tells : Type 0) (old new : Store O S F) (by : By) (o o' : Outside) (ended : Ended) (main : by.who.actor ≡ Main) (s : IsSoundStore kept old) (p : SendsNext kept store tells by (state_of old [] [] 0) (state_of new [] [] 0) o o' ended) where
  abbrev was : Item
  was = item_in old.files.items p.item

  abbrev is : Item
  is = item_in new.files.items p.item

  inside : p.item < length (histories old.files.items)
  inside = omega (arith, p.inside, length-map old.files.items stored)

  more : (more : List Entry) × (is.log.past ≡ reverse more ++ was.log.past) × (entries_of in_file_of 1 more ≡ [])
  more = sends_entries kept store tells by _ was is o o' ended main p.sends

  goes : Goes (histories old.files.items) (histories new.files.items) p.item more.0
  goes = subst (λ files. Goes (histories old.files.items) files p.item more.0) (sym (touched_grown old.files.items new.files.items p.item p.one p.inside more.0 [] more.1 p.sends.has_same.names))
      (goes_on (histories old.files.items) p.item more.0 [] inside)

  file_more : (i : ℕ) → ((eqb i p.item ≡ true) × (i ≡ p.item)) ⊎ ((eqb i p.item ≡ false) × (i ≢ p.item))
      → (added : List Entry) × (entries_in (histories new.files.items) i ≡ entries_in (histories old.files.items) i ++ added) × (entries_of in_file_of 1 added ≡ [])
  file_more i (inl h) = (more.0, subst (λ j. entries_in (histories new.files.items) j ≡ entries_in (histories old.files.items) j ++ more.0) (sym h.1) goes.own, more.2)
  file_more i (inr h) = ([], goes.others i h.1 ∙ sym (append-nil (entries_in (histories old.files.items) i)), refl)

  pub sent_others : OthersAdd 1 (state_of old [] [] 0) (state_of new [] [] 0)
  sent_others = let noted = notes_more by was ended old.tree.entries new.tree.entries main p.notes in record {
    tree_more = noted.0;
    tree = noted.1;
    tree_others = noted.2;
    file = λ i. file_more i (eqb_tells i p.item);
    table = ap (λ (st : State). st.table) p.same;
    records = refl;
    limit = ap (λ (st : State). st.limit) p.same;
  }

  pub sent_given : AreGiven tells o.handed (given_all old.files.items) → AreGiven tells o'.handed (given_all new.files.items)
  sent_given given = let handed = sends_handed kept store tells by _ was is o o' ended p.sends in
      subst (λ h. AreGiven tells h (given_all new.files.items)) (sym handed.1)
      (subst (AreGiven tells (handed.0 ++ o.handed)) (sym (touched_given_same old.files.items new.files.items p.item p.one p.inside p.sends.has_same.pairs)) (given_later tells handed.0 o.handed (given_all old.files.items) given))

  -- the content that was uploaded is what the file held
  module _ (told : tells → store) (given : AreGiven tells o.handed (given_all old.files.items)) (saved : AreSaved kept tells o.handed (histories old.files.items)) where
    was_handed : kept → IsHanded tells o.handed was.slot.told.first was.log.past was.pairs
    was_handed k known h of_image = record {
      given = given_at tells o.handed old.files.items p.item known given inside h;
      saved = subst (IsSavedWhole known) (item_past old.files.items p.item p.inside) (saved k known h p.item);
    }

    own_saved : (full : Type 0) (e : Ended) → Sends kept store tells by full was is o o' e → kept → (known : Known) → Holds tells o'.handed known → IsSavedWhole known was.log.past → IsSavedWhole known is.log.past
    own_saved full (Saved print) x k known h w = (x.whole k (told (subst (λ l. Holds tells l known) x.uploads.handed h).0.0) (was_handed k) known h (of_blank known kept was (s.items p.item p.inside).blank k)).saved
    own_saved full (Dropped why) x k known h w = subst (IsSavedWhole known) (sym x.enters) (whole_more known (dropped_entry by was is why ∷ begun_entry by was ∷ []) was.log.past (refl, (refl, tt)) w)
    own_saved full (Unbegun why) x k known h w = subst (IsSavedWhole known) (sym x.enters) w

    each_saved : kept → (known : Known) → Holds tells o'.handed known → (i : ℕ) → ((eqb i p.item ≡ true) × (i ≡ p.item)) ⊎ ((eqb i p.item ≡ false) × (i ≢ p.item)) → IsSavedWhole known (reverse (entries_in (histories new.files.items) i))
    each_saved k known h i found = let handed = sends_handed kept store tells by _ was is o o' ended p.sends in
        let before : Holds tells o.handed known = holds_part tells handed.0 o.handed known (subst (λ l. Holds tells l known) handed.1 h) in tell before found where
          tell : Holds tells o.handed known → ((eqb i p.item ≡ true) × (i ≡ p.item)) ⊎ ((eqb i p.item ≡ false) × (i ≢ p.item)) → IsSavedWhole known (reverse (entries_in (histories new.files.items) i))
          tell before (inl e) = subst (λ j. IsSavedWhole known (reverse (entries_in (histories new.files.items) j))) (sym e.1)
              (subst (IsSavedWhole known) (sym (item_past new.files.items p.item (omega (arith, p.inside, touched_length old.files.items new.files.items p.item p.one p.inside))))
              (own_saved _ ended p.sends k known h (subst (IsSavedWhole known) (item_past old.files.items p.item p.inside) (saved k known before p.item))))
          tell before (inr e) = subst (λ l. IsSavedWhole known (reverse l)) (sym (goes.others i e.1)) (saved k known before i)

    pub sent_saved : AreSaved kept tells o'.handed (histories new.files.items)
    sent_saved k known h i = each_saved k known h i (eqb_tells i p.item)

-- a file was uploaded, or all is as it was
abbrev pub Turned : {O S F : Type 0} → Type 0 → Type 0 → Type 0 → By → Store O S F → Store O S F → Outside → Outside → Type 0
Turned kept store tells by old new o o' = ((ended : Ended) × SendsNext kept store tells by (state_of old [] [] 0) (state_of new [] [] 0) o o' ended) ⊎ ((state_of new [] [] 0 ≡ state_of old [] [] 0) × (o' ≡ o))

pub turned_or_not : {O S F X : Type 0} (kept store tells : Type 0) (by : By) (old new : Store O S F) (o o' : Outside) (result : Result (Option Ended) X)
    → IfOk result (λ ended. IfSome ended (SendsNext kept store tells by (state_of old [] [] 0) (state_of new [] [] 0) o o'))
    → IfOk result (λ ended. IfNone ended (state_of new [] [] 0 ≡ state_of old [] [] 0)) → IfOk result (λ ended. IfNone ended (o' ≡ o))
    → OnErr result (state_of new [] [] 0 ≡ state_of old [] [] 0) → OnErr result (o' ≡ o) → Turned kept store tells by old new o o'
turned_or_not kept store tells by old new o o' (Ok (Some ended)) sent still uncalled err err_uncalled = inl (ended, sent)
turned_or_not kept store tells by old new o o' (Ok None) sent still uncalled err err_uncalled = inr (still, uncalled)
turned_or_not kept store tells by old new o o' (Err x) sent still uncalled err err_uncalled = inr (err, err_uncalled)

with_records : (s t : State) (r : List Record) (x : List Step) (n : ℕ) → OthersAdd 1 s t → OthersAdd 1 (record s { records = r; steps = x; room = n }) (record t { records = r; steps = x; room = n })
with_records s t r x n o = record { tree_more = o.tree_more; tree = o.tree; tree_others = o.tree_others; file = o.file; table = o.table; records = refl; limit = o.limit }

module _ {O S F : Type 0} (kept store tells : Type 0) (by : By) (old new : Store O S F) (o o' : Outside) (main : by.who.actor ≡ Main) (s : IsSoundStore kept old) where
  pub turned_fits : (r : List Record) (x : List Step) (n : ℕ) (served : List Served) → Turned kept store tells by old new o o' → Fits 1 (Knows kept tells o.handed) served (state_of old r x n) → Fits 1 (Knows kept tells o'.handed) served (state_of new r x n)
  turned_fits r x n served (inl (ended, p)) f = fits_others 1 (Knows kept tells o.handed) (Knows kept tells o'.handed) fewer served (state_of old r x n) (state_of new r x n)
      (with_records (state_of old [] [] 0) (state_of new [] [] 0) r x n (sent_others kept store tells old new by o o' ended main s p)) f where
        fewer : (known : Known) → Knows kept tells o'.handed known → Knows kept tells o.handed known
        fewer known h = let handed = sends_handed kept store tells by _ _ _ o o' ended p.sends in (h.0, holds_part tells handed.0 o.handed known (subst (λ l. Holds tells l known) handed.1 h.1))
  turned_fits r x n served (inr (same, still)) f = subst (λ (out : Outside). Fits 1 (Knows kept tells out.handed) served (state_of new r x n)) (sym still)
      (subst (λ (st : State). Fits 1 (Knows kept tells o.handed) served (record st { records = r; steps = x; room = n })) (sym same) f)

  pub turned_count : Turned kept store tells by old new o o' → length (histories new.files.items) ≡ length (histories old.files.items)
  turned_count (inl (ended, p)) = length-map new.files.items stored ∙ touched_length old.files.items new.files.items p.item p.one p.inside ∙ sym (length-map old.files.items stored)
  turned_count (inr (same, still)) = ap (λ (st : State). length st.files) same

  pub turned_given : Turned kept store tells by old new o o' → AreGiven tells o.handed (given_all old.files.items) → AreGiven tells o'.handed (given_all new.files.items)
  turned_given (inl (ended, p)) given = sent_given kept store tells old new by o o' ended main s p given
  turned_given (inr (same, still)) given = subst (λ (out : Outside). AreGiven tells out.handed (given_all new.files.items)) (sym still) (subst (λ (st : State). AreGiven tells o.handed (given_all st.items)) (sym same) given)

  pub turned_saved : (tells → store) → AreGiven tells o.handed (given_all old.files.items) → Turned kept store tells by old new o o' → AreSaved kept tells o.handed (histories old.files.items) → AreSaved kept tells o'.handed (histories new.files.items)
  turned_saved told given (inl (ended, p)) saved = sent_saved kept store tells old new by o o' ended main s p told given saved
  turned_saved told given (inr (same, still)) saved = subst (λ (out : Outside). AreSaved kept tells out.handed (histories new.files.items)) (sym still) (subst (λ (st : State). AreSaved kept tells o.handed st.files) (sym same) saved)

-- what was sent, whatever was recorded
pub turned_sent : {O S F X : Type 0} (kept store tells : Type 0) (by : By) (old new : Store O S F) (o o' : Outside) (r : List Record) (x : List Step) (n : ℕ) (result : Result (Option Ended) X) → (tells → store)
    → IfOk result (λ ended. IfSome ended (SendsNext kept store tells by (state_of old [] [] 0) (state_of new [] [] 0) o o')) → IfOk result (λ ended. IfSome ended (SendsNext kept tells tells by (state_of old r x n) (state_of new r x n) o o'))
turned_sent kept store tells by old new o o' r x n (Ok (Some ended)) told p = sends_with kept store tells by (state_of old [] [] 0) (state_of new [] [] 0) o o' ended r x n told p
turned_sent kept store tells by old new o o' r x n (Ok None) told p = tt
turned_sent kept store tells by old new o o' r x n (Err e) told p = tt
