-- What a call does goes on from what was served.
use Rattle.std.proofs.Common.{◌≡◌, ◌≤◌, ℕ, ◌+◌, ◌++◌, ◌∙◌, ap, sym, refl, subst, inl, inr, arith, Bool, Option, None, Some, List, [], ◌∷◌, length, take, reverse, map, length-append, append-nil}
use Rattle.std.specs.Prelude.{IsSomeAnd}
use Rattle.std.specs.List.{AllByRecursion}
use Rattle.std.proofs.Math.ListN.{drop_of_length-le}
use Rattle.std.proofs.Math.Seq.{take-append_seam}
use Rattle.std.proofs.lemmas.List.{take-append-le, map-append, reverse-append}
use Rattle.vfs_names.specs.declared.refusal.Refusal.TheVariants as why
use Rattle.session_text.specs.declared.reply.Reply.TheVariants as reply
use Rattle.vfs_names.specs.declared.calls.How.{How}
use Rattle.vfs_names.specs.declared.fingerprint.Fingerprint.{Fingerprint}
use Rattle.vfs_names.specs.declared.who.Actor.TheVariants.{Session}
use Rattle.vfs_names.specs.declared.who.By.{By}
use Rattle.vfs_names.specs.declared.who.ItemId.{ItemId}
use Rattle.vfs_outside.specs.declared.tree.TreeKind.TheVariants.{Closed}
use Rattle.vfs_outside.specs.declared.tree.TreeEntry.{TreeEntry}
use Rattle.vfs_outside.specs.declared.tree.TreeKind.{TreeKind}
use Rattle.item_core.specs.declared.entry.Entry.{Entry}
use Rattle.item_core.specs.Content.{Known}
use Rattle.item_core.specs.History.{held_by, is_dirty}
use Rattle.item_image.specs.Premise.{Holds}
use Rattle.session_script.specs.declared.call.Call.{Call}
use Rattle.session_script.specs.declared.call.Call.TheVariants as call
use Rattle.session_script.specs.declared.call.CallLine.{CallLine}
use Rattle.session_text.specs.declared.reply.Record.{Record}
use Rattle.one_session.specs.Calls.{AfterLook, IsFull, Answers, AnswersOpen, AnswersRead, AnswersWrite, AnswersSize, AnswersClose, in_tree, OpenAdds, OpensPath, ReadsLatest, TreeDoes, FileDoes, WasDirty, WasHeld}
use Rattle.one_session.specs.Did.{Did, Grows}
use Rattle.one_session.specs.Matching.{entries_of}
use Rattle.one_session.specs.Served.{place_in, AreFull, EndsWithin, StoodAt, WasFull, end_after, file_phase, reached, tree_phase, Served, Fits, TreeMatches, FileMatches, in_tree_of, in_file_of, tree_place, file_place, open_at, open_after}
use Rattle.one_session.specs.State.{State, History, entries_in, file_at, item_at}
use Rattle.one_session.specs.Tree.{item_of}
use Rattle.one_session.specs.declared.handle.Handle.{Handle}
use Rattle.one_session.proofs.Going.{stays, more_none, more_some}

-- what a file held before a place stays when files go on
held_stays : (files files' : List History) (item k : ℕ) (print : Option Fingerprint) → ((i : ℕ) → (more : List Entry) × (entries_in files' i ≡ entries_in files i ++ more)) → WasHeld files item k print → WasHeld files' item k print
held_stays files files' item k print on w =
    let more = (on item).0 in
    let e = (on item).1 in
    record {
      inside = grind (arith, ap length e, length-append (entries_in files item) more, w.inside);
      so = w.so ∙ ap (λ l. held_by (reverse l)) (sym (take-append-le k (entries_in files item) more (omega (arith, w.inside))) ∙ ap (take k) (sym e));
    }

-- what an open that is done adds stays so
held_in : (files files' : List History) (by : By) (path : List ℕ) (how : How) (f : Option (ItemId × ℕ)) (before added : List TreeEntry) → ((i : ℕ) → (more : List Entry) × (entries_in files' i ≡ entries_in files i ++ more))
    → IsSomeAnd f (λ (f : ItemId × ℕ). (own : TreeKind) × (print : Option Fingerprint) × WasHeld files f.0.0 f.1 print × AfterLook by before added (in_tree by own ∷ []) (OpensPath how path f.0.0 print own))
    → IsSomeAnd f (λ (f : ItemId × ℕ). (own : TreeKind) × (print : Option Fingerprint) × WasHeld files' f.0.0 f.1 print × AfterLook by before added (in_tree by own ∷ []) (OpensPath how path f.0.0 print own))
held_in files files' by path how None before added on h = h
held_in files files' by path how (Some f) before added on h = (h.0, h.1, held_stays files files' f.0.0 f.1 h.1 on h.2, h.3)

-- what an open adds stays so
open_stays : (files files' : List History) (by : By) (path : List ℕ) (how : How) (done : Record) (before added : List TreeEntry) → ((i : ℕ) → (more : List Entry) × (entries_in files' i ≡ entries_in files i ++ more))
    → OpenAdds by files path how done before added → OpenAdds by files' path how done before added
open_stays files files' by path how done before added on (inl h) = inl (h.0, held_in files files' by path how done.file before added on h.1)
open_stays files files' by path how done before added on (inr h) = inr h

-- dirt before a place stays when files go on
dirty_stays : (files files' : List History) (item k : ℕ) (dirty : Bool) → ((i : ℕ) → (more : List Entry) × (entries_in files' i ≡ entries_in files i ++ more)) → WasDirty files item k dirty → WasDirty files' item k dirty
dirty_stays files files' item k dirty on w =
    let more = (on item).0 in
    let e = (on item).1 in
    record {
      inside = grind (arith, ap length e, length-append (entries_in files item) more, w.inside);
      so = w.so ∙ ap (λ l. is_dirty (reverse l)) (sym (take-append-le k (entries_in files item) more (omega (arith, w.inside))) ∙ ap (take k) (sym e));
    }

-- what a close adds stays so
dirty_in : (files files' : List History) (added : List TreeEntry) (by : By) (f : Option (ItemId × ℕ)) → ((i : ℕ) → (more : List Entry) × (entries_in files' i ≡ entries_in files i ++ more))
    → IsSomeAnd f (λ (f : ItemId × ℕ). (dirty : Bool) × (added ≡ in_tree by (Closed f.0 dirty) ∷ []) × WasDirty files f.0.0 f.1 dirty) → IsSomeAnd f (λ (f : ItemId × ℕ). (dirty : Bool) × (added ≡ in_tree by (Closed f.0 dirty) ∷ []) × WasDirty files' f.0.0 f.1 dirty)
dirty_in files files' added by None on h = h
dirty_in files files' added by (Some f) on h = (h.0, h.1, dirty_stays files files' f.0.0 f.1 h.0 on h.2)

pub tree_stays : (by : By) (files files' : List History) (done : Record) (c : Call) (before added : List TreeEntry) → ((i : ℕ) → (more : List Entry) × (entries_in files' i ≡ entries_in files i ++ more))
    → TreeDoes by files c done before added → TreeDoes by files' c done before added
tree_stays by files files' done (call.Open h path how) before added on d = open_stays files files' by path how done before added on d
tree_stays by files files' done (call.Read h pos len) before added on d = d
tree_stays by files files' done (call.Write h pos payload) before added on d = d
tree_stays by files files' done (call.Size h size) before added on d = d
tree_stays by files files' done (call.Close h) before added on d = (d.0, dirty_in files files' added by done.file on d.1)
tree_stays by files files' done (call.Stat path) before added on d = d
tree_stays by files files' done (call.List path) before added on d = d
tree_stays by files files' done (call.MakeDir path) before added on d = d
tree_stays by files files' done (call.RemoveDir path) before added on d = d
tree_stays by files files' done (call.Unlink path) before added on d = d
tree_stays by files files' done (call.Rename from to) before added on d = d

-- a history that grows so goes on
pub grown : {E : Type 0} (belongs : E → ℕ → Bool) (session : ℕ) (does : List E → List E → Type 0) (place : Option ℕ) (old new : List E) → Grows belongs session does place old new → (more : List E) × (new ≡ old ++ more)
grown belongs session does place old new (inl h) = ([], h.0 ∙ sym (append-nil old))
grown belongs session does place old new (inr h) = (h.0 ++ h.1 ∷ [], h.2)

-- answers go by what each handle has open
answers_along : (a b : ℕ → Option Handle) (c : Call) (done : Record) → ((h : ℕ) → a h ≡ b h) → Answers a c done → Answers b c done
answers_along a b (call.Open h path how) done e x = subst (λ o. AnswersOpen o done) (e h) x
answers_along a b (call.Read h pos len) done e x = subst (λ o. AnswersRead o len done) (e h) x
answers_along a b (call.Write h pos payload) done e x = subst (λ o. AnswersWrite o pos payload done) (e h) x
answers_along a b (call.Size h size) done e x = subst (λ o. AnswersSize o size done) (e h) x
answers_along a b (call.Close h) done e x = subst (λ o. AnswersClose o done) (e h) x
answers_along a b (call.Stat path) done e x = x
answers_along a b (call.List path) done e x = x
answers_along a b (call.MakeDir path) done e x = x
answers_along a b (call.RemoveDir path) done e x = x
answers_along a b (call.Unlink path) done e x = x
answers_along a b (call.Rename from to) done e x = x

-- the records of the calls so far, and of one more
records_of : (older : List Served) (d : Served) → map (λ (d : Served). d.done) (reverse (d ∷ older)) ≡ map (λ (d : Served). d.done) (reverse older) ++ d.done ∷ []
records_of older d = ap (map (λ (d : Served). d.done)) (reverse-append (d ∷ []) older) ∙ map-append (λ (d : Served). d.done) (reverse older) (d ∷ [])

-- how far the calls reach after one more
ended : {E : Type 0} (belongs : E → ℕ → Bool) (session : ℕ) (does : List E → List E → Type 0) (place : Option ℕ) (before : ℕ) (old new : List E) → Grows belongs session does place old new → EndsWithin belongs session before old → EndsWithin belongs session (end_after place before) new
ended belongs session does place before old new (inl h) e =
    subst (λ p. EndsWithin belongs session (end_after p before) new) (sym h.1) (subst (EndsWithin belongs session before) (sym h.0) e)
ended belongs session does place before old new (inr h) e = let end : end_after place before ≡ length new = ap (λ p. end_after p before) h.3 ∙ whole in record {
  inside = omega (arith, end);
  others = ap (entries_of belongs session) (drop_of_length-le new (omega (arith, end)));
} where
  whole : end_after (Some (length old + length h.0)) before ≡ length new
  whole = grind (arith, ap length h.2, length-append old (h.0 ++ h.1 ∷ []), length-append h.0 (h.1 ∷ []), e.inside)

-- a history that stood so stands so in a longer one
stood_longer : {E : Type 0} (belongs : E → ℕ → Bool) (phase_of : E → ℕ) (session phase reached n : ℕ) (history more new : List E) → new ≡ history ++ more → StoodAt belongs phase_of session phase reached n history → StoodAt belongs phase_of session phase reached n new
stood_longer {E} belongs phase_of session phase reached n history more new is s = let same : take n new ≡ take n history = ap (take n) is ∙ take-append-le n history more s.inside in record {
  inside = omega (arith, s.inside, ap length is, length-append history more);
  within = subst (EndsWithin belongs session reached) (sym same) s.within;
  no_later = subst (AllByRecursion (λ (e : E). phase_of e ≤ phase)) (sym same) s.no_later;
}

-- all of a history stands now
stood_now : {E : Type 0} (belongs : E → ℕ → Bool) (phase_of : E → ℕ) (session phase reached : ℕ) (history more new : List E) → new ≡ history ++ more → EndsWithin belongs session reached history → AllByRecursion (λ (e : E). phase_of e ≤ phase) history
    → StoodAt belongs phase_of session phase reached (length history) new
stood_now {E} belongs phase_of session phase reached history more new is e later = let same : take (length history) new ≡ history = ap (take (length history)) is ∙ take-append_seam history more in record {
  inside = omega (arith, ap length is, length-append history more);
  within = subst (EndsWithin belongs session reached) (sym same) e;
  no_later = subst (AllByRecursion (λ (e : E). phase_of e ≤ phase)) (sym same) later;
}

-- too few places, where the histories and handles are spelled otherwise
full_along : (l l' : ℕ) (a b : List TreeEntry) (f g : ℕ → List Entry) (o p : ℕ → Option Handle) (c : Call) → l ≡ l' → a ≡ b → ((i : ℕ) → f i ≡ g i) → ((h : ℕ) → o h ≡ p h) → IsFull l' b g p c → IsFull l a f o c
full_along l l' a b f g o p (call.Open h path how) m e k q (inl x) = inl (rw (m, e) x)
full_along l l' a b f g o p (call.Open h path how) m e k q (inr x) = inr (x.0, ap (λ t. item_of t path) e ∙ x.1, rw (m, k x.0) x.2)
full_along l l' a b f g o p (call.Read h pos len) m e k q x = (x.0, ap item_at (q h) ∙ x.1, rw (m, k x.0) x.2)
full_along l l' a b f g o p (call.Write h pos payload) m e k q x = (x.0, ap item_at (q h) ∙ x.1, rw (m, k x.0) x.2)
full_along l l' a b f g o p (call.Size h size) m e k q x = (x.0, ap item_at (q h) ∙ x.1, rw (m, k x.0) x.2)
full_along l l' a b f g o p (call.Close h) m e k q x = x
full_along l l' a b f g o p (call.Stat path) m e k q x = x
full_along l l' a b f g o p (call.List path) m e k q x = x
full_along l l' a b f g o p (call.MakeDir path) m e k q x = x
full_along l l' a b f g o p (call.RemoveDir path) m e k q x = x
full_along l l' a b f g o p (call.Unlink path) m e k q x = x
full_along l l' a b f g o p (call.Rename from to) m e k q x = x

-- causes stay when the histories go on
pub full_stays : (session : ℕ) (served : List Served) (l' l : ℕ) (tree tree' : List TreeEntry) (files files' : List History) → l' ≡ l → (more : List TreeEntry) → tree' ≡ tree ++ more → ((i : ℕ) → (more : List Entry) × (entries_in files' i ≡ entries_in files i ++ more))
    → AreFull session l tree files served → AreFull session l' tree' files' served
full_stays session [] l' l tree tree' files files' e more on go a = tt
full_stays session (d ∷ served) l' l tree tree' files files' e more on go a = (λ h. still (a.0 h), full_stays session served l' l tree tree' files files' e more on go a.1) where
  still : WasFull session l tree files d served → WasFull session l' tree' files' d served
  still w = record {
    tree = w.tree;
    file = w.file;
    tree_stood = stood_longer in_tree_of tree_phase session d.by.who.phase (reached tree_place served) w.tree tree more tree' on w.tree_stood;
    file_stood = λ i. stood_longer in_file_of file_phase session d.by.who.phase (reached (file_place i) served) (w.file i) (entries_in files i) (go i).0 (entries_in files' i) (go i).1 (w.file_stood i);
    full = full_along l' l (take w.tree tree') (take w.tree tree) (λ i. take (w.file i) (entries_in files' i)) (λ i. take (w.file i) (entries_in files i)) (open_at served) (open_at served) d.line.call e
        (ap (take w.tree) on ∙ take-append-le w.tree tree more w.tree_stood.inside)
        (λ i. ap (take (w.file i)) (go i).1 ∙ take-append-le (w.file i) (entries_in files i) (go i).0 (w.file_stood i).inside)
        (λ h. refl) w.full;
  }

-- what a call does to a file is so by fewer contents
latest_stays : (holds holds' : Known → Type 0) → ((known : Known) → holds' known → holds known) → (before : List Entry) (pos len : ℕ) (found : List ℕ) → ReadsLatest holds before pos len found → ReadsLatest holds' before pos len found
latest_stays holds holds' fewer before pos len found r = record { count = r.count; latest = λ known h. r.latest known (fewer known h) }

pub file_stays : (holds holds' : Known → Type 0) → ((known : Known) → holds' known → holds known) → (by : By) (c : Call) (done : Record) (before added : List Entry) → FileDoes holds by c done before added → FileDoes holds' by c done before added
file_stays holds holds' fewer by (call.Open h path how) done before added d = d
file_stays holds holds' fewer by (call.Read h pos len) done before added (inl d) = inl ((d.0.0, d.0.1, latest_stays holds holds' fewer before pos len d.0.0 d.0.2), d.1)
file_stays holds holds' fewer by (call.Read h pos len) done before added (inr d) = inr d
file_stays holds holds' fewer by (call.Write h pos payload) done before added d = d
file_stays holds holds' fewer by (call.Size h size) done before added d = d
file_stays holds holds' fewer by (call.Close h) done before added d = d
file_stays holds holds' fewer by (call.Stat path) done before added d = d
file_stays holds holds' fewer by (call.List path) done before added d = d
file_stays holds holds' fewer by (call.MakeDir path) done before added d = d
file_stays holds holds' fewer by (call.RemoveDir path) done before added d = d
file_stays holds holds' fewer by (call.Unlink path) done before added d = d
file_stays holds holds' fewer by (call.Rename from to) done before added d = d

-- what holds more holds a part of it
pub holds_part : (tells : Type 0) (more pairs : List (Fingerprint × List ℕ)) (known : Known) → Holds tells (more ++ pairs) known → Holds tells pairs known
holds_part tells [] pairs known h = h
holds_part tells (p ∷ more) pairs known h = holds_part tells more pairs known h.1

module _ (session : ℕ) (holds holds' : Known → Type 0) (fewer : (known : Known) → holds' known → holds known) (by : By) (line : CallLine) (done : Record) (s t : State) (own : by.who.actor ≡ Session session) (numbered : done.line ≡ line.line) (did : Did session holds' by line.call done s t)
    (tree_later : AllByRecursion (λ (e : TreeEntry). tree_phase e ≤ by.who.phase) s.tree) (file_later : (item : ℕ) → AllByRecursion (λ (e : Entry). file_phase e ≤ by.who.phase) (entries_in s.files item)) where
  files_on : (i : ℕ) → (more : List Entry) × (entries_in t.files i ≡ entries_in s.files i ++ more)
  files_on i = grown in_file_of session (FileDoes holds' by line.call done) _ _ _ (did.in_file i)

  tree_on : (older : List Served) (more mine : List TreeEntry) → TreeMatches session s.files s.tree older mine → TreeMatches session t.files (s.tree ++ more) older mine
  tree_on older more mine m = stays in_tree_of tree_place (λ older d before added. TreeDoes d.by s.files d.line.call d.done before added) (λ older d before added. TreeDoes d.by t.files d.line.call d.done before added)
      (λ older d before added x. tree_stays d.by s.files t.files d.done d.line.call before added files_on x) session s.tree more older mine m

  tree_by : (older : List Served) (new : List TreeEntry) → Grows in_tree_of session (TreeDoes by t.files line.call done) done.tree s.tree new
      → TreeMatches session s.files s.tree older (entries_of in_tree_of session s.tree)
      → TreeMatches session t.files new (record { by = by; line = line; done = done } ∷ older) (entries_of in_tree_of session new)
  tree_by older new (inl h) m = subst (λ l. TreeMatches session t.files l (record { by = by; line = line; done = done } ∷ older) (entries_of in_tree_of session l)) (sym h.0)
      (more_none in_tree_of tree_place (λ older d before added. TreeDoes d.by t.files d.line.call d.done before added) session s.tree older (entries_of in_tree_of session s.tree) (record { by = by; line = line; done = done }) h.1
      (subst (λ l. TreeMatches session t.files l older (entries_of in_tree_of session s.tree)) (append-nil s.tree) (tree_on older [] (entries_of in_tree_of session s.tree) m)))
  tree_by older new (inr h) m = subst (λ l. TreeMatches session t.files l (record { by = by; line = line; done = done } ∷ older) (entries_of in_tree_of session l)) (sym h.2)
      (more_some in_tree_of tree_place (λ older d before added. TreeDoes d.by t.files d.line.call d.done before added) session s.tree h.0 h.1 older (record { by = by; line = line; done = done }) h.3 h.4 h.5 h.6
      (tree_on older (h.0 ++ h.1 ∷ []) (entries_of in_tree_of session s.tree) m))

  file_on : (item : ℕ) (older : List Served) (old more mine : List Entry) → FileMatches holds item session old older mine → FileMatches holds' item session (old ++ more) older mine
  file_on item older old more mine m = stays in_file_of (file_place item) (λ older d before added. FileDoes holds d.by d.line.call d.done before added) (λ older d before added. FileDoes holds' d.by d.line.call d.done before added)
      (λ older d before added x. file_stays holds holds' fewer d.by d.line.call d.done before added x) session old more older mine m

  file_by : (item : ℕ) (older : List Served) (old new : List Entry) → Grows in_file_of session (FileDoes holds' by line.call done) (place_in item done.file) old new
      → FileMatches holds item session old older (entries_of in_file_of session old)
      → FileMatches holds' item session new (record { by = by; line = line; done = done } ∷ older) (entries_of in_file_of session new)
  file_by item older old new (inl h) m = subst (λ l. FileMatches holds' item session l (record { by = by; line = line; done = done } ∷ older) (entries_of in_file_of session l)) (sym h.0)
      (more_none in_file_of (file_place item) (λ older d before added. FileDoes holds' d.by d.line.call d.done before added) session old older (entries_of in_file_of session old) (record { by = by; line = line; done = done }) h.1
      (subst (λ l. FileMatches holds' item session l older (entries_of in_file_of session old)) (append-nil old) (file_on item older old [] (entries_of in_file_of session old) m)))
  file_by item older old new (inr h) m = subst (λ l. FileMatches holds' item session l (record { by = by; line = line; done = done } ∷ older) (entries_of in_file_of session l)) (sym h.2)
      (more_some in_file_of (file_place item) (λ older d before added. FileDoes holds' d.by d.line.call d.done before added) session old h.0 h.1 older (record { by = by; line = line; done = done }) h.3 h.4 h.5 h.6
      (file_on item older old (h.0 ++ h.1 ∷ []) (entries_of in_file_of session old) m))

  handle_by : (older : List Served) (handle : ℕ) → Fits session holds older s → file_at t.table handle ≡ open_at (record { by = by; line = line; done = done } ∷ older) handle
  handle_by older handle f = did.handles handle ∙ ap (open_after line.call done handle) (f.handles handle)

  full_by : (older : List Served) → Fits session holds older s → AreFull session t.limit t.tree t.files (record { by = by; line = line; done = done } ∷ older)
  full_by older f = (λ e. now e, full_stays session older t.limit s.limit s.tree t.tree s.files t.files did.limit more_tree.0 more_tree.1 files_on f.matching.full) where
    more_tree : (more : List TreeEntry) × (t.tree ≡ s.tree ++ more)
    more_tree = grown in_tree_of session (TreeDoes by t.files line.call done) done.tree s.tree t.tree did.in_tree

    now : done.reply ≡ reply.Refused why.HistoryFull → WasFull session t.limit t.tree t.files (record { by = by; line = line; done = done }) older
    now e = record {
      tree = length s.tree;
      file = λ i. length (entries_in s.files i);
      tree_stood = stood_now in_tree_of tree_phase session by.who.phase (reached tree_place older) s.tree more_tree.0 t.tree more_tree.1 f.tree_end tree_later;
      file_stood = λ i. stood_now in_file_of file_phase session by.who.phase (reached (file_place i) older) (entries_in s.files i) (files_on i).0 (entries_in t.files i) (files_on i).1 (f.file_end i) (file_later i);
      full = full_along t.limit s.limit (take (length s.tree) t.tree) s.tree (λ i. take (length (entries_in s.files i)) (entries_in t.files i)) (entries_in s.files) (open_at older) (file_at s.table) line.call
          did.limit (ap (take (length s.tree)) more_tree.1 ∙ take-append_seam s.tree more_tree.0)
          (λ i. ap (take (length (entries_in s.files i))) (files_on i).1 ∙ take-append_seam (entries_in s.files i) (files_on i).0) (λ h. sym (f.handles h)) (did.full e);
    }

  pub goes : t.records ≡ s.records ++ done ∷ [] → (older : List Served) → Fits session holds older s → Fits session holds' (record { by = by; line = line; done = done } ∷ older) t
  goes e older f = record {
    matching = record {
      own = (own, f.matching.own);
      answered = (numbered, answers_along (file_at s.table) (open_at older) line.call done f.handles did.answered, f.matching.answered);
      tree = tree_by older t.tree did.in_tree f.matching.tree;
      file = λ item. file_by item older (entries_in s.files item) (entries_in t.files item) (did.in_file item) (f.matching.file item);
      full = full_by older f;
    };
    handles = λ handle. handle_by older handle f;
    records = e ∙ ap (λ l. l ++ done ∷ []) f.records ∙ sym (records_of older (record { by = by; line = line; done = done }));
    tree_end = ended in_tree_of session (TreeDoes by t.files line.call done) done.tree _ s.tree t.tree did.in_tree f.tree_end;
    file_end = λ item. ended in_file_of session (FileDoes holds' by line.call done) (place_in item done.file) _ (entries_in s.files item) (entries_in t.files item) (did.in_file item) (f.file_end item);
  }
