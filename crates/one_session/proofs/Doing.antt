-- What one call does, where it was answered so.
use Rattle.std.proofs.Common.{◌≡◌, ◌≢◌, ◌⊎◌, ◌<◌, ℕ, suc, ◌+◌, ◌-◌, ◌++◌, ◌∙◌, ◌&&◌, ap, sym, refl, subst, inl, inr, arith, Bool, true, false, Option, None, Some, List, [], ◌∷◌, length, map, reverse, set, take, cond, eqb, min, length-append, append_assoc, append-nil}
use Rattle.std.specs.Prelude.{IsSome, IsSomeAnd}
use Rattle.std.proofs.Math.Bool.{and-true}
use Rattle.std.proofs.lemmas.Bool.{eq-eqb, ne_eqb}
use Rattle.std.proofs.lemmas.Bool.Decides.{eqb_tells}
use Rattle.std.proofs.lemmas.List.{map-append}
use Rattle.vfs_names.specs.Payload.{payload_len}
use Rattle.vfs_names.specs.declared.calls.How.{How}
use Rattle.vfs_names.specs.declared.fingerprint.Fingerprint.{Fingerprint}
use Rattle.vfs_names.specs.declared.payload.Payload.{Payload}
use Rattle.vfs_names.specs.declared.refusal.Verb.TheVariants as verb
use Rattle.vfs_names.specs.declared.refusal.Refusal.{Refusal}
use Rattle.vfs_names.specs.declared.refusal.Refusal.TheVariants as refusals
use Rattle.vfs_names.specs.declared.who.Actor.TheVariants.{Session}
use Rattle.vfs_names.specs.declared.who.By.{By}
use Rattle.vfs_names.specs.declared.who.ItemId.{ItemId}
use Rattle.vfs_outside.specs.declared.tree.TreeEntry.{TreeEntry}
use Rattle.vfs_outside.specs.declared.tree.TreeKind.{TreeKind}
use Rattle.vfs_outside.specs.declared.tree.TreeKind.TheVariants as tree
use Rattle.item_core.specs.declared.entry.Entry.{Entry}
use Rattle.item_core.specs.declared.entry.FileKind.{FileKind}
use Rattle.item_core.specs.declared.entry.FileKind.TheVariants as file
use Rattle.item_core.specs.Content.{Known, bytes_at}
use Rattle.item_core.specs.History.{is_dirty, size_of}
use Rattle.item_core.specs.Answer.{bytes}
use Rattle.session_script.specs.declared.call.Call.{Call}
use Rattle.session_script.specs.declared.call.Call.TheVariants as call
use Rattle.session_text.specs.declared.reply.Record.{Record}
use Rattle.session_text.specs.declared.reply.Reply.{Reply}
use Rattle.session_text.specs.declared.reply.Reply.TheVariants as reply
use Rattle.one_session.specs.Calls.{AfterLook, Answers, AnswersOpen, Begins, FileDoes, IsBare, IsFull, IsIn, IsOfDevice, ListsOnce, MayBegin, OpenAdds, OpensPath, TreeDoes, WasDirty, WasHeld, in_file, in_tree, refused_open}
use Rattle.one_session.specs.Did.{Did, Grows}
use Rattle.one_session.specs.Looking.{listed_place}
use Rattle.one_session.specs.Matching.{entries_of}
use Rattle.one_session.specs.Served.{handle_of, in_file_of, in_tree_of, is_done, is_session, open_after, place_in}
use Rattle.one_session.specs.Start.{opened_kind, opening}
use Rattle.one_session.specs.State.{History, State, entries_in, file_at, item_at}
use Rattle.one_session.specs.Views.{add_to}
use Rattle.one_session.specs.declared.handle.Handle.{Handle}
use Rattle.one_session.proofs.Going.{entries_of-append, take_whole}
use Rattle.one_session.proofs.Keeping.{Goes, goes_on, own_in_tree}
use Rattle.one_session.proofs.Tables.{at_put}

pub bare_is : (r : Record) (why : Refusal) → r.reply ≡ reply.Refused why → r.tree ≡ None → r.file ≡ None → IsBare r (reply.Refused why)
bare_is r why a b c = record { reply = a; tree = b; file = c }

-- a refusal leaves the handles
and_refused : {A : Type 0} (a : Bool) (r : Reply) (why : Refusal) (x y : A) → r ≡ reply.Refused why → cond (a && is_done r) x y ≡ y
and_refused true r why x y e = ap (λ q. cond (is_done q) x y) e
and_refused false r why x y e = refl

handle_kept : (c : Call) (done : Record) (why : Refusal) (handle : ℕ) (old : Option Handle) → done.reply ≡ reply.Refused why → old ≡ open_after c done handle old
handle_kept (call.Open h path how) done why handle old e = sym (and_refused (eqb h handle) done.reply why _ old e)
handle_kept (call.Read h pos len) done why handle old e = refl
handle_kept (call.Write h pos payload) done why handle old e = refl
handle_kept (call.Size h size) done why handle old e = refl
handle_kept (call.Close h) done why handle old e = sym (and_refused (eqb h handle) done.reply why _ old e)
handle_kept (call.Stat path) done why handle old e = refl
handle_kept (call.List path) done why handle old e = refl
handle_kept (call.MakeDir path) done why handle old e = refl
handle_kept (call.RemoveDir path) done why handle old e = refl
handle_kept (call.Unlink path) done why handle old e = refl
handle_kept (call.Rename from to) done why handle old e = refl

-- a refusal that added nothing
pub bare : (holds : Known → Type 0) (by : By) (c : Call) (done : Record) (why : Refusal) (s t : State) → done.reply ≡ reply.Refused why → done.tree ≡ None → done.file ≡ None
    → t.tree ≡ s.tree → t.files ≡ s.files → t.table ≡ s.table → t.limit ≡ s.limit → Answers (file_at s.table) c done
    → (why ≡ refusals.HistoryFull → IsFull s.limit s.tree (entries_in s.files) (file_at s.table) c) → Did 1 holds by c done s t
bare holds by c done why s t answer at_tree at_file tree files table limit answers full = record {
  answered = answers;
  handles = λ handle. ap (λ l. file_at l handle) table ∙ handle_kept c done why handle (file_at s.table handle) answer;
  full = λ e. full (refused why refusals.HistoryFull (sym answer ∙ e));
  limit = limit;
  in_tree = inl (tree, at_tree);
  in_file = λ item. inl (ap (λ l. entries_in l item) files, ap (place_in item) at_file);
} where
  refused : (a b : Refusal) → reply.Refused a ≡ reply.Refused b → a ≡ b
  refused a b e = cc

-- the session's own entries
own_mapped : (by : By) (under : Bool) (made : ℕ) (kinds : List FileKind) → by.who.actor ≡ Session 1 → entries_of in_file_of 1 (map (in_file by under made) kinds) ≡ map (in_file by under made) kinds
own_mapped by under made [] own = refl
own_mapped by under made (kind ∷ kinds) own = ap (λ l. cond (is_session by.who.actor 1) (in_file by under made kind ∷ l) l) (own_mapped by under made kinds own)
    ∙ ap (λ b. cond b (in_file by under made kind ∷ map (in_file by under made) kinds) (map (in_file by under made) kinds)) (ap (λ a. is_session a 1) own)

place_same : (item k : ℕ) → place_in item (Some (record { 0 = item }, k)) ≡ Some k
place_same item k = ap (λ b. cond b (Some k) None) (eq-eqb item item refl)

place_other : (i item k : ℕ) → i ≢ item → place_in i (Some (record { 0 = item }, k)) ≡ None
place_other i item k ne = ap (λ b. cond b (Some k) None) (ne_eqb item i (λ e. ne (sym e)))

-- a file goes on by entries of the session, and the others stay
file_grows : (does : List Entry → List Entry → Type 0) (files files' : List History) (item k : ℕ) (f : Option (ItemId × ℕ)) (by : By) (under : Bool) (made : ℕ) (front : List FileKind) (last : FileKind) → Goes files files' item (map (in_file by under made) front ++ in_file by under made last ∷ [])
    → f ≡ Some (record { 0 = item }, k) → k ≡ length (entries_in files item) + length (map (in_file by under made) front) → by.who.actor ≡ Session 1 → does (entries_in files item) (map (in_file by under made) front ++ in_file by under made last ∷ [])
    → (i : ℕ) → Grows in_file_of 1 does (place_in i f) (entries_in files i) (entries_in files' i)
file_grows does files files' item k f by under made front last g at end own did i = tell i (eqb_tells i item) where
  tell : (i : ℕ) → ((eqb i item ≡ true) × (i ≡ item)) ⊎ ((eqb i item ≡ false) × (i ≢ item)) → Grows in_file_of 1 does (place_in i f) (entries_in files i) (entries_in files' i)
  tell i (inl h) = subst (λ j. Grows in_file_of 1 does (place_in j f) (entries_in files j) (entries_in files' j)) (sym h.1)
      (inr (
        map (in_file by under made) front,
        in_file by under made last,
        g.own,
        ap (place_in item) at ∙ place_same item k ∙ ap Some end,
        ap (λ a. is_session a 1) own,
        entries_of-append in_file_of 1 (map (in_file by under made) front) (in_file by under made last ∷ []) ∙ ap (λ l. l ++ entries_of in_file_of 1 (in_file by under made last ∷ [])) (own_mapped by under made front own)
            ∙ ap (λ l. map (in_file by under made) front ++ l) (own_mapped by under made (last ∷ []) own),
        did,
      ))
  tell i (inr h) = inl (g.others i h.1, ap (place_in i) at ∙ place_other i item k h.1)

-- a file goes on by one entry
one_grows : (does : List Entry → List Entry → Type 0) (files : List History) (item k : ℕ) (f : Option (ItemId × ℕ)) (by : By) (under : Bool) (made : ℕ) (kind : FileKind) → item < length files
    → f ≡ Some (record { 0 = item }, k) → k ≡ length (entries_in files item) → by.who.actor ≡ Session 1 → does (entries_in files item) (in_file by under made kind ∷ [])
    → (i : ℕ) → Grows in_file_of 1 does (place_in i f) (entries_in files i) (entries_in (add_to files item (in_file by under made kind ∷ []) []) i)
one_grows does files item k f by under made kind lt at end own did = file_grows does files (add_to files item (in_file by under made kind ∷ []) []) item k f by under made [] kind (goes_on files item (in_file by under made kind ∷ []) [] lt) at (grind (arith, end)) own did

-- the file of a handle
in_opened : (o : Option Handle) (k : Handle) (f : Option (ItemId × ℕ)) (n : ℕ) (done : Record) → o ≡ Some k → f ≡ Some (record { 0 = k.item }, n) → IsIn o (record done { file = f })
in_opened o k f n done opened at = subst (λ f. IsSomeAnd f (λ (f : ItemId × ℕ). item_at o ≡ Some f.0.0)) (sym at) (ap item_at opened)

-- a call on a handle that added one entry to the handle's file, and none to the tree
pub entered : (holds : Known → Type 0) (by : By) (c : Call) (done : Record) (s t : State) (item n made : ℕ) (kind : FileKind) → by.who.actor ≡ Session 1
    → done.tree ≡ None → done.file ≡ Some (record { 0 = item }, n) → item < length s.files → n ≡ length (entries_in s.files item)
    → t.tree ≡ s.tree → t.files ≡ add_to s.files item (in_file by false made kind ∷ []) [] → t.table ≡ s.table → t.limit ≡ s.limit
    → Answers (file_at s.table) c done → ((handle : ℕ) (old : Option Handle) → old ≡ open_after c done handle old) → (done.reply ≢ reply.Refused refusals.HistoryFull)
    → FileDoes holds by c done (entries_in s.files item) (in_file by false made kind ∷ []) → Did 1 holds by c done s t
entered holds by c done s t item n made kind own at_tree at_file lt end tree files table limit answers handles full does = record {
  answered = answers;
  handles = λ handle. ap (λ l. file_at l handle) table ∙ handles handle (file_at s.table handle);
  full = λ e. absurd (full e);
  limit = limit;
  in_tree = inl (tree, at_tree);
  in_file = λ i. subst (λ l. Grows in_file_of 1 (FileDoes holds by c done) (place_in i done.file) (entries_in s.files i) (entries_in l i)) (sym files)
      (one_grows (FileDoes holds by c done) s.files item n done.file by false made kind lt at_file end own does i);
}

-- what a call on a handle's file, which isn't full, leaves of the other parts
pub record Entered (by : By) (done : Record) (s t : State) (h n made : ℕ) (k : Handle) (kind : FileKind) : Type 0 where
  pub own : by.who.actor ≡ Session 1
  pub at_tree : done.tree ≡ None
  pub at_file : done.file ≡ Some (record { 0 = k.item }, n)
  pub opened : file_at s.table h ≡ Some k
  pub inside : k.item < length s.files
  pub end : n ≡ length (entries_in s.files k.item)
  pub tree : t.tree ≡ s.tree
  pub files : t.files ≡ add_to s.files k.item (in_file by false made kind ∷ []) []
  pub table : t.table ≡ s.table
  pub limit : t.limit ≡ s.limit

in_handle : {by : By} {done : Record} {s t : State} {h n made : ℕ} {k : Handle} {kind : FileKind} → Entered by done s t h n made k kind → IsIn (file_at s.table h) done
in_handle {done = done} {s = s} {h = h} {n = n} {k = k} e = in_opened (file_at s.table h) k done.file n done e.opened e.at_file

-- a read that answered bytes
pub read_done : (holds : Known → Type 0) (by : By) (done : Record) (s t : State) (h pos len n made : ℕ) (k : Handle) (found : List ℕ) → Entered by done s t h n made k (file.Read pos len)
    → done.reply ≡ reply.Bytes found → length found ≡ min len (size_of (reverse (entries_in s.files k.item)) - pos)
    → ((known : Known) → holds known → found ≡ bytes_at known (reverse (entries_in s.files k.item)) pos (min len (size_of (reverse (entries_in s.files k.item)) - pos)))
    → Did 1 holds by (call.Read h pos len) done s t
read_done holds by done s t h pos len n made k found e answer count told = entered holds by (call.Read h pos len) done s t k.item n made (file.Read pos len) e.own e.at_tree e.at_file e.inside e.end e.tree e.files e.table e.limit
    (inl ((found, answer), in_handle e, e.at_tree)) (λ handle old. refl) (λ f. never found (sym answer ∙ f))
    (inl ((found, answer, record { count = count; latest = λ known h. ap bytes (sym (told known h)) }), (made, refl))) where
      never : (found : List ℕ) → reply.Bytes found ≡ reply.Refused refusals.HistoryFull → ⊥
      never found e = cc

of_device_full : (why : Refusal) → IsOfDevice why → reply.Refused why ≡ reply.Refused refusals.HistoryFull → ⊥
of_device_full why (inl h) e = cc
of_device_full why (inr (inl h)) e = cc
of_device_full why (inr (inr h)) e = let stale = h.2 in cc

-- a read that was refused for the object or the disk
pub read_refused : (holds : Known → Type 0) (by : By) (done : Record) (s t : State) (h pos len n made : ℕ) (k : Handle) (why : Refusal) → Entered by done s t h n made k (file.Refused verb.Read why) → IsOfDevice why
    → done.reply ≡ reply.Refused why → Did 1 holds by (call.Read h pos len) done s t
read_refused holds by done s t h pos len n made k why e of answer = entered holds by (call.Read h pos len) done s t k.item n made (file.Refused verb.Read why) e.own e.at_tree e.at_file e.inside e.end e.tree e.files e.table e.limit
    (inr (inl ((why, answer, of), in_handle e, e.at_tree))) (λ handle old. refl) (λ f. of_device_full why of (sym answer ∙ f))
    (inr (why, answer, of, (made, refl)))

-- a write that was done
pub write_done : (holds : Known → Type 0) (by : By) (done : Record) (s t : State) (h pos n made : ℕ) (k : Handle) (payload : Payload) → Entered by done s t h n made k (file.Write pos payload)
    → done.reply ≡ reply.Wrote (payload_len payload) → Did 1 holds by (call.Write h pos payload) done s t
write_done holds by done s t h pos n made k payload e answer = entered holds by (call.Write h pos payload) done s t k.item n made (file.Write pos payload) e.own e.at_tree e.at_file e.inside e.end e.tree e.files e.table e.limit
    (inl (answer, in_handle e, e.at_tree)) (λ handle old. refl) (λ f. never (payload_len payload) (sym answer ∙ f))
    (inl (answer, (made, refl))) where
      never : (n : ℕ) → reply.Wrote n ≡ reply.Refused refusals.HistoryFull → ⊥
      never n e = cc

disk_full : reply.Refused refusals.DiskFault ≡ reply.Refused refusals.HistoryFull → ⊥
disk_full e = cc

-- one that the disk refused
pub write_refused : (holds : Known → Type 0) (by : By) (done : Record) (s t : State) (h pos n made : ℕ) (k : Handle) (payload : Payload) → Entered by done s t h n made k (file.Refused verb.Write refusals.DiskFault)
    → done.reply ≡ reply.Refused refusals.DiskFault → Did 1 holds by (call.Write h pos payload) done s t
write_refused holds by done s t h pos n made k payload e answer = entered holds by (call.Write h pos payload) done s t k.item n made (file.Refused verb.Write refusals.DiskFault) e.own e.at_tree e.at_file e.inside e.end e.tree e.files e.table e.limit
    (inr (inl (answer, in_handle e, e.at_tree))) (λ handle old. refl) (λ f. disk_full (sym answer ∙ f))
    (inr (answer, (made, refl)))

done_never : reply.Done ≡ reply.Refused refusals.HistoryFull → ⊥
done_never e = cc

-- a change of size that was done
pub size_done : (holds : Known → Type 0) (by : By) (done : Record) (s t : State) (h size n made : ℕ) (k : Handle) → Entered by done s t h n made k (file.SetSize size)
    → done.reply ≡ reply.Done → Did 1 holds by (call.Size h size) done s t
size_done holds by done s t h size n made k e answer = entered holds by (call.Size h size) done s t k.item n made (file.SetSize size) e.own e.at_tree e.at_file e.inside e.end e.tree e.files e.table e.limit
    (inl (answer, in_handle e, e.at_tree)) (λ handle old. refl) (λ f. done_never (sym answer ∙ f))
    (inl (answer, (made, refl)))

-- one that the disk refused
pub size_refused : (holds : Known → Type 0) (by : By) (done : Record) (s t : State) (h size n made : ℕ) (k : Handle) → Entered by done s t h n made k (file.Refused verb.Size refusals.DiskFault)
    → done.reply ≡ reply.Refused refusals.DiskFault → Did 1 holds by (call.Size h size) done s t
size_refused holds by done s t h size n made k e answer = entered holds by (call.Size h size) done s t k.item n made (file.Refused verb.Size refusals.DiskFault) e.own e.at_tree e.at_file e.inside e.end e.tree e.files e.table e.limit
    (inr (inl (answer, in_handle e, e.at_tree))) (λ handle old. refl) (λ f. disk_full (sym answer ∙ f))
    (inr (answer, (made, refl)))

done_full : {A : Type 0} → reply.Done ≡ reply.Refused refusals.HistoryFull → A
done_full e = absurd (cc)

-- a close
pub close_done : (holds : Known → Type 0) (by : By) (done : Record) (s t : State) (h m n made : ℕ) (k : Handle) (dirty : Bool) → by.who.actor ≡ Session 1
    → done.reply ≡ reply.Done → done.tree ≡ Some m → done.file ≡ Some (record { 0 = k.item }, n) → file_at s.table h ≡ Some k → h < length s.table → k.item < length s.files
    → m ≡ length s.tree → n ≡ length (entries_in s.files k.item) → dirty ≡ is_dirty (reverse (entries_in s.files k.item))
    → t.tree ≡ s.tree ++ in_tree by (tree.Closed (record { 0 = k.item }) dirty) ∷ [] → t.files ≡ add_to s.files k.item (in_file by true made file.Closed ∷ []) [] → t.table ≡ set s.table h None → t.limit ≡ s.limit
    → Did 1 holds by (call.Close h) done s t
close_done holds by done s t h m n made k dirty own answer at_tree at_file opened small lt ends end was grew files table limit = record {
  answered = inl (answer, in_opened (file_at s.table h) k done.file n done opened at_file, subst (λ o. IsSome o) (sym at_tree) refl);
  handles = λ handle. ap (λ l. file_at l handle) table ∙ at_put s.table h handle None small ∙ sym (ap (λ r. cond (eqb h handle && is_done r) None (file_at s.table handle)) answer ∙ ap (λ b. cond b None (file_at s.table handle)) (and-true (eqb h handle)));
  full = λ e. done_full (sym answer ∙ e);
  limit = limit;
  in_tree = subst (λ l. Grows in_tree_of 1 (TreeDoes by t.files (call.Close h) done) done.tree s.tree l) (sym grew)
      (inr (
        [],
        e,
        refl,
        at_tree ∙ ap Some (grind (arith, ends)),
        own_in_tree e own,
        ap (λ b. cond b (e ∷ []) []) (own_in_tree e own),
        (
          answer,
          subst (λ (f : Option (ItemId × ℕ)). IsSomeAnd f (λ f. (d : Bool) × (e ∷ [] ≡ in_tree by (tree.Closed f.0 d) ∷ []) × WasDirty t.files f.0.0 f.1 d)) (sym at_file) (
            dirty,
            refl,
            subst (λ l. WasDirty l k.item n dirty) (sym files) (record {
              inside = grind (arith, ap length g.own, length-append (entries_in s.files k.item) (in_file by true made file.Closed ∷ []), end);
              so = was ∙ ap (λ l. is_dirty (reverse l)) (sym (ap (take n) g.own ∙ take_whole (entries_in s.files k.item) (in_file by true made file.Closed ∷ []) n end));
            }),
          ),
        ),
      ));
  in_file = λ i. subst (λ l. Grows in_file_of 1 (FileDoes holds by (call.Close h) done) (place_in i done.file) (entries_in s.files i) (entries_in l i)) (sym files)
      (one_grows (FileDoes holds by (call.Close h) done) s.files k.item n done.file by true made file.Closed lt at_file end own (answer, (made, refl)) i);
} where
  e : TreeEntry
  e = in_tree by (tree.Closed (record { 0 = k.item }) dirty)

  g : Goes s.files (add_to s.files k.item (in_file by true made file.Closed ∷ []) []) k.item (in_file by true made file.Closed ∷ [])
  g = goes_on s.files k.item (in_file by true made file.Closed ∷ []) [] lt

-- what was listed is the session's own
pub listed_own : (by : By) (es lists : List TreeEntry) → by.who.actor ≡ Session 1 → ListsOnce by es lists → entries_of in_tree_of 1 lists ≡ lists
listed_own by es lists own (inl h) = ap (entries_of in_tree_of 1) h.1 ∙ sym h.1
listed_own by es lists own (inr h) = ap (entries_of in_tree_of 1) h.1.1 ∙ ap (λ b. cond b (in_tree by (tree.Listed [] h.1.0) ∷ []) []) (own_in_tree (in_tree by (tree.Listed [] h.1.0)) own) ∙ sym h.1.1

-- the tree goes on by entries of the session, the last of which has the place
tree_grows : (does : List TreeEntry → List TreeEntry → Type 0) (es new front : List TreeEntry) (e : TreeEntry) (place : Option ℕ) → new ≡ es ++ (front ++ e ∷ []) → entries_of in_tree_of 1 front ≡ front → e.by.who.actor ≡ Session 1
    → place ≡ Some (length es + length front) → does es (front ++ e ∷ []) → Grows in_tree_of 1 does place es new
tree_grows does es new front e place grew owned own at did = inr (
  front,
  e,
  grew,
  at,
  own_in_tree e own,
  entries_of-append in_tree_of 1 front (e ∷ []) ∙ ap (λ l. l ++ entries_of in_tree_of 1 (e ∷ [])) owned ∙ ap (λ b. front ++ cond b (e ∷ []) []) (own_in_tree e own),
  did,
)

-- an open that was done leaves its file at its handle
opened_at : (done : Record) (table : List (Option Handle)) (h item n handle : ℕ) (path : List ℕ) (how : How) → h < length table → done.reply ≡ reply.Done → done.file ≡ Some (record { 0 = item }, n)
    → file_at (set table h (Some (record { item = item; access = how.access }))) handle ≡ open_after (call.Open h path how) done handle (file_at table handle)
opened_at done table h item n handle path how small answer at_file = at_put table h handle (Some (record { item = item; access = how.access })) small
    ∙ sym (ap (λ f. cond (eqb h handle && is_done done.reply) (handle_of how.access f) (file_at table handle)) at_file ∙ ap (λ r. cond (eqb h handle && is_done r) (Some (record { item = item; access = how.access })) (file_at table handle)) answer
    ∙ ap (λ b. cond b (Some (record { item = item; access = how.access })) (file_at table handle)) (and-true (eqb h handle)))

-- an open that was done
pub open_done : (holds : Known → Type 0) (by : By) (done : Record) (s t : State) (h item m n made : ℕ) (path : List ℕ) (how : How) (lists : List TreeEntry) (created : Bool) (print : Option Fingerprint) (front : List FileKind) → by.who.actor ≡ Session 1
    → done.reply ≡ reply.Done → done.tree ≡ Some m → done.file ≡ Some (record { 0 = item }, n) → file_at s.table h ≡ None → h < length s.table
    → ListsOnce by s.tree lists → OpensPath how path item print (opened_kind created path item print) (s.tree ++ lists) → WasHeld t.files item n print
    → Goes s.files t.files item (opening by how.access made front) → Begins front
    → m ≡ length (s.tree ++ lists) → n ≡ length (entries_in s.files item) + length front
    → t.tree ≡ (s.tree ++ lists) ++ in_tree by (opened_kind created path item print) ∷ [] → t.table ≡ set s.table h (Some (record { item = item; access = how.access })) → t.limit ≡ s.limit
    → Did 1 holds by (call.Open h path how) done s t
open_done holds by done s t h item m n made path how lists created print front own answer at_tree at_file closed small once opens held g begins ends end grew table limit = record {
  answered = inl (answer, closed, subst (λ o. IsSome o) (sym at_tree) refl, subst (λ o. IsSome o) (sym at_file) refl);
  handles = λ handle. ap (λ l. file_at l handle) table ∙ opened_at done s.table h item n handle path how small answer at_file;
  full = λ e. done_full (sym answer ∙ e);
  limit = limit;
  in_tree = tree_grows (TreeDoes by t.files (call.Open h path how) done) s.tree t.tree lists (in_tree by (opened_kind created path item print)) done.tree (grew ∙ append_assoc s.tree lists (in_tree by (opened_kind created path item print) ∷ []))
      (listed_own by s.tree lists own once) own (at_tree ∙ ap Some (ends ∙ length-append s.tree lists))
      (inl (
        answer,
        subst (λ (f : Option (ItemId × ℕ)). IsSomeAnd f (λ f. (own : TreeKind) × (print : Option Fingerprint) × WasHeld t.files f.0.0 f.1 print
            × AfterLook by s.tree (lists ++ in_tree by (opened_kind created path item print') ∷ []) (in_tree by own ∷ []) (OpensPath how path f.0.0 print own))) (sym at_file)
            (opened_kind created path item print, print, held, record { lists = lists; once = once; is = refl; found = opens }),
      ));
  in_file = λ i. file_grows (FileDoes holds by (call.Open h path how) done) s.files t.files item n done.file by true made front (file.Opened how.access) (subst (Goes s.files t.files item) mapped g) at_file
      (end ∙ ap (λ k. length (entries_in s.files item) + k) (sym (length_mapped front))) own (answer, (made, front, begins, sym mapped)) i;
} where
  print' : Option Fingerprint
  print' = print

  mapped : map (in_file by true made) (front ++ file.Opened how.access ∷ []) ≡ map (in_file by true made) front ++ in_file by true made (file.Opened how.access) ∷ []
  mapped = map-append (in_file by true made) front (file.Opened how.access ∷ [])

  length_mapped : (kinds : List FileKind) → length (map (in_file by true made) kinds) ≡ length kinds
  length_mapped [] = refl
  length_mapped (kind ∷ kinds) = ap suc (length_mapped kinds)

-- the refusals of an open that the tree tells
abbrev pub IsTold : Refusal → Type 0
IsTold why = (why ≡ refusals.NotFound) ⊎ (why ≡ refusals.IsDir) ⊎ (why ≡ refusals.RemoteFault) ⊎ (why ≡ refusals.TooBig) ⊎ (why ≡ refusals.DiskFault)

told_answers : (opened : Option Handle) (done : Record) (why : Refusal) → done.reply ≡ reply.Refused why → done.file ≡ None → IsTold why → opened ≡ None → IsSome done.tree → AnswersOpen opened done
told_answers opened done why e f (inl h) c t = inr (inl (inl (record { reply = e ∙ ap reply.Refused h; file = f }), c, t))
told_answers opened done why e f (inr (inl h)) c t = inr (inl (inr (inl (record { reply = e ∙ ap reply.Refused h; file = f })), c, t))
told_answers opened done why e f (inr (inr (inl h))) c t = inr (inl (inr (inr (inl (record { reply = e ∙ ap reply.Refused h; file = f }))), c, t))
told_answers opened done why e f (inr (inr (inr (inl h)))) c t = inr (inl (inr (inr (inr (inl (record { reply = e ∙ ap reply.Refused h; file = f })))), c, t))
told_answers opened done why e f (inr (inr (inr (inr h)))) c t = inr (inl (inr (inr (inr (inr (record { reply = e ∙ ap reply.Refused h; file = f })))), c, t))

told_full : {A : Type 0} (why : Refusal) → IsTold why → reply.Refused why ≡ reply.Refused refusals.HistoryFull → A
told_full why (inl h) e = absurd (cc)
told_full why (inr (inl h)) e = absurd (cc)
told_full why (inr (inr (inl h))) e = absurd (cc)
told_full why (inr (inr (inr (inl h)))) e = absurd (cc)
told_full why (inr (inr (inr (inr h)))) e = absurd (cc)

-- an open that was refused and says so in the tree
pub told_done : (holds : Known → Type 0) (by : By) (done : Record) (s t : State) (h m : ℕ) (path : List ℕ) (how : How) (front : List TreeEntry) (why : Refusal) → by.who.actor ≡ Session 1 → IsTold why
    → done.reply ≡ reply.Refused why → done.tree ≡ Some m → done.file ≡ None → file_at s.table h ≡ None → entries_of in_tree_of 1 front ≡ front
    → OpenAdds by t.files path how done s.tree (front ++ refused_open by path why ∷ [])
    → m ≡ length s.tree + length front → t.tree ≡ s.tree ++ (front ++ refused_open by path why ∷ []) → t.files ≡ s.files → t.table ≡ s.table → t.limit ≡ s.limit
    → Did 1 holds by (call.Open h path how) done s t
told_done holds by done s t h m path how front why own told answer at_tree at_file closed owned adds ends grew files table limit = record {
  answered = told_answers (file_at s.table h) done why answer at_file told closed (subst (λ o. IsSome o) (sym at_tree) refl);
  handles = λ handle. ap (λ l. file_at l handle) table ∙ handle_kept (call.Open h path how) done why handle (file_at s.table handle) answer;
  full = λ e. told_full why told (sym answer ∙ e);
  limit = limit;
  in_tree = tree_grows (TreeDoes by t.files (call.Open h path how) done) s.tree t.tree front (refused_open by path why) done.tree grew owned own (at_tree ∙ ap Some ends) adds;
  in_file = λ i. inl (ap (λ l. entries_in l i) files, ap (place_in i) at_file);
}

-- an open that wanted memory after the root was listed
pub starved_done : (holds : Known → Type 0) (by : By) (done : Record) (s t : State) (h : ℕ) (path : List ℕ) (how : How) (lists : List TreeEntry) → by.who.actor ≡ Session 1
    → done.reply ≡ reply.Refused refusals.NoMemory → done.tree ≡ listed_place s.tree lists → done.file ≡ None → file_at s.table h ≡ None
    → ListsOnce by s.tree lists → MayBegin path how (s.tree ++ lists)
    → t.tree ≡ s.tree ++ lists → t.files ≡ s.files → t.table ≡ s.table → t.limit ≡ s.limit
    → Did 1 holds by (call.Open h path how) done s t
starved_done holds by done s t h path how lists own answer at_tree at_file closed once shows grew files table limit = record {
  answered = inr (inr (inr (inr (record { reply = answer; file = at_file }, closed))));
  handles = λ handle. ap (λ l. file_at l handle) table ∙ handle_kept (call.Open h path how) done refusals.NoMemory handle (file_at s.table handle) answer;
  full = λ e. never (sym answer ∙ e);
  limit = limit;
  in_tree = grows once;
  in_file = λ i. inl (ap (λ l. entries_in l i) files, ap (place_in i) at_file);
} where
  never : {A : Type 0} → reply.Refused refusals.NoMemory ≡ reply.Refused refusals.HistoryFull → A
  never e = absurd (cc)

  grows : ListsOnce by s.tree lists → Grows in_tree_of 1 (TreeDoes by t.files (call.Open h path how) done) done.tree s.tree t.tree
  grows (inl x) = inl (grew ∙ ap (λ l. s.tree ++ l) x.1 ∙ append-nil s.tree, at_tree ∙ ap (listed_place s.tree) x.1)
  grows (inr x) = let e = in_tree by (tree.Listed [] x.1.0) in tree_grows (TreeDoes by t.files (call.Open h path how) done) s.tree t.tree [] e done.tree (grew ∙ ap (λ l. s.tree ++ l) x.1.1) refl own
      (at_tree ∙ ap (listed_place s.tree) x.1.1 ∙ ap Some (grind arith))
      (inr (inr (inr (inr (inr (inr (answer, record { lists = lists; once = once; is = sym x.1.1 ∙ sym (append-nil lists); found = shows })))))))

-- it is told of the same state, whose tree is written otherwise
pub did_same : (holds : Known → Type 0) (by : By) (c : Call) (done : Record) (s t : State) (es : List TreeEntry) → es ≡ s.tree → Did 1 holds by c done (record s { tree = es }) t → Did 1 holds by c done s t
did_same holds by c done s t es is did = subst (λ l. Did 1 holds by c done (record s { tree = l }) t) is did
