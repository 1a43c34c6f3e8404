-- What an open did, and why, from what it planned.
use Rattle.std.proofs.Common.{◌≡◌, ◌≢◌, ◌⊎◌, ◌<◌, ◌≤◌, ℕ, ◌+◌, ◌++◌, ◌∙◌, ◌||◌, Bool, nat_lt, ap, sym, refl, subst, inl, inr, arith, true, false, Option, None, Some, List, [], ◌∷◌, length, set, reverse, append-nil, append_assoc, length-append}
use Rattle.std.specs.Prelude.{IsSomeAnd}
use Rattle.vfs_names.specs.declared.calls.How.{How}
use Rattle.vfs_names.specs.declared.fingerprint.Fingerprint.{Fingerprint}
use Rattle.vfs_names.specs.declared.refusal.Refusal.{Refusal}
use Rattle.vfs_names.specs.declared.refusal.Refusal.TheVariants as refusals
use Rattle.vfs_names.specs.declared.refusal.Verb.TheVariants as verb
use Rattle.vfs_names.specs.declared.who.Actor.TheVariants.{Session}
use Rattle.vfs_names.specs.declared.who.By.{By}
use Rattle.vfs_outside.proofs.Told.{later_rose}
use Rattle.vfs_outside.specs.Causes.{Rose}
use Rattle.vfs_outside.specs.Outside.{Outside}
use Rattle.vfs_outside.specs.declared.tree.TreeEntry.{TreeEntry}
use Rattle.vfs_outside.specs.declared.tree.TreeKind.TheVariants as tree
use Rattle.item_core.specs.Content.{Known}
use Rattle.item_core.specs.declared.entry.Entry.{Entry}
use Rattle.session_script.specs.declared.call.Call.TheVariants as call
use Rattle.session_text.specs.declared.reply.Record.{Record}
use Rattle.session_text.specs.declared.reply.Reply.TheVariants as reply
use Rattle.item_core.specs.History.{held_by, is_dirty, opens_of}
use Rattle.shown_rows.specs.declared.Shown.{Shown}
use Rattle.one_session.specs.Calls.{IsItemAt, ListsOnce, MayBegin, OpenAdds, OpensPath, ShowsObject, WasHeld, in_tree, refused_open}
use Rattle.one_session.specs.Causes.{AreGiven, HasOpenCause, HasRemoteCause, IsUnshown, ends_gone}
use Rattle.one_session.specs.Did.{Did}
use Rattle.one_session.specs.Looking.{MeetsObject, Refuses, Starts}
use Rattle.one_session.specs.Matching.{entries_of}
use Rattle.one_session.specs.Served.{in_tree_of}
use Rattle.one_session.specs.Sound.{IsSound, IsTied}
use Rattle.one_session.specs.Start.{front_of, is_create, opened_kind, opening}
use Rattle.one_session.specs.State.{History, State, entries_in, file_at}
use Rattle.one_session.specs.Tree.{is_held_at, is_held_in, is_listed, item_of, shown}
use Rattle.one_session.specs.declared.handle.Handle.{Handle}
use Rattle.one_session.specs.declared.plan.Met.{Met}
use Rattle.one_session.specs.declared.start.Start.{Start}
use Rattle.one_session.specs.declared.start.Start.TheVariants.{Kept, Create, Bind, Adopt}
use Rattle.one_session.proofs.Doing.{IsTold, listed_own, open_done, told_done}
use Rattle.one_session.proofs.Going.{entries_of-append}
use Rattle.one_session.proofs.Keeping.{Goes, held_is as held_file, own_in_tree, sound_plain}
use Rattle.one_session.proofs.Meeting.{IsMet, held_is, meets_object, opens_path, settled_more, unshown}
use Rattle.one_session.proofs.Starts.{start_begins}
use Rattle.one_session.proofs.Given.{given_later}
use Rattle.one_session.proofs.Trees.{looked_held, plain_gone, plain_listed, plain_refused}

-- the parts fit once the root was listed
pub look_sound : (by : By) (es lists : List TreeEntry) (paths : List (List ℕ)) (files : List History) (table : List (Option Handle)) → by.who.actor ≡ Session 1 → ListsOnce by es lists → IsSound es paths files table → IsSound (es ++ lists) paths files table
look_sound by es lists paths files table own (inl h) s = subst (λ l. IsSound l paths files table) (sym (ap (λ l. es ++ l) h.1 ∙ append-nil es)) s
look_sound by es lists paths files table own (inr h) s = subst (λ l. IsSound (es ++ l) paths files table) (sym h.1.1) (sound_plain es (in_tree by (tree.Listed [] h.1.0)) paths files table s (plain_listed [] h.1.0) own)

pub refuse_sound : (by : By) (es : List TreeEntry) (path : List ℕ) (why : Refusal) (paths : List (List ℕ)) (files : List History) (table : List (Option Handle)) → by.who.actor ≡ Session 1 → IsSound es paths files table → IsSound (es ++ refused_open by path why ∷ []) paths files table
refuse_sound by es path why paths files table own s = sound_plain es (refused_open by path why) paths files table s (plain_refused verb.Open path why) own

pub lose_sound : (by : By) (es : List TreeEntry) (path own : List ℕ) (why : Refusal) (paths : List (List ℕ)) (files : List History) (table : List (Option Handle)) → by.who.actor ≡ Session 1 → IsSound es paths files table
    → IsSound (es ++ in_tree by (tree.Gone path) ∷ refused_open by own why ∷ []) paths files table
lose_sound by es path own why paths files table mine s = subst (λ l. IsSound l paths files table) (append_assoc es (in_tree by (tree.Gone path) ∷ []) (refused_open by own why ∷ []))
    (refuse_sound by (es ++ in_tree by (tree.Gone path) ∷ []) own why paths files table mine (sound_plain es (in_tree by (tree.Gone path)) paths files table s (plain_gone path) mine))

pub lose_settled : (by : By) (es es' : List TreeEntry) (gone own path : List ℕ) (why : Refusal) → es' ≡ es ++ in_tree by (tree.Gone gone) ∷ refused_open by own why ∷ [] → ends_gone (reverse es') path ≡ false
lose_settled by es es' gone own path why is = settled_more (es ++ in_tree by (tree.Gone gone) ∷ []) es' (refused_open by own why) path (is ∙ sym (append_assoc es (in_tree by (tree.Gone gone) ∷ []) (refused_open by own why ∷ []))) refl

-- what was given, where nothing more was handed out, or more
pub given_same : (tells : Type 0) (a b : List (Fingerprint × List ℕ)) (given given' : List (List (Fingerprint × List ℕ))) → b ≡ a → given' ≡ given → AreGiven tells a given → AreGiven tells b given'
given_same tells a b given given' e f g = subst (λ x. AreGiven tells b x) (sym f) (subst (λ x. AreGiven tells x given) (sym e) g)

pub given_more : (tells : Type 0) (a mid b more : List (Fingerprint × List ℕ)) (given given' : List (List (Fingerprint × List ℕ))) → mid ≡ a → b ≡ more ++ mid → given' ≡ given → AreGiven tells a given → AreGiven tells b given'
given_more tells a mid b more given given' m e f g = subst (λ x. AreGiven tells b x) (sym f) (subst (λ x. AreGiven tells x given) (sym (e ∙ ap (λ l. more ++ l) m)) (given_later tells more a given g))

-- a cause, with what else is said of the remote
pub remote_cause : (h : ℕ) (path : List ℕ) (how : How) (done : Record) (entries : List TreeEntry) (old mid new : Outside) (more : List (Fingerprint × List ℕ)) → old.faults ≤ mid.faults → old.changes ≤ mid.changes → mid.handed ≡ old.handed
    → mid.faults ≤ new.faults → mid.changes ≤ new.changes → new.handed ≡ more ++ mid.handed → HasOpenCause path done entries old new → HasRemoteCause (call.Open h path how) done entries old new
remote_cause h path how done entries old mid new more f c e f' c' e' cause = record {
  faults = omega (arith, f, f');
  changes = omega (arith, c, c');
  more = more;
  handed = e' ∙ ap (λ l. more ++ l) e;
  cause = cause;
}

-- a refusal for places or memory has none to tell
pub own_cause : (path : List ℕ) (done : Record) (entries : List TreeEntry) (old new : Outside) (why : Refusal) → done.reply ≡ reply.Refused why → (why ≡ refusals.HistoryFull) ⊎ (why ≡ refusals.NoMemory) → HasOpenCause path done entries old new
own_cause path done entries old new why e w = record { fault = λ x. absurd (no_fault why w (sym e ∙ x)); missing = λ x. absurd (no_missing why w (sym e ∙ x)); big = λ x. absurd (no_big why w (sym e ∙ x)) } where
  no_fault : (why : Refusal) → (why ≡ refusals.HistoryFull) ⊎ (why ≡ refusals.NoMemory) → reply.Refused why ≡ reply.Refused refusals.RemoteFault → ⊥
  no_fault why (inl h) x = cc
  no_fault why (inr h) x = cc

  no_missing : (why : Refusal) → (why ≡ refusals.HistoryFull) ⊎ (why ≡ refusals.NoMemory) → reply.Refused why ≡ reply.Refused refusals.NotFound → ⊥
  no_missing why (inl h) x = cc
  no_missing why (inr h) x = cc

  no_big : (why : Refusal) → (why ≡ refusals.HistoryFull) ⊎ (why ≡ refusals.NoMemory) → reply.Refused why ≡ reply.Refused refusals.TooBig → ⊥
  no_big why (inl h) x = cc
  no_big why (inr h) x = cc

-- nor has an open that is done
pub done_cause : (path : List ℕ) (done : Record) (entries : List TreeEntry) (old new : Outside) → done.reply ≡ reply.Done → HasOpenCause path done entries old new
done_cause path done entries old new e = record { fault = λ x. absurd (no refusals.RemoteFault (sym e ∙ x)); missing = λ x. absurd (no refusals.NotFound (sym e ∙ x)); big = λ x. absurd (no refusals.TooBig (sym e ∙ x)) } where
  no : (why : Refusal) → reply.Done ≡ reply.Refused why → ⊥
  no why x = cc

-- the remote answered that something is missing
pub missing_cause : (path : List ℕ) (done : Record) (entries : List TreeEntry) (old new : Outside) → done.reply ≡ reply.Refused refusals.NotFound → Rose old.changes new.changes → HasOpenCause path done entries old new
missing_cause path done entries old new e r = record { fault = λ x. absurd (a (sym e ∙ x)); missing = λ x. inl r; big = λ x. absurd (b (sym e ∙ x)) } where
  a : reply.Refused refusals.NotFound ≡ reply.Refused refusals.RemoteFault → ⊥
  a x = cc

  b : reply.Refused refusals.NotFound ≡ reply.Refused refusals.TooBig → ⊥
  b x = cc

pub fault_cause : (path : List ℕ) (done : Record) (entries : List TreeEntry) (old new : Outside) → done.reply ≡ reply.Refused refusals.RemoteFault → Rose old.faults new.faults → HasOpenCause path done entries old new
fault_cause path done entries old new e r = record { fault = λ x. r; missing = λ x. absurd (a (sym e ∙ x)); big = λ x. absurd (b (sym e ∙ x)) } where
  a : reply.Refused refusals.RemoteFault ≡ reply.Refused refusals.NotFound → ⊥
  a x = cc

  b : reply.Refused refusals.RemoteFault ≡ reply.Refused refusals.TooBig → ⊥
  b x = cc

-- what was planned is refused for its reason
module _ (by : By) (h : ℕ) (path : List ℕ) (how : How) (done : Record) (met : Met) (past : List Entry) (old mid new : Outside) (before seen entries : List TreeEntry) (f : old.faults ≤ mid.faults)
    (m : IsMet met seen path how past) (at_tree : done.tree ≡ Some (length seen)) (settled : ends_gone (reverse seen) path ≡ false) where
  pub refuse_cause : (why : Refusal) → Refuses met mid new why → done.reply ≡ reply.Refused why → entries ≡ seen ++ refused_open by path why ∷ [] → HasOpenCause path done entries old new
  refuse_cause refusals.NotFound r e is = record {
    fault = λ x. absurd (let y : reply.Refused refusals.NotFound ≡ reply.Refused refusals.RemoteFault = sym e ∙ x in no y);
    missing = λ x. inr (subst (λ o. IsSomeAnd o (IsUnshown entries path)) (sym at_tree) (unshown seen entries (refused_open by path refusals.NotFound) path is (sym m.there ∙ r.1) settled));
    big = λ x. absurd (let y : reply.Refused refusals.NotFound ≡ reply.Refused refusals.TooBig = sym e ∙ x in no' y);
  } where
    no : reply.Refused refusals.NotFound ≡ reply.Refused refusals.RemoteFault → ⊥
    no y = cc

    no' : reply.Refused refusals.NotFound ≡ reply.Refused refusals.TooBig → ⊥
    no' y = cc
  refuse_cause refusals.IsDir r e is = record { fault = λ x. absurd (a (sym e ∙ x)); missing = λ x. absurd (b (sym e ∙ x)); big = λ x. absurd (c (sym e ∙ x)) } where
    a : reply.Refused refusals.IsDir ≡ reply.Refused refusals.RemoteFault → ⊥
    a y = cc

    b : reply.Refused refusals.IsDir ≡ reply.Refused refusals.NotFound → ⊥
    b y = cc

    c : reply.Refused refusals.IsDir ≡ reply.Refused refusals.TooBig → ⊥
    c y = cc
  refuse_cause refusals.RemoteFault r e is = fault_cause path done entries old new e (later_rose old.faults mid.faults new.faults f r.1)
  refuse_cause refusals.TooBig r e is = record { fault = λ x. absurd (a (sym e ∙ x)); missing = λ x. absurd (b (sym e ∙ x)); big = λ x. r.1 } where
    a : reply.Refused refusals.TooBig ≡ reply.Refused refusals.RemoteFault → ⊥
    a y = cc

    b : reply.Refused refusals.TooBig ≡ reply.Refused refusals.NotFound → ⊥
    b y = cc
  refuse_cause refusals.Exists r e is = absurd r
  refuse_cause refusals.NotDir r e is = absurd r
  refuse_cause refusals.NotEmpty r e is = absurd r
  refuse_cause refusals.BadHandle r e is = absurd r
  refuse_cause refusals.NotReadable r e is = absurd r
  refuse_cause refusals.NotWritable r e is = absurd r
  refuse_cause refusals.TableFull r e is = absurd r
  refuse_cause refusals.InUse r e is = absurd r
  refuse_cause refusals.Unsupported r e is = absurd r
  refuse_cause refusals.DiskFault r e is = absurd r
  refuse_cause (refusals.Stale held found) r e is = absurd r
  refuse_cause refusals.HistoryFull r e is = absurd r
  refuse_cause refusals.NoMemory r e is = absurd r

-- and says so in the tree
module _ (by : By) (path : List ℕ) (how : How) (done : Record) (met : Met) (past : List Entry) (mid new : Outside) (files : List History) (es lists : List TreeEntry) (m : IsMet met (es ++ lists) path how past) (once : ListsOnce by es lists) where
  refuse_adds : (why : Refusal) → Refuses met mid new why → done.reply ≡ reply.Refused why → OpenAdds by files path how done es (lists ++ refused_open by path why ∷ []) × IsTold why
  refuse_adds refusals.NotFound r e = (inr (inl (e, inr (inl (sym m.create ∙ r.2, record { lists = lists; once = once; is = refl; found = record { free = sym m.used ∙ r.0; nothing = sym m.there ∙ r.1 } })))), inl refl)
  refuse_adds refusals.IsDir r e = (inr (inr (inr (inl (e, record { lists = lists; once = once; is = refl; found = record { free = sym m.used ∙ r.0; there = sym m.there ∙ r.1 } })))), inr (inl refl))
  refuse_adds refusals.RemoteFault r e = (inr (inr (inl (e, inr (record { lists = lists; once = once; is = refl; found = meets_object met (es ++ lists) path how past m r.0 })))), inr (inr (inl refl)))
  refuse_adds refusals.TooBig r e = (inr (inr (inr (inr (inl (e, record { lists = lists; once = once; is = refl; found = meets_object met (es ++ lists) path how past m r.0 }))))), inr (inr (inr (inl refl))))
  refuse_adds refusals.Exists r e = absurd r
  refuse_adds refusals.NotDir r e = absurd r
  refuse_adds refusals.NotEmpty r e = absurd r
  refuse_adds refusals.BadHandle r e = absurd r
  refuse_adds refusals.NotReadable r e = absurd r
  refuse_adds refusals.NotWritable r e = absurd r
  refuse_adds refusals.TableFull r e = absurd r
  refuse_adds refusals.InUse r e = absurd r
  refuse_adds refusals.Unsupported r e = absurd r
  refuse_adds refusals.DiskFault r e = absurd r
  refuse_adds (refusals.Stale held found) r e = absurd r
  refuse_adds refusals.HistoryFull r e = absurd r
  refuse_adds refusals.NoMemory r e = absurd r

pub refuse_did : (holds : Known → Type 0) (by : By) (done : Record) (s t : State) (h : ℕ) (path : List ℕ) (how : How) (met : Met) (past : List Entry) (mid new : Outside) (lists seen : List TreeEntry) (why : Refusal) → by.who.actor ≡ Session 1 → seen ≡ s.tree ++ lists
    → ListsOnce by s.tree lists → IsMet met seen path how past → Refuses met mid new why
    → done.reply ≡ reply.Refused why → done.tree ≡ Some (length seen) → done.file ≡ None → file_at s.table h ≡ None → t.tree ≡ seen ++ refused_open by path why ∷ [] → t.files ≡ s.files → t.table ≡ s.table → t.limit ≡ s.limit
    → Did 1 holds by (call.Open h path how) done s t
refuse_did holds by done s t h path how met past mid new lists seen why own is once m r answer at_tree at_file closed grew files table limit =
    let a = refuse_adds by path how done met past mid new t.files s.tree lists (subst (λ l. IsMet met l path how past) is m) once why r answer in
    told_done holds by done s t h (length seen) path how lists why own a.1 answer at_tree at_file closed (listed_own by s.tree lists own once) a.0 (ap length is ∙ length-append s.tree lists)
    (grew ∙ ap (λ l. l ++ refused_open by path why ∷ []) is ∙ append_assoc s.tree lists (refused_open by path why ∷ [])) files table limit

-- an object that is shown was gone
pub lose_did : (holds : Known → Type 0) (by : By) (done : Record) (s t : State) (h : ℕ) (path : List ℕ) (how : How) (met : Met) (past : List Entry) (lists seen : List TreeEntry) → by.who.actor ≡ Session 1 → seen ≡ s.tree ++ lists
    → ListsOnce by s.tree lists → IsMet met seen path how past → MeetsObject met
    → done.reply ≡ reply.Refused refusals.NotFound → done.tree ≡ Some (length seen + 1) → done.file ≡ None → file_at s.table h ≡ None
    → t.tree ≡ seen ++ in_tree by (tree.Gone path) ∷ refused_open by path refusals.NotFound ∷ [] → t.files ≡ s.files → t.table ≡ s.table → t.limit ≡ s.limit
    → Did 1 holds by (call.Open h path how) done s t
lose_did holds by done s t h path how met past lists seen own is once m meets answer at_tree at_file closed grew files table limit =
    let gone = in_tree by (tree.Gone path) in
    let front = lists ++ gone ∷ [] in
    told_done holds by done s t h (length seen + 1) path how front refusals.NotFound own (inl refl) answer at_tree at_file closed
    (entries_of-append in_tree_of 1 lists (gone ∷ []) ∙ ap (λ l. l ++ entries_of in_tree_of 1 (gone ∷ [])) (listed_own by s.tree lists own once) ∙ ap (λ l. lists ++ l) (one gone (own_in_tree gone own)))
    (inr (inl (answer, inr (inr (record { lists = lists; once = once; is = append_assoc lists (gone ∷ []) (refused_open by path refusals.NotFound ∷ []); found = subst (λ l. ShowsObject path l) is (meets_object met seen path how past m meets) })))))
    (counted _ _ _ _ (ap length is ∙ length-append s.tree lists) (length-append lists (gone ∷ [])))
    (grew ∙ ap (λ l. l ++ gone ∷ refused_open by path refusals.NotFound ∷ []) is ∙ append_assoc s.tree lists (gone ∷ refused_open by path refusals.NotFound ∷ []) ∙ ap (λ l. s.tree ++ l) (sym (append_assoc lists (gone ∷ []) (refused_open by path refusals.NotFound ∷ []))))
    files table limit where
      one : (e : TreeEntry) → in_tree_of e 1 ≡ true → entries_of in_tree_of 1 (e ∷ []) ≡ e ∷ []
      one e h = rw h refl

      counted : (n a b m : ℕ) → n ≡ a + b → m ≡ b + 1 → n + 1 ≡ a + m
      counted n a b m x y = omega (arith, x, y)

-- the root couldn't be listed
pub unlisted_did : (holds : Known → Type 0) (by : By) (done : Record) (s t : State) (h : ℕ) (path : List ℕ) (how : How) (mid : List TreeEntry) (why : Refusal) → by.who.actor ≡ Session 1 → (why ≡ refusals.NotFound) ⊎ (why ≡ refusals.RemoteFault) → mid ≡ s.tree
    → done.reply ≡ reply.Refused why → done.tree ≡ Some (length mid) → done.file ≡ None → file_at s.table h ≡ None → is_listed s.tree ≡ false → t.tree ≡ mid ++ refused_open by path why ∷ [] → t.files ≡ s.files → t.table ≡ s.table → t.limit ≡ s.limit
    → Did 1 holds by (call.Open h path how) done s t
unlisted_did holds by done s t h path how mid why own which is answer at_tree at_file closed unlisted grew files table limit =
    told_done holds by done s t h (length mid) path how [] why own (told which) answer at_tree at_file closed refl (adds why which answer) (grind (arith, ap length is))
    (grew ∙ ap (λ l. l ++ refused_open by path why ∷ []) is) files table limit where
      told : (why ≡ refusals.NotFound) ⊎ (why ≡ refusals.RemoteFault) → IsTold why
      told (inl e) = inl e
      told (inr e) = inr (inr (inl e))

      adds : (why : Refusal) → (why ≡ refusals.NotFound) ⊎ (why ≡ refusals.RemoteFault) → done.reply ≡ reply.Refused why → OpenAdds by t.files path how done s.tree (refused_open by path why ∷ [])
      adds why (inl e) x = inr (inl (x ∙ ap reply.Refused e, inl (unlisted, ap (λ w. refused_open by path w ∷ []) e)))
      adds why (inr e) x = inr (inr (inl (x ∙ ap reply.Refused e, inl (unlisted, ap (λ w. refused_open by path w ∷ []) e))))

-- the disk refused to begin a file, once the root was listed
pub unopened_did : (holds : Known → Type 0) (by : By) (done : Record) (s t : State) (h : ℕ) (path : List ℕ) (how : How) (lists seen : List TreeEntry) → by.who.actor ≡ Session 1 → seen ≡ s.tree ++ lists
    → ListsOnce by s.tree lists → MayBegin path how seen
    → done.reply ≡ reply.Refused refusals.DiskFault → done.tree ≡ Some (length seen) → done.file ≡ None → file_at s.table h ≡ None
    → t.tree ≡ seen ++ refused_open by path refusals.DiskFault ∷ [] → t.files ≡ s.files → t.table ≡ s.table → t.limit ≡ s.limit
    → Did 1 holds by (call.Open h path how) done s t
unopened_did holds by done s t h path how lists seen own is once may answer at_tree at_file closed grew files table limit =
    told_done holds by done s t h (length seen) path how lists refusals.DiskFault own (inr (inr (inr (inr refl)))) answer at_tree at_file closed (listed_own by s.tree lists own once)
    (inr (inr (inr (inr (inr (inl (answer, record { lists = lists; once = once; is = refl; found = subst (MayBegin path how) is may })))))))
    (ap length is ∙ length-append s.tree lists)
    (grew ∙ ap (λ l. l ++ refused_open by path refusals.DiskFault ∷ []) is ∙ append_assoc s.tree lists (refused_open by path refusals.DiskFault ∷ [])) files table limit

-- a file that isn't opened as it is begins of what is there
pub may_begin : {O S : Type 0} (print_of : O → Fingerprint) (met : Met) (seen : List TreeEntry) (path : List ℕ) (how : How) (past : List Entry) (start : Start O S) → IsMet met seen path how past → Starts print_of met start → front_of print_of start ≢ [] → MayBegin path how seen
may_begin print_of met seen path how past Kept m starts some = absurd (some refl)
may_begin print_of met seen path how past Create m starts some = inr (record { free = sym m.used ∙ starts.0; nothing = sym m.there ∙ starts.1 }, sym m.create ∙ starts.2)
may_begin print_of met seen path how past (Bind object) m starts some = inl (meets_object met seen path how past m starts.0)
may_begin print_of met seen path how past (Adopt object) m starts some = inl (meets_object met seen path how past m starts.0)

-- a refusal for the disk has no cause in the remote
pub disk_cause : (path : List ℕ) (done : Record) (entries : List TreeEntry) (old new : Outside) → done.reply ≡ reply.Refused refusals.DiskFault → HasOpenCause path done entries old new
disk_cause path done entries old new e = record { fault = λ x. absurd (a (sym e ∙ x)); missing = λ x. absurd (b (sym e ∙ x)); big = λ x. absurd (c (sym e ∙ x)) } where
  a : reply.Refused refusals.DiskFault ≡ reply.Refused refusals.RemoteFault → ⊥
  a x = cc

  b : reply.Refused refusals.DiskFault ≡ reply.Refused refusals.NotFound → ⊥
  b x = cc

  c : reply.Refused refusals.DiskFault ≡ reply.Refused refusals.TooBig → ⊥
  c x = cc

-- what was met at a path that has a file
pub met_again : (by : By) (es lists seen : List TreeEntry) (table : List (Option Handle)) (path : List ℕ) (how : How) (item : ℕ) (past : List Entry) (used bound : Bool) (held : Option Fingerprint) (there : Option Shown) → seen ≡ es ++ lists → ListsOnce by es lists → item_of es path ≡ Some item
    → IsTied es table item past → used ≡ (is_dirty past || nat_lt 0 (opens_of past)) → held ≡ held_by past → there ≡ shown seen path
    → IsMet (record { used = used; bound = bound; held = held; shown = there; create = how.create }) seen path how past
met_again by es lists seen table path how item past used bound held there is once at tied u h t = record {
  used = u ∙ sym (held_file es table item past tied) ∙ sym (ap (is_held_in es) at) ∙ sym (looked_held by es lists path once) ∙ ap (λ l. is_held_at l path) (sym is);
  there = t;
  create = refl;
  held = h;
  busy = u;
}

-- and at one that has none
pub met_new : (by : By) (es lists seen : List TreeEntry) (path : List ℕ) (how : How) (there : Option Shown) → seen ≡ es ++ lists → ListsOnce by es lists → item_of es path ≡ None → there ≡ shown seen path
    → IsMet (record { used = false; bound = false; held = None; shown = there; create = how.create }) seen path how []
met_new by es lists seen path how there is once at t = record {
  used = sym (ap (λ l. is_held_at l path) is ∙ looked_held by es lists path once ∙ ap (is_held_in es) at);
  there = t;
  create = refl;
  held = refl;
  busy = refl;
}

-- the file of a path was begun so and opened
module _ {O S : Type 0} (print_of : O → Fingerprint) (holds : Known → Type 0) (by : By) (done : Record) (s t : State) (h item m n made : ℕ) (path own : List ℕ) (how : How) (lists seen : List TreeEntry) (met : Met) (start : Start O S) (print : Option Fingerprint)
    (mine : by.who.actor ≡ Session 1) (answer : done.reply ≡ reply.Done) (at_tree : done.tree ≡ Some m) (at_file : done.file ≡ Some (record { 0 = item }, n)) (closed : file_at s.table h ≡ None) (small : h < length s.table)
    (is : seen ≡ s.tree ++ lists) (once : ListsOnce by s.tree lists) (same : own ≡ path) (item_at : IsItemAt seen path item)
    (g : Goes s.files t.files item (opening by how.access made (front_of print_of start))) (held : WasHeld t.files item n print) (ends : m ≡ length seen) (end : n ≡ length (entries_in s.files item) + length (front_of print_of start))
    (m' : IsMet met seen path how (reverse (entries_in s.files item))) (starts : Starts print_of met start)
    (grew : t.tree ≡ seen ++ in_tree by (opened_kind (is_create start) own item print) ∷ []) (table : t.table ≡ set s.table h (Some (record { item = item; access = how.access }))) (limit : t.limit ≡ s.limit) where
  pub begun_did : Did 1 holds by (call.Open h path how) done s t
  begun_did = open_done holds by done s t h item m n made path how lists (is_create start) print (front_of print_of start) mine answer at_tree at_file closed small once
      (subst (OpensPath how path item print (opened_kind (is_create start) path item print)) is (opens_path print_of met seen path how (reverse (entries_in s.files item)) m' item print by made start item_at
      (held_is t.files item (entries_in s.files item) by how.access made (front_of print_of start) n print g.own end held) starts))
      held g (start_begins print_of start) (ends ∙ ap length is) end
      (grew ∙ ap (λ l. l ++ in_tree by (opened_kind (is_create start) own item print) ∷ []) is ∙ ap (λ p. (s.tree ++ lists) ++ in_tree by (opened_kind (is_create start) p item print) ∷ []) same) table limit

-- the cause of a listing's refusal
pub missing_of : {A B : Type 0} (w : Refusal) → w ≡ refusals.NotFound → ((w ≡ refusals.NotFound) × A) ⊎ ((w ≡ refusals.RemoteFault) × B) ⊎ (w ≡ refusals.NoMemory) → A
missing_of w is (inl h) = h.1
missing_of w is (inr (inl h)) = absurd (let e = h.0 in cc)
missing_of w is (inr (inr h)) = absurd (cc)

pub fault_of : {A B : Type 0} (w : Refusal) → w ≡ refusals.RemoteFault → ((w ≡ refusals.NotFound) × A) ⊎ ((w ≡ refusals.RemoteFault) × B) ⊎ (w ≡ refusals.NoMemory) → B
fault_of w is (inl h) = absurd (let e = h.0 in cc)
fault_of w is (inr (inl h)) = h.1
fault_of w is (inr (inr h)) = absurd (cc)
