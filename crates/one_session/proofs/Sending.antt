-- The parts of a session's state fit together after an upload.
use Rattle.std.proofs.Common.{◌≡◌, ◌≢◌, ◌⊎◌, ◌<◌, ◌≤◌, ℕ, ◌+◌, ◌-◌, ◌++◌, ◌∙◌, ◌||◌, ap, sym, refl, subst, inl, inr, arith, Bool, true, false, Option, None, Some, List, [], ◌∷◌, length, reverse, cond, eqb, length-append, append-nil, length-set, true≢false}
use Rattle.std.specs.Prelude.{IfSome}
use Rattle.std.specs.List.{AllByRecursion, count_by}
use Rattle.std.proofs.Math.Nat.{add-zero}
use Rattle.std.proofs.lemmas.Bool.{ne_eqb, eq-eqb}
use Rattle.std.proofs.lemmas.Bool.Decides.{eqb_tells}
use Rattle.std.proofs.lemmas.List.{reverse-append, reverse-reverse, get_or-set_same, get_or-set_other}
use Rattle.vfs_names.specs.declared.fingerprint.Fingerprint.{Fingerprint}
use Rattle.vfs_names.specs.declared.who.Actor.TheVariants.{Main}
use Rattle.vfs_names.specs.declared.who.By.{By}
use Rattle.vfs_outside.specs.declared.tree.TreeEntry.{TreeEntry}
use Rattle.vfs_outside.specs.declared.tree.TreeKind.TheVariants as tree
use Rattle.item_core.specs.declared.entry.Entry.{Entry}
use Rattle.item_core.specs.declared.entry.FileKind.{FileKind}
use Rattle.item_core.specs.declared.entry.FileKind.TheVariants as file
use Rattle.item_core.specs.declared.entry.Dropped.{Dropped}
use Rattle.item_core.specs.Effects.{is_closed, is_end, is_opened, is_start, kept_after}
use Rattle.item_core.specs.History.{count_of, is_dirty, is_kept, opens_of}
use Rattle.item_core.specs.Legal.{IsNoLater}
use Rattle.item_core.specs.Names.{name_after, name_of, names_before}
use Rattle.one_session.specs.Calls.{in_file, in_tree}
use Rattle.one_session.specs.Sound.{IsOwnPast, IsSound, IsSoundFile, IsTied, has_file, has_some, is_renaming}
use Rattle.one_session.specs.State.{History, entries_in, history_in, names_in}
use Rattle.one_session.specs.Tree.{closed_in, files_of, is_close, is_item, is_open, item_of, left_dirty, opened_in}
use Rattle.one_session.specs.Views.{add_to}
use Rattle.one_session.specs.Whole.{IsMadeInTree, IsNamed, IsUpTo, names_file}
use Rattle.one_session.specs.declared.handle.Handle.{Handle}
use Rattle.one_session.proofs.Keeping.{Goes, goes_on, grown_past, made_step, tied_same}
use Rattle.one_session.proofs.Makers.{all_append, all_reverse}
use Rattle.one_session.proofs.Trees.{closed_more, count_more, files_more, item_more, left_more, opened_more}

-- the tree names, opens and closes what it did before
pub record IsSameTree (es es' : List TreeEntry) : Type 0 where
  pub item : (path : List ℕ) → item_of es' path ≡ item_of es path
  pub files : files_of es' ≡ files_of es
  pub longer : length es ≤ length es'
  pub opened : (i : ℕ) → opened_in es' i ≡ opened_in es i
  pub closed : (i : ℕ) → closed_in es' i ≡ closed_in es i
  pub opens : count_by (λ (e : TreeEntry). is_open e.kind) es' ≡ count_by (λ (e : TreeEntry). is_open e.kind) es
  pub closes : count_by (λ (e : TreeEntry). is_close e.kind) es' ≡ count_by (λ (e : TreeEntry). is_close e.kind) es
  pub made : AllByRecursion (IsMadeInTree 1) es'

pub same_tree : (es : List TreeEntry) → AllByRecursion (IsMadeInTree 1) es → IsSameTree es es
same_tree es made = record { item = λ path. refl; files = refl; longer = omega arith; opened = λ i. refl; closed = λ i. refl; opens = refl; closes = refl; made = made }

pub stored_tree : (es : List TreeEntry) (by : By) (path : List ℕ) (print : Fingerprint) → by.who.actor ≡ Main → AllByRecursion (IsMadeInTree 1) es → IsSameTree es (es ++ in_tree by (tree.Stored path print) ∷ [])
stored_tree es by path print actor made = let e = in_tree by (tree.Stored path print) in record {
  item = item_more es e;
  files = files_more es e;
  longer = omega (arith, length-append es (e ∷ []));
  opened = λ i. opened_more es e i ∙ add-zero (opened_in es i);
  closed = λ i. closed_more es e i ∙ add-zero (closed_in es i);
  opens = count_more (λ (e : TreeEntry). is_open e.kind) es e ∙ add-zero (count_by (λ (e : TreeEntry). is_open e.kind) es);
  closes = count_more (λ (e : TreeEntry). is_close e.kind) es e ∙ add-zero (count_by (λ (e : TreeEntry). is_close e.kind) es);
  made = all_append (IsMadeInTree 1) es (e ∷ []) made (inr (actor, refl), tt);
}

-- what was stored at a file's path leaves the file clean, and no other
pub stored_own : (es : List TreeEntry) (by : By) (path : List ℕ) (print : Fingerprint) (item : ℕ) → item_of es path ≡ Some item → left_dirty (es ++ in_tree by (tree.Stored path print) ∷ []) item ≡ false
stored_own es by path print item at = left_more es (in_tree by (tree.Stored path print)) item
    ∙ ap (λ found. cond (is_item item found) false (left_dirty es item)) at ∙ ap (λ b. cond b false (left_dirty es item)) (eq-eqb item item refl)

pub stored_other : (es : List TreeEntry) (by : By) (path : List ℕ) (print : Fingerprint) (item i : ℕ) → item_of es path ≡ Some item → i ≢ item → left_dirty (es ++ in_tree by (tree.Stored path print) ∷ []) i ≡ left_dirty es i
stored_other es by path print item i at ne = left_more es (in_tree by (tree.Stored path print)) i
    ∙ ap (λ found. cond (is_item i found) false (left_dirty es i)) at ∙ ap (λ b. cond b false (left_dirty es i)) (ne_eqb item i (λ e. ne (sym e)))

-- the kind ends an upload
pub record IsEnd (k : FileKind) : Type 0 where
  pub kept : (b : Bool) → kept_after k b ≡ b
  pub no_open : is_opened k ≡ false
  pub no_close : is_closed k ≡ false
  pub no_name : names_file k ≡ false
  pub no_move : is_renaming k ≡ false
  pub ends : is_start k || is_end k ≡ true

pub saved_end : (start : ℕ) (print : Fingerprint) → IsEnd (file.Uploaded start print)
saved_end start print = record { kept = λ b. refl; no_open = refl; no_close = refl; no_name = refl; no_move = refl; ends = refl }

pub dropped_end : (start : ℕ) (why : Dropped) → IsEnd (file.UploadDropped start why)
dropped_end start why = record { kept = λ b. refl; no_open = refl; no_close = refl; no_name = refl; no_move = refl; ends = refl }

count_skip : (such : FileKind → Bool) (e : Entry) (past : List Entry) → such e.kind ≡ false → count_of such (e ∷ past) ≡ count_of such past
count_skip such e past no_such = rw no_such refl

-- what is no later than a maker is so whatever it holds
no_later : (past : List Entry) (a b : By) → a.who.phase ≡ b.who.phase → a.now ≡ b.now → IsNoLater past a → IsNoLater past b
no_later [] a b w n h = tt
no_later (x ∷ past) a b w n h = (omega (arith, w, h.0), omega (arith, n, h.1))

-- an upload of a file began and ended
module _ (es es' : List TreeEntry) (paths : List (List ℕ)) (files : List History) (table : List (Option Handle)) (item : ℕ) (by : By) (at at' version : ℕ) (k : FileKind) (s : IsSound es paths files table) (lt : item < length files)
    (actor : by.who.actor ≡ Main) (pass : by.pass ≡ 0) (up : IsUpTo by files) (e : IsEnd k) (same : IsSameTree es es')
    (left_own : opens_of (reverse (entries_in files item)) ≡ 0 → left_dirty es' item ≡ is_dirty (in_file by true at' k ∷ in_file by true at (file.UploadStart version) ∷ reverse (entries_in files item)))
    (left_other : (i : ℕ) → i ≢ item → left_dirty es' i ≡ left_dirty es i) where
  abbrev begun : Entry
  begun = in_file by true at (file.UploadStart version)

  abbrev ended : Entry
  ended = in_file by true at' k

  abbrev past : List Entry
  past = reverse (entries_in files item)

  abbrev files' : List History
  files' = add_to files item (in_file by true at (file.UploadStart version) ∷ in_file by true at' k ∷ []) []

  g : Goes files files' item (begun ∷ ended ∷ [])
  g = goes_on files item (begun ∷ ended ∷ []) [] lt

  same_length : length files' ≡ length files
  same_length = length-set files item (record { entries = entries_in files item ++ begun ∷ ended ∷ []; names = names_in files item ++ [] })

  own_past : IsOwnPast past → IsOwnPast (ended ∷ begun ∷ past)
  own_past p = record {
    pass = made_step ended (begun ∷ past) pass ∙ ap (λ l. ended ∷ l) (made_step begun past pass ∙ ap (λ l. begun ∷ l) p.pass);
    made = (inr (actor, e.ends), (inr (actor, refl), p.made));
    unmoved = (e.no_move, (refl, p.unmoved));
    timely = ((omega arith, omega arith), (no_later past by begun.by refl refl (up item), p.timely));
  }

  each : (i : ℕ) → ((eqb i item ≡ true) × (i ≡ item)) ⊎ ((eqb i item ≡ false) × (i ≢ item)) → i < length files → IsSoundFile (reverse (entries_in files' i))
  each i (inl h) l = subst (λ j. IsSoundFile (reverse (entries_in files' j))) (sym h.1) (subst IsSoundFile (sym (grown_past g)) (record {
    kept = e.kept (is_kept past) ∙ (s.each item lt).kept;
    own = own_past (s.each item lt).own;
  }))
  each i (inr h) l = subst (λ x. IsSoundFile (reverse x)) (sym (g.others i h.1)) (s.each i l)

  skips : (such : FileKind → Bool) → such (file.UploadStart version) ≡ false → such k ≡ false → count_of such (ended ∷ begun ∷ past) ≡ count_of such past
  skips such a b = count_skip such ended (begun ∷ past) b ∙ count_skip such begun past a

  tied : (i : ℕ) → ((eqb i item ≡ true) × (i ≡ item)) ⊎ ((eqb i item ≡ false) × (i ≢ item)) → IsTied es' table i (reverse (entries_in files' i))
  tied i (inl h) = let t = s.tied item in let op = skips is_opened refl e.no_open in let cl = skips is_closed refl e.no_close in
      subst (λ j. IsTied es' table j (reverse (entries_in files' j))) (sym h.1) (subst (λ l. IsTied es' table item l) (sym (grown_past g)) (record {
        handles = op ∙ t.handles ∙ ap (λ n. n + count_by (has_file item) table) (sym cl);
        opened = same.opened item ∙ t.opened ∙ sym op;
        closed = same.closed item ∙ t.closed ∙ sym cl;
        rest = λ none. left_own (ap (λ n. n - count_of is_closed past) (sym op) ∙ ap (λ n. count_of is_opened (ended ∷ begun ∷ past) - n) (sym cl) ∙ none);
      }))
  tied i (inr h) = subst (λ x. IsTied es' table i (reverse x)) (sym (g.others i h.1)) (tied_same es es' table table i _ refl (same.opened i) (same.closed i) (left_other i h.1) (s.tied i))

  names : (ns : List (List ℕ)) (i : ℕ) → AllByRecursion (λ name. item_of es name ≡ Some i) ns → AllByRecursion (λ name. item_of es' name ≡ Some i) ns
  names [] i x = x
  names (n ∷ ns) i x = (same.item n ∙ x.0, names ns i x.1)

  named : (i : ℕ) → ((eqb i item ≡ true) × (i ≡ item)) ⊎ ((eqb i item ≡ false) × (i ≢ item)) → i < length files → IsNamed es' i (history_in files' i)
  named i (inl h) l = let new : History = record { entries = entries_in files item ++ begun ∷ ended ∷ []; names = names_in files item ++ [] } in
      subst (λ j. IsNamed es' j (history_in files' j)) (sym h.1) (subst (IsNamed es' item) (sym (get_or-set_same files item new (record { entries = []; names = [] }) lt)) (record {
        count = ap length (append-nil (names_in files item)) ∙ (s.named item lt).count ∙ sym (ap (count_of names_file) (reverse-append (entries_in files item) (begun ∷ ended ∷ [])) ∙ skips names_file refl e.no_name);
        each = subst (AllByRecursion (λ name. item_of es' name ≡ Some item)) (sym (append-nil (names_in files item))) (names (names_in files item) item (s.named item lt).each);
      }))
  named i (inr h) l = subst (IsNamed es' i) (sym (get_or-set_other files item i (record { entries = entries_in files item ++ begun ∷ ended ∷ []; names = names_in files item ++ [] }) (record { entries = []; names = [] }) h.1))
      (record { count = (s.named i l).count; each = names (names_in files i) i (s.named i l).each })

  pub sent_sound : IsSound es' paths (add_to files item (in_file by true at (file.UploadStart version) ∷ in_file by true at' k ∷ []) []) table
  sent_sound = record {
    size = s.size;
    found = λ path. s.found path ∙ sym (same.item path);
    count = s.count ∙ sym same_length;
    numbered = same.files ∙ s.numbered ∙ sym same_length;
    few = omega (arith, same_length, s.few, same.longer);
    named = λ i l. named i (eqb_tells i item) (omega (arith, same_length, l));
    each = λ i l. each i (eqb_tells i item) (omega (arith, same_length, l));
    tied = λ i. tied i (eqb_tells i item);
    handles = same.opens ∙ s.handles ∙ ap (λ n. n + count_by has_some table) (sym same.closes);
    inside = λ handle opened x. omega (arith, same_length, s.inside handle opened x);
    made = same.made;
  }

  later : (i : ℕ) → ((eqb i item ≡ true) × (i ≡ item)) ⊎ ((eqb i item ≡ false) × (i ≢ item)) → IsNoLater (reverse (entries_in files' i)) by
  later i (inl h) = subst (λ j. IsNoLater (reverse (entries_in files' j)) by) (sym h.1) (subst (λ l. IsNoLater l by) (sym (grown_past g)) (omega arith, omega arith))
  later i (inr h) = subst (λ l. IsNoLater (reverse l) by) (sym (g.others i h.1)) (up i)

  pub sent_later : IsUpTo by (add_to files item (in_file by true at (file.UploadStart version) ∷ in_file by true at' k ∷ []) [])
  sent_later i = later i (eqb_tells i item)

-- a file's path is among those that stand beside its history
path_in : (P : List ℕ → Type 0) (kind : FileKind) (names : List (List ℕ)) (old : Option (List ℕ)) → is_renaming kind ≡ false → AllByRecursion P names → IfSome old P → IfSome (name_after kind names old) P
path_in P file.Create [] old still all h = tt
path_in P file.Create (n ∷ names) old still all h = all.0
path_in P (file.Adopt print) [] old still all h = tt
path_in P (file.Adopt print) (n ∷ names) old still all h = all.0
path_in P (file.Recovered size base_end dirty base) [] old still all h = tt
path_in P (file.Recovered size base_end dirty base) (n ∷ names) old still all h = all.0
path_in P (file.Rename path) names old still all h = absurd (true≢false still)
path_in P _ names old still all h = h

before_in : (P : List ℕ → Type 0) (kind : FileKind) (names : List (List ℕ)) → AllByRecursion P names → AllByRecursion P (names_before kind names)
before_in P file.Create [] all = all
before_in P file.Create (n ∷ names) all = all.1
before_in P (file.Adopt print) [] all = all
before_in P (file.Adopt print) (n ∷ names) all = all.1
before_in P (file.Recovered size base_end dirty base) [] all = all
before_in P (file.Recovered size base_end dirty base) (n ∷ names) all = all.1
before_in P _ names all = all

pub name_in : (P : List ℕ → Type 0) (past : List Entry) (names : List (List ℕ)) → AllByRecursion (λ (e : Entry). is_renaming e.kind ≡ false) past → AllByRecursion P names → IfSome (name_of past names) P
name_in P [] names still all = tt
name_in P (e ∷ older) names still all = path_in P e.kind names (name_of older (names_before e.kind names)) still.0 all (name_in P older (names_before e.kind names) still.1 (before_in P e.kind names all))

-- so that the tree names the file by its path
pub path_names : (es : List TreeEntry) (paths : List (List ℕ)) (files : List History) (table : List (Option Handle)) (item : ℕ) (past : List Entry) (names : List (List ℕ)) (path : List ℕ) → IsSound es paths files table → item < length files
    → reverse (entries_in files item) ≡ past → names_in files item ≡ reverse names → name_of past names ≡ Some path → item_of es path ≡ Some item
path_names es paths files table item past names path s lt is stored at = subst (λ o. IfSome o (λ name. item_of es name ≡ Some item)) at
    (name_in (λ name. item_of es name ≡ Some item) past names (subst (AllByRecursion (λ (e : Entry). is_renaming e.kind ≡ false)) is (s.each item lt).own.unmoved)
    (subst (AllByRecursion (λ name. item_of es name ≡ Some item)) (reverse-reverse names) (all_reverse (λ name. item_of es name ≡ Some item) (reverse names)
    (subst (AllByRecursion (λ name. item_of es name ≡ Some item)) stored (s.named item lt).each))))
