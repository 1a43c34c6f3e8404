-- The parts of a session's state fit together after one call more.
use Rattle.std.proofs.Common.{◌≡◌, ◌≢◌, ◌⊎◌, ◌<◌, ◌≤◌, ℕ, zero, suc, ◌+◌, ◌-◌, ◌++◌, ◌∙◌, ap, sym, refl, subst, inl, inr, arith, Bool, true, false, Option, None, Some, List, [], ◌∷◌, length, map, reverse, set, cond, eqb, max, nat_lt, ◌||◌, length-append, append_assoc, append-nil, length-set}
use Rattle.std.specs.List.{AllByRecursion, count_by, position}
use Rattle.std.proofs.Math.Bool.{or-false, or-true}
use Rattle.std.proofs.Math.Nat.{add-zero}
use Rattle.std.proofs.lemmas.Bool.{ne_eqb, eq-eqb}
use Rattle.std.proofs.lemmas.Bool.Decides.{eqb_tells}
use Rattle.std.proofs.lemmas.List.{reverse-append, get_or-set_same, get_or-set_other}
use Rattle.std.proofs.lemmas.Option.{none-some}
use Rattle.vfs_names.specs.Path.{same_text}
use Rattle.vfs_names.specs.declared.fingerprint.Fingerprint.{Fingerprint}
use Rattle.vfs_names.specs.declared.who.Actor.TheVariants.{Session}
use Rattle.vfs_names.specs.declared.who.By.{By}
use Rattle.vfs_outside.specs.declared.tree.TreeEntry.{TreeEntry}
use Rattle.vfs_outside.specs.declared.tree.TreeKind.TheVariants as tree
use Rattle.item_core.specs.declared.entry.Entry.{Entry}
use Rattle.item_core.specs.declared.entry.FileKind.{FileKind}
use Rattle.item_core.specs.declared.entry.FileKind.TheVariants as file
use Rattle.item_core.specs.Effects.{is_opened, is_closed, kept_after}
use Rattle.item_core.specs.History.{count_of, is_dirty, is_kept, made_by, opens_by, opens_of}
use Rattle.item_core.specs.Legal.{IsNoLater}
use Rattle.one_session.specs.Calls.{in_file, in_tree}
use Rattle.one_session.specs.Served.{in_file_of, in_tree_of, is_session}
use Rattle.one_session.specs.Sound.{is_renaming, IsOwnPast, IsSound, IsSoundFile, IsTied, has_file, has_some}
use Rattle.one_session.specs.Start.{opened_kind}
use Rattle.one_session.specs.State.{History, entries_in, file_at, history_in, names_in}
use Rattle.one_session.specs.Tree.{closed_in, closes_item, files_after, files_of, is_close, is_held, is_open, item_after, item_of, left_after, left_dirty, opened_in, opens_item}
use Rattle.one_session.specs.Views.{add_to}
use Rattle.one_session.specs.Whole.{IsMadeInTree, IsNamed, IsUpTo, names_file}
use Rattle.one_session.specs.declared.handle.Handle.{Handle}
use Rattle.one_session.proofs.Makers.{all_append}
use Rattle.one_session.proofs.Tables.{at_put, opened_other, opened_own, opened_some, shut_other, shut_own, shut_some, some_open}
use Rattle.one_session.proofs.Trees.{IsPlain, closed_more, closed_plain, count_more, files_more, item_more, item_plain, left_more, left_plain, opened_more, opened_plain}

-- one of the files goes on by these entries, and the others stay
pub record Goes (files files' : List History) (item : ℕ) (more : List Entry) : Type 0 where
  pub own : entries_in files' item ≡ entries_in files item ++ more
  pub others : (i : ℕ) → i ≢ item → entries_in files' i ≡ entries_in files i

pub goes_on : (files : List History) (item : ℕ) (more : List Entry) (names : List (List ℕ)) → item < length files → Goes files (add_to files item more names) item more
goes_on files item more names lt = let none : History = record { entries = []; names = [] } in let new : History = record { entries = entries_in files item ++ more; names = names_in files item ++ names } in record {
  own = ap (λ (h : History). h.entries) (get_or-set_same files item new none lt);
  others = λ i ne. ap (λ (h : History). h.entries) (get_or-set_other files item i new none ne);
}

-- what stands after a file was added at the end
pub last_is : (files : List History) (h : History) → history_in (files ++ h ∷ []) (length files) ≡ h
last_is [] h = refl
last_is (f ∷ files) h = last_is files h

pub before_is : (files : List History) (h : History) (i : ℕ) → i ≢ length files → history_in (files ++ h ∷ []) i ≡ history_in files i
before_is [] h zero ne = absurd (ne refl)
before_is [] h (suc i) ne = refl
before_is (f ∷ files) h zero ne = refl
before_is (f ∷ files) h (suc i) ne = before_is files h i (λ e. ne (ap suc e))

-- there is nothing past the last file
pub none_past : (files : List History) (i : ℕ) → length files ≤ i → entries_in files i ≡ []
none_past [] i le = refl
none_past (f ∷ files) zero le = absurd (omega (arith, le))
none_past (f ∷ files) (suc i) le = none_past files i (omega (arith, le))

pub goes_new : (files : List History) (more : List Entry) (names : List (List ℕ)) → Goes files (files ++ record { entries = more; names = names } ∷ []) (length files) more
goes_new files more names = let h : History = record { entries = more; names = names } in record {
  own = ap (λ (h : History). h.entries) (last_is files h) ∙ ap (λ l. l ++ more) (sym (none_past files (length files) (omega arith)));
  others = λ i ne. ap (λ (h : History). h.entries) (before_is files h i ne);
}

-- what the session made is its own
own_entry : (by : By) (under : Bool) (made : ℕ) (kind : FileKind) → by.who.actor ≡ Session 1 → in_file_of (in_file by under made kind) 1 ≡ true
own_entry by under made kind h = ap (λ a. is_session a 1) h

pub own_in_tree : (e : TreeEntry) → e.by.who.actor ≡ Session 1 → in_tree_of e 1 ≡ true
own_in_tree e h = ap (λ a. is_session a 1) h

-- one entry more
pub made_step : (e : Entry) (past : List Entry) → e.by.pass ≡ 0 → made_by 0 (e ∷ past) ≡ e ∷ made_by 0 past
made_step e past h = rw h refl

own_step : (by : By) (under : Bool) (made : ℕ) (kind : FileKind) (past : List Entry) → by.who.actor ≡ Session 1 → by.pass ≡ 0 → is_renaming kind ≡ false → IsNoLater past by → IsOwnPast past → IsOwnPast (in_file by under made kind ∷ past)
own_step by under made kind past own pass still later p = record {
  pass = made_step (in_file by under made kind) past pass ∙ ap (λ l. in_file by under made kind ∷ l) p.pass;
  made = (inl (own_entry by under made kind own), p.made);
  unmoved = (still, p.unmoved);
  timely = (no_later past by (in_file by under made kind).by refl refl later, p.timely);
} where
  no_later : (past : List Entry) (a b : By) → a.who.phase ≡ b.who.phase → a.now ≡ b.now → IsNoLater past a → IsNoLater past b
  no_later [] a b w n h = tt
  no_later (x ∷ past) a b w n h = (omega (arith, w, h.0), omega (arith, n, h.1))

-- and some more
turned : (e : Entry) (more past : List Entry) → reverse (e ∷ more) ++ past ≡ reverse more ++ (e ∷ past)
turned e more past = ap (λ l. l ++ past) (reverse-append (e ∷ []) more) ∙ append_assoc (reverse more) (e ∷ []) past

pub own_all : (by : By) (under : Bool) (made : ℕ) (kinds : List FileKind) (past : List Entry) → by.who.actor ≡ Session 1 → by.pass ≡ 0 → AllByRecursion (λ (kind : FileKind). is_renaming kind ≡ false) kinds → IsNoLater past by → IsOwnPast past → IsOwnPast (reverse (map (in_file by under made) kinds) ++ past)
own_all by under made [] past own pass still later p = p
own_all by under made (kind ∷ kinds) past own pass still later p = subst IsOwnPast (sym (turned (in_file by under made kind) (map (in_file by under made) kinds) past))
    (own_all by under made kinds (in_file by under made kind ∷ past) own pass still.1 (omega arith, omega arith) (own_step by under made kind past own pass still.0 later p))

later_all : (by : By) (under : Bool) (made : ℕ) (kinds : List FileKind) (past : List Entry) → IsNoLater past by → IsNoLater (reverse (map (in_file by under made) kinds) ++ past) by
later_all by under made [] past later = later
later_all by under made (kind ∷ kinds) past later = subst (λ l. IsNoLater l by) (sym (turned (in_file by under made kind) (map (in_file by under made) kinds) past))
    (later_all by under made kinds (in_file by under made kind ∷ past) (omega arith, omega arith))

-- the history of the file that goes on, its newest entry first
pub grown_past : {files files' : List History} {item : ℕ} {more : List Entry} → Goes files files' item more → reverse (entries_in files' item) ≡ reverse more ++ reverse (entries_in files item)
grown_past {files = files} {item = item} {more = more} g = ap reverse g.own ∙ reverse-append (entries_in files item) more

-- nothing is later than what was just made
pub up_to : (files files' : List History) (item : ℕ) (by : By) (under : Bool) (made : ℕ) (kinds : List FileKind) → Goes files files' item (map (in_file by under made) kinds) → IsUpTo by files → IsUpTo by files'
up_to files files' item by under made kinds g up i = at i (eqb_tells i item) where
  at : (i : ℕ) → ((eqb i item ≡ true) × (i ≡ item)) ⊎ ((eqb i item ≡ false) × (i ≢ item)) → IsNoLater (reverse (entries_in files' i)) by
  at i (inl h) = subst (λ j. IsNoLater (reverse (entries_in files' j)) by) (sym h.1)
      (subst (λ l. IsNoLater l by) (sym (grown_past g)) (later_all by under made kinds (reverse (entries_in files item)) (up item)))
  at i (inr h) = subst (λ l. IsNoLater l by) (ap reverse (sym (g.others i h.1))) (up i)

-- the tree and the table after a call
pub record Fit (tree : List TreeEntry) (table : List (Option Handle)) (count : ℕ) : Type 0 where
  pub size : length table ≡ 256
  pub handles : count_by (λ (e : TreeEntry). is_open e.kind) tree ≡ count_by (λ (e : TreeEntry). is_close e.kind) tree + count_by has_some table
  pub inside : (handle : ℕ) (k : Handle) → file_at table handle ≡ Some k → k.item < count
  pub made : AllByRecursion (IsMadeInTree 1) tree

made_more : (es : List TreeEntry) (e : TreeEntry) → e.by.who.actor ≡ Session 1 → AllByRecursion (IsMadeInTree 1) es → AllByRecursion (IsMadeInTree 1) (es ++ e ∷ [])
made_more es e own h = all_append (IsMadeInTree 1) es (e ∷ []) h (inl (own_in_tree e own), tt)

same_fit : (es : List TreeEntry) (paths : List (List ℕ)) (files : List History) (table : List (Option Handle)) → IsSound es paths files table → Fit es table (length files)
same_fit es paths files table s = record { size = s.size; handles = s.handles; inside = s.inside; made = s.made }

plus : (n : ℕ) (b : Bool) → b ≡ false → n + cond b 1 0 ≡ n
plus n b e = rw e (omega arith)

plus_one : (n : ℕ) (b : Bool) → b ≡ true → n + cond b 1 0 ≡ n + 1
plus_one n b e = rw e refl

-- what is counted of handles that were put into the table
put_inside : (table : List (Option Handle)) (h : ℕ) (v : Option Handle) (count count' : ℕ) → h < length table → count ≤ count' → ((k : Handle) → v ≡ Some k → k.item < count')
    → ((handle : ℕ) (k : Handle) → file_at table handle ≡ Some k → k.item < count) → (handle : ℕ) (k : Handle) → file_at (set table h v) handle ≡ Some k → k.item < count'
put_inside table h v count count' lt le new old handle k = tell (eqb_tells h handle) where
  tell : ((eqb h handle ≡ true) × (h ≡ handle)) ⊎ ((eqb h handle ≡ false) × (h ≢ handle)) → file_at (set table h v) handle ≡ Some k → k.item < count'
  tell (inl t) e = new k (sym (at_put table h handle v lt ∙ ap (λ b. cond b v (file_at table handle)) t.0) ∙ e)
  tell (inr t) e = omega (arith, le, old handle k (sym (at_put table h handle v lt ∙ ap (λ b. cond b v (file_at table handle)) t.0) ∙ e))

-- the tree and the table fit after a close
fit_shut : (es : List TreeEntry) (e : TreeEntry) (table : List (Option Handle)) (h : ℕ) (k : Handle) (count : ℕ) → Fit es table count → is_open e.kind ≡ false → is_close e.kind ≡ true → e.by.who.actor ≡ Session 1
    → h < length table → file_at table h ≡ Some k → Fit (es ++ e ∷ []) (set table h None) count
fit_shut es e table h k count f o c own lt at = record {
  size = length-set table h None ∙ f.size;
  handles = closed _ _ _ (count_more (λ (x : TreeEntry). is_open x.kind) es e ∙ plus (count_by (λ (x : TreeEntry). is_open x.kind) es) (is_open e.kind) o)
      (count_more (λ (x : TreeEntry). is_close x.kind) es e ∙ plus_one (count_by (λ (x : TreeEntry). is_close x.kind) es) (is_close e.kind) c) f.handles (shut_some table h k lt at);
  inside = put_inside table h None count count lt (omega arith) (λ k e. absurd (none-some k e)) f.inside;
  made = made_more es e own f.made;
} where
  closed : {opens opens' closes' : ℕ} (closes some some' : ℕ) → opens' ≡ opens → closes' ≡ closes + 1 → opens ≡ closes + some → some' + 1 ≡ some → opens' ≡ closes' + some'
  closed closes some some' x y z w = omega (arith, x, y, z, w)

-- and after an open of a file inside
fit_opened : (es : List TreeEntry) (e : TreeEntry) (table : List (Option Handle)) (h : ℕ) (k : Handle) (count count' : ℕ) → Fit es table count → count ≤ count' → k.item < count' → is_open e.kind ≡ true → is_close e.kind ≡ false → e.by.who.actor ≡ Session 1
    → h < length table → file_at table h ≡ None → Fit (es ++ e ∷ []) (set table h (Some k)) count'
fit_opened es e table h k count count' f le inner o c own lt at = record {
  size = length-set table h (Some k) ∙ f.size;
  handles = opened _ _ _ (count_more (λ (x : TreeEntry). is_open x.kind) es e ∙ plus_one (count_by (λ (x : TreeEntry). is_open x.kind) es) (is_open e.kind) o)
      (count_more (λ (x : TreeEntry). is_close x.kind) es e ∙ plus (count_by (λ (x : TreeEntry). is_close x.kind) es) (is_close e.kind) c) f.handles (opened_some table h k lt at);
  inside = put_inside table h (Some k) count count' lt le (λ j e. subst (λ (x : Handle). x.item < count') (same j e) inner) f.inside;
  made = made_more es e own f.made;
} where
  opened : {opens opens' closes' : ℕ} (closes some some' : ℕ) → opens' ≡ opens + 1 → closes' ≡ closes → opens ≡ closes + some → some' ≡ some + 1 → opens' ≡ closes' + some'
  opened closes some some' x y z w = omega (arith, x, y, z, w)

  same : (j : Handle) → Some k ≡ Some j → k ≡ j
  same j e = cc

-- and after an entry that opens and closes nothing
fit_more : (es : List TreeEntry) (e : TreeEntry) (table : List (Option Handle)) (count : ℕ) → Fit es table count → IsPlain e.kind → e.by.who.actor ≡ Session 1 → Fit (es ++ e ∷ []) table count
fit_more es e table count f p own = record {
  size = f.size;
  handles = stays _ (count_more (λ (x : TreeEntry). is_open x.kind) es e ∙ plus (count_by (λ (x : TreeEntry). is_open x.kind) es) (is_open e.kind) p.no_open)
      (count_more (λ (x : TreeEntry). is_close x.kind) es e ∙ plus (count_by (λ (x : TreeEntry). is_close x.kind) es) (is_close e.kind) p.no_close) f.handles;
  inside = f.inside;
  made = made_more es e own f.made;
} where
  stays : {opens opens' closes closes' : ℕ} (had : ℕ) → opens' ≡ opens → closes' ≡ closes → opens ≡ closes + had → opens' ≡ closes' + had
  stays had x y z = omega (arith, x, y, z)

-- a file of which neither the tree nor the table tells anything new
pub tied_same : (es es' : List TreeEntry) (table table' : List (Option Handle)) (item : ℕ) (past : List Entry) → count_by (has_file item) table' ≡ count_by (has_file item) table
    → opened_in es' item ≡ opened_in es item → closed_in es' item ≡ closed_in es item → left_dirty es' item ≡ left_dirty es item → IsTied es table item past → IsTied es' table' item past
tied_same es es' table table' item past t o c l s = record {
  handles = s.handles ∙ ap (λ n. count_of is_closed past + n) (sym t);
  opened = o ∙ s.opened;
  closed = c ∙ s.closed;
  rest = λ e. l ∙ s.rest e;
}

-- the tree has one entry more that names, opens and closes nothing
pub sound_plain : (es : List TreeEntry) (e : TreeEntry) (paths : List (List ℕ)) (files : List History) (table : List (Option Handle)) → IsSound es paths files table → IsPlain e.kind → e.by.who.actor ≡ Session 1 → IsSound (es ++ e ∷ []) paths files table
sound_plain es e paths files table s p own = let fit = fit_more es e table (length files) (same_fit es paths files table s) p own in record {
  size = s.size;
  found = λ path. s.found path ∙ sym (item_plain es e path p);
  count = s.count;
  numbered = files_more es e ∙ p.files (files_of es) ∙ s.numbered;
  few = omega (arith, s.few, length-append es (e ∷ []));
  named = λ item lt. record { count = (s.named item lt).count; each = names (history_in files item).names item (s.named item lt).each };
  each = s.each;
  tied = λ item. tied_same es (es ++ e ∷ []) table table item _ refl (opened_plain es e item p) (closed_plain es e item p) (left_plain es e item p) (s.tied item);
  handles = fit.handles;
  inside = s.inside;
  made = fit.made;
} where
  names : (ns : List (List ℕ)) (item : ℕ) → AllByRecursion (λ name. item_of es name ≡ Some item) ns → AllByRecursion (λ name. item_of (es ++ e ∷ []) name ≡ Some item) ns
  names [] item h = h
  names (n ∷ ns) item h = (item_plain es e n p ∙ h.0, names ns item h.1)

-- the handles that are open of a file, by the table
pub handles_left : (es : List TreeEntry) (table : List (Option Handle)) (item : ℕ) (past : List Entry) → IsTied es table item past → opens_of past ≡ count_by (has_file item) table
handles_left es table item past t = omega (arith, t.handles)

-- a held file is dirty or open
pub held_is : (es : List TreeEntry) (table : List (Option Handle)) (item : ℕ) (past : List Entry) → IsTied es table item past → is_held es item ≡ (is_dirty past || nat_lt 0 (opens_of past))
held_is es table item past t = by_opens (opens_of past) refl where
  opened_by : (closed opened n : ℕ) → opened - closed ≡ n → closed ≤ opened → nat_lt closed opened ≡ nat_lt 0 n
  opened_by closed opened n e le = grind (arith, e, le)

  any : nat_lt (closed_in es item) (opened_in es item) ≡ nat_lt 0 (opens_of past)
  any = ap (λ n. nat_lt n (opened_in es item)) t.closed ∙ ap (λ n. nat_lt (count_of is_closed past) n) t.opened
      ∙ opened_by (count_of is_closed past) (count_of is_opened past) (opens_of past) refl (omega (arith, t.handles))

  positive : (m n : ℕ) → m ≡ suc n → nat_lt 0 m ≡ true
  positive m n e = grind (arith, e)

  by_opens : (n : ℕ) → opens_of past ≡ n → is_held es item ≡ (is_dirty past || nat_lt 0 (opens_of past))
  by_opens zero e = ap (λ b. b || left_dirty es item) (any ∙ ap (nat_lt 0) e) ∙ t.rest e ∙ sym (or-false (is_dirty past)) ∙ ap (λ n. is_dirty past || nat_lt 0 n) (sym e)
  by_opens (suc n) e = let yes : nat_lt 0 (opens_of past) ≡ true = positive (opens_of past) n e in
      ap (λ b. b || left_dirty es item) (any ∙ yes) ∙ sym (ap (λ b. is_dirty past || b) yes ∙ or-true (is_dirty past))

-- the file of an open handle can be read, written and closed
pub is_ready : (es : List TreeEntry) (paths : List (List ℕ)) (files : List History) (table : List (Option Handle)) (handle : ℕ) (k : Handle) (pass : ℕ) → IsSound es paths files table → file_at table handle ≡ Some k → pass ≡ 0
    → (k.item < length files) × (0 < opens_by pass (reverse (entries_in files k.item)))
is_ready es paths files table handle k pass s h p =
    let lt = s.inside handle k h in
    let opens : 0 < opens_of (reverse (entries_in files k.item)) = omega (arith, (s.tied k.item).handles, some_open table handle k h) in
    (lt, subst (λ n. 0 < opens_by n (reverse (entries_in files k.item))) (sym p) (subst (λ l. 0 < opens_of l) (sym (s.each k.item lt).own.pass) opens))

-- one of the files that is open goes on by an entry that opens and closes nothing and leaves it kept
pub sound_grown : (es : List TreeEntry) (paths : List (List ℕ)) (files : List History) (table : List (Option Handle)) (handle : ℕ) (k : Handle) (by : By) (made : ℕ) (kind : FileKind) → IsSound es paths files table → file_at table handle ≡ Some k
    → by.who.actor ≡ Session 1 → by.pass ≡ 0 → IsUpTo by files
    → kept_after kind true ≡ true → is_opened kind ≡ false → is_closed kind ≡ false → names_file kind ≡ false → is_renaming kind ≡ false
    → IsSound es paths (add_to files k.item (in_file by false made kind ∷ []) []) table
sound_grown es paths files table handle k by made kind s at own pass up kept o c n still = record {
  size = s.size;
  found = s.found;
  count = s.count ∙ sym same_length;
  numbered = s.numbered ∙ sym same_length;
  few = omega (arith, same_length, s.few);
  named = λ i lt. named i (eqb_tells i item) (omega (arith, same_length, lt));
  each = λ i lt. each i (eqb_tells i item) (omega (arith, same_length, lt));
  tied = λ i. tied i (eqb_tells i item);
  handles = s.handles;
  inside = λ h j e. omega (arith, same_length, s.inside h j e);
  made = s.made;
} where
  item : ℕ
  item = k.item

  lt : k.item < length files
  lt = s.inside handle k at

  files' : List History
  files' = add_to files k.item (in_file by false made kind ∷ []) []

  g : Goes files files' k.item (in_file by false made kind ∷ [])
  g = goes_on files k.item (in_file by false made kind ∷ []) [] lt

  same_length : length files' ≡ length files
  same_length = length-set files k.item (record { entries = entries_in files k.item ++ in_file by false made kind ∷ []; names = names_in files k.item ++ [] })

  past : List Entry
  past = reverse (entries_in files k.item)

  each : (i : ℕ) → ((eqb i k.item ≡ true) × (i ≡ k.item)) ⊎ ((eqb i k.item ≡ false) × (i ≢ k.item)) → i < length files → IsSoundFile (reverse (entries_in files' i))
  each i (inl h) l = subst (λ j. IsSoundFile (reverse (entries_in files' j))) (sym h.1) (subst IsSoundFile (sym (grown_past g)) (record {
    kept = ap (kept_after kind) (s.each k.item lt).kept ∙ kept;
    own = own_step by false made kind past own pass still (up k.item) (s.each k.item lt).own;
  }))
  each i (inr h) l = subst (λ x. IsSoundFile (reverse x)) (sym (g.others i h.1)) (s.each i l)

  steps : (such : FileKind → Bool) (b : Bool) → such kind ≡ b → b ≡ false → count_of such (in_file by false made kind ∷ past) ≡ count_of such past
  steps such true e h = absurd (cc)
  steps such false e h = rw e refl

  tied : (i : ℕ) → ((eqb i k.item ≡ true) × (i ≡ k.item)) ⊎ ((eqb i k.item ≡ false) × (i ≢ k.item)) → IsTied es table i (reverse (entries_in files' i))
  tied i (inl h) = let t = s.tied k.item in let op = steps is_opened (is_opened kind) refl o in let cl = steps is_closed (is_closed kind) refl c in
      subst (λ j. IsTied es table j (reverse (entries_in files' j))) (sym h.1) (subst (λ l. IsTied es table k.item l) (sym (grown_past g)) (record {
        handles = op ∙ t.handles ∙ ap (λ n. n + count_by (has_file k.item) table) (sym cl);
        opened = t.opened ∙ sym op;
        closed = t.closed ∙ sym cl;
        rest = λ e. absurd (omega (arith, e, op, cl, t.handles, some_open table handle k at));
      }))
  tied i (inr h) = subst (λ x. IsTied es table i (reverse x)) (sym (g.others i h.1)) (s.tied i)

  named : (i : ℕ) → ((eqb i k.item ≡ true) × (i ≡ k.item)) ⊎ ((eqb i k.item ≡ false) × (i ≢ k.item)) → i < length files → IsNamed es i (history_in files' i)
  named i (inl h) l = let new : History = record { entries = entries_in files k.item ++ in_file by false made kind ∷ []; names = names_in files k.item ++ [] } in
      subst (λ j. IsNamed es j (history_in files' j)) (sym h.1) (subst (IsNamed es k.item) (sym (get_or-set_same files k.item new (record { entries = []; names = [] }) lt)) (record {
        count = ap length (append-nil (names_in files k.item)) ∙ (s.named k.item lt).count ∙ sym (ap (count_of names_file) (reverse-append (entries_in files k.item) (in_file by false made kind ∷ [])) ∙ steps names_file (names_file kind) refl n);
        each = subst (AllByRecursion (λ name. item_of es name ≡ Some k.item)) (sym (append-nil (names_in files k.item))) (s.named k.item lt).each;
      }))
  named i (inr h) l = subst (IsNamed es i) (sym (get_or-set_other files k.item i (record { entries = entries_in files k.item ++ in_file by false made kind ∷ []; names = names_in files k.item ++ [] }) (record { entries = []; names = [] }) h.1)) (s.named i l)

-- a handle of a file is closed
pub sound_shut : (es : List TreeEntry) (paths : List (List ℕ)) (files : List History) (table : List (Option Handle)) (h : ℕ) (k : Handle) (by : By) (made : ℕ) (dirty : Bool) → IsSound es paths files table → h < length table → file_at table h ≡ Some k
    → by.who.actor ≡ Session 1 → by.pass ≡ 0 → IsUpTo by files → dirty ≡ is_dirty (reverse (entries_in files k.item))
    → IsSound (es ++ in_tree by (tree.Closed (record { 0 = k.item }) dirty) ∷ []) paths (add_to files k.item (in_file by true made file.Closed ∷ []) []) (set table h None)
sound_shut es paths files table h k by made dirty s small at own pass up was = record {
  size = fit.size;
  found = λ path. s.found path ∙ sym (item_more es e path);
  count = s.count ∙ sym same_length;
  numbered = files_more es e ∙ s.numbered ∙ sym same_length;
  few = omega (arith, same_length, s.few, length-append es (e ∷ []));
  named = λ i l. named i (eqb_tells i k.item) (omega (arith, same_length, l));
  each = λ i l. each i (eqb_tells i k.item) (omega (arith, same_length, l));
  tied = λ i. tied i (eqb_tells i k.item);
  handles = fit.handles;
  inside = λ handle j x. omega (arith, same_length, fit.inside handle j x);
  made = fit.made;
} where
  e : TreeEntry
  e = in_tree by (tree.Closed (record { 0 = k.item }) dirty)

  lt : k.item < length files
  lt = s.inside h k at

  files' : List History
  files' = add_to files k.item (in_file by true made file.Closed ∷ []) []

  new : History
  new = record { entries = entries_in files k.item ++ in_file by true made file.Closed ∷ []; names = names_in files k.item ++ [] }

  g : Goes files files' k.item (in_file by true made file.Closed ∷ [])
  g = goes_on files k.item (in_file by true made file.Closed ∷ []) [] lt

  same_length : length files' ≡ length files
  same_length = length-set files k.item new

  past : List Entry
  past = reverse (entries_in files k.item)

  fit : Fit (es ++ e ∷ []) (set table h None) (length files)
  fit = fit_shut es e table h k (length files) (same_fit es paths files table s) refl refl own small at

  each : (i : ℕ) → ((eqb i k.item ≡ true) × (i ≡ k.item)) ⊎ ((eqb i k.item ≡ false) × (i ≢ k.item)) → i < length files → IsSoundFile (reverse (entries_in files' i))
  each i (inl q) l = subst (λ j. IsSoundFile (reverse (entries_in files' j))) (sym q.1) (subst IsSoundFile (sym (grown_past g)) (record {
    kept = (s.each k.item lt).kept;
    own = own_step by true made file.Closed past own pass refl (up k.item) (s.each k.item lt).own;
  }))
  each i (inr q) l = subst (λ x. IsSoundFile (reverse x)) (sym (g.others i q.1)) (s.each i l)

  closes_one : (n m : ℕ) → n ≡ m → ◌≡◌ {A = ℕ} (cond (eqb n m) 1 0) 1
  closes_one n m q = let f : Bool → ℕ = λ b. cond b 1 0 in ap f (eq-eqb n m q)

  closes_none : (n m : ℕ) → n ≢ m → ◌≡◌ {A = ℕ} (cond (eqb n m) 1 0) 0
  closes_none n m q = let f : Bool → ℕ = λ b. cond b 1 0 in ap f (ne_eqb n m q)

  one_less : (opens closes had has : ℕ) → opens ≡ closes + had → has + 1 ≡ had → opens ≡ (closes + 1) + has
  one_less opens closes had has a b = omega (arith, a, b)

  left_own : left_dirty (es ++ e ∷ []) k.item ≡ dirty
  left_own = left_more es e k.item ∙ ap (λ b. cond b dirty (left_dirty es k.item)) (eq-eqb k.item k.item refl)

  tied : (i : ℕ) → ((eqb i k.item ≡ true) × (i ≡ k.item)) ⊎ ((eqb i k.item ≡ false) × (i ≢ k.item)) → IsTied (es ++ e ∷ []) (set table h None) i (reverse (entries_in files' i))
  tied i (inl q) = let t = s.tied k.item in subst (λ j. IsTied (es ++ e ∷ []) (set table h None) j (reverse (entries_in files' j))) (sym q.1) (subst (IsTied (es ++ e ∷ []) (set table h None) k.item) (sym (grown_past g)) (record {
    handles = one_less _ _ _ _ t.handles (shut_own table h k small at);
    opened = opened_more es e k.item ∙ add-zero (opened_in es k.item) ∙ t.opened;
    closed = closed_more es e k.item ∙ ap (λ n. closed_in es k.item + n) (closes_one k.item k.item refl) ∙ ap (λ n. n + 1) t.closed;
    rest = λ none. left_own ∙ was;
  }))
  tied i (inr q) = subst (λ x. IsTied (es ++ e ∷ []) (set table h None) i (reverse x)) (sym (g.others i q.1)) (tied_same es (es ++ e ∷ []) table (set table h None) i _ (shut_other table h k i small at q.1)
      (opened_more es e i ∙ add-zero (opened_in es i)) (closed_more es e i ∙ ap (λ n. closed_in es i + n) (closes_none k.item i (λ x. q.1 (sym x))) ∙ add-zero (closed_in es i))
      (left_more es e i ∙ ap (λ b. cond b dirty (left_dirty es i)) (ne_eqb k.item i (λ x. q.1 (sym x)))) (s.tied i))

  names : (ns : List (List ℕ)) (i : ℕ) → AllByRecursion (λ name. item_of es name ≡ Some i) ns → AllByRecursion (λ name. item_of (es ++ e ∷ []) name ≡ Some i) ns
  names [] i x = x
  names (n ∷ ns) i x = (item_more es e n ∙ x.0, names ns i x.1)

  named : (i : ℕ) → ((eqb i k.item ≡ true) × (i ≡ k.item)) ⊎ ((eqb i k.item ≡ false) × (i ≢ k.item)) → i < length files → IsNamed (es ++ e ∷ []) i (history_in files' i)
  named i (inl q) l = subst (λ j. IsNamed (es ++ e ∷ []) j (history_in files' j)) (sym q.1) (subst (IsNamed (es ++ e ∷ []) k.item) (sym (get_or-set_same files k.item new (record { entries = []; names = [] }) lt)) (record {
    count = ap length (append-nil (names_in files k.item)) ∙ (s.named k.item lt).count ∙ sym (ap (count_of names_file) (reverse-append (entries_in files k.item) (in_file by true made file.Closed ∷ [])));
    each = subst (AllByRecursion (λ name. item_of (es ++ e ∷ []) name ≡ Some k.item)) (sym (append-nil (names_in files k.item))) (names (names_in files k.item) k.item (s.named k.item lt).each);
  }))
  named i (inr q) l = subst (IsNamed (es ++ e ∷ []) i) (sym (get_or-set_other files k.item i new (record { entries = []; names = [] }) q.1)) (record { count = (s.named i l).count; each = names (names_in files i) i (s.named i l).each })

-- what an open's entry tells of its file and of the others
kind_opens : (created : Bool) (path : List ℕ) (item : ℕ) (print : Option Fingerprint) (i : ℕ) → opens_item i (opened_kind created path item print) ≡ eqb item i
kind_opens true path item print i = refl
kind_opens false path item print i = refl

kind_closes : (created : Bool) (path : List ℕ) (item : ℕ) (print : Option Fingerprint) (i : ℕ) → closes_item i (opened_kind created path item print) ≡ false
kind_closes true path item print i = refl
kind_closes false path item print i = refl

kind_left : (created : Bool) (path : List ℕ) (item : ℕ) (print : Option Fingerprint) (file_at : List ℕ → Option ℕ) (i : ℕ) (old : Bool) → left_after (opened_kind created path item print) file_at i old ≡ old
kind_left true path item print file_at i old = refl
kind_left false path item print file_at i old = refl

kind_open : (created : Bool) (path : List ℕ) (item : ℕ) (print : Option Fingerprint) → is_open (opened_kind created path item print) ≡ true
kind_open true path item print = refl
kind_open false path item print = refl

kind_close : (created : Bool) (path : List ℕ) (item : ℕ) (print : Option Fingerprint) → is_close (opened_kind created path item print) ≡ false
kind_close true path item print = refl
kind_close false path item print = refl

pub kind_item : (created : Bool) (path : List ℕ) (item : ℕ) (print : Option Fingerprint) (q : List ℕ) (old : Option ℕ) → item_after (opened_kind created path item print) q old ≡ cond (same_text path q) (Some item) old
kind_item true path item print q old = refl
kind_item false path item print q old = refl

pub kind_files : (created : Bool) (path : List ℕ) (item : ℕ) (print : Option Fingerprint) (old : ℕ) → files_after (opened_kind created path item print) old ≡ max old (item + 1)
kind_files true path item print old = refl
kind_files false path item print old = refl

-- a file was opened
pub sound_opened : (es : List TreeEntry) (paths paths' : List (List ℕ)) (files files' : List History) (table : List (Option Handle)) (h : ℕ) (k : Handle) (by : By) (made : ℕ) (created : Bool) (path : List ℕ) (print : Option Fingerprint) (kinds : List FileKind) → IsSound es paths files table → h < length table → file_at table h ≡ None
    → by.who.actor ≡ Session 1 → by.pass ≡ 0 → IsUpTo by files → Goes files files' k.item (map (in_file by true made) kinds)
    → is_kept (reverse (map (in_file by true made) kinds) ++ reverse (entries_in files k.item)) ≡ true
    → count_of is_opened (reverse (map (in_file by true made) kinds) ++ reverse (entries_in files k.item)) ≡ count_of is_opened (reverse (entries_in files k.item)) + 1
    → count_of is_closed (reverse (map (in_file by true made) kinds) ++ reverse (entries_in files k.item)) ≡ count_of is_closed (reverse (entries_in files k.item))
    → IsOwnPast (reverse (entries_in files k.item)) → AllByRecursion (λ (kind : FileKind). is_renaming kind ≡ false) kinds
    → length files ≤ length files' → k.item < length files' → ((i : ℕ) → i < length files' → i ≢ k.item → i < length files)
    → length files' ≤ length (es ++ in_tree by (opened_kind created path k.item print) ∷ []) → length paths' ≡ length files'
    → ((q : List ℕ) → position (same_text q) paths' ≡ item_of (es ++ in_tree by (opened_kind created path k.item print) ∷ []) q)
    → files_of (es ++ in_tree by (opened_kind created path k.item print) ∷ []) ≡ length files'
    → ((i : ℕ) → i < length files' → IsNamed (es ++ in_tree by (opened_kind created path k.item print) ∷ []) i (history_in files' i))
    → IsSound (es ++ in_tree by (opened_kind created path k.item print) ∷ []) paths' files' (set table h (Some k))
sound_opened es paths paths' files files' table h k by made created path print kinds s small at own pass up g kept opens closes mine still le inner below few count found numbered named = record {
  size = fit.size;
  found = found;
  count = count;
  numbered = numbered;
  few = few;
  named = named;
  each = λ i l. each i (eqb_tells i k.item) l;
  tied = λ i. tied i (eqb_tells i k.item);
  handles = fit.handles;
  inside = fit.inside;
  made = fit.made;
} where
  e : TreeEntry
  e = in_tree by (opened_kind created path k.item print)

  past : List Entry
  past = reverse (entries_in files k.item)

  more : List Entry
  more = map (in_file by true made) kinds

  fit : Fit (es ++ e ∷ []) (set table h (Some k)) (length files')
  fit = fit_opened es e table h k (length files) (length files') (same_fit es paths files table s) le inner (kind_open created path k.item print) (kind_close created path k.item print) own small at

  each : (i : ℕ) → ((eqb i k.item ≡ true) × (i ≡ k.item)) ⊎ ((eqb i k.item ≡ false) × (i ≢ k.item)) → i < length files' → IsSoundFile (reverse (entries_in files' i))
  each i (inl q) l = subst (λ j. IsSoundFile (reverse (entries_in files' j))) (sym q.1) (subst IsSoundFile (sym (grown_past g)) (record {
    kept = kept;
    own = own_all by true made kinds past own pass still (up k.item) mine;
  }))
  each i (inr q) l = subst (λ x. IsSoundFile (reverse x)) (sym (g.others i q.1)) (s.each i (below i l q.1))

  opens_one : (b : Bool) → b ≡ true → ◌≡◌ {A = ℕ} (cond b 1 0) 1
  opens_one b q = let f : Bool → ℕ = λ b. cond b 1 0 in ap f q

  opens_none : (b : Bool) → b ≡ false → ◌≡◌ {A = ℕ} (cond b 1 0) 0
  opens_none b q = let f : Bool → ℕ = λ b. cond b 1 0 in ap f q

  closes_none : (i : ℕ) → closed_in (es ++ e ∷ []) i ≡ closed_in es i
  closes_none i = closed_more es e i ∙ ap (λ n. closed_in es i + n) (opens_none (closes_item i e.kind) (kind_closes created path k.item print i)) ∙ add-zero (closed_in es i)

  one_more : {opens' closes' : ℕ} (opens closes had has : ℕ) → opens ≡ closes + had → opens' ≡ opens + 1 → closes' ≡ closes → has ≡ had + 1 → opens' ≡ closes' + has
  one_more opens closes had has a b c d = omega (arith, a, b, c, d)

  open_one : {A : Type 0} (opens closes opens' closes' had : ℕ) → opens' - closes' ≡ 0 → opens ≡ closes + had → opens' ≡ opens + 1 → closes' ≡ closes → A
  open_one opens closes opens' closes' had z a b c = absurd (omega (arith, z, a, b, c))

  left_same : (i : ℕ) → left_dirty (es ++ e ∷ []) i ≡ left_dirty es i
  left_same i = left_more es e i ∙ kind_left created path k.item print (item_of es) i (left_dirty es i)

  tied : (i : ℕ) → ((eqb i k.item ≡ true) × (i ≡ k.item)) ⊎ ((eqb i k.item ≡ false) × (i ≢ k.item)) → IsTied (es ++ e ∷ []) (set table h (Some k)) i (reverse (entries_in files' i))
  tied i (inl q) = let t = s.tied k.item in subst (λ j. IsTied (es ++ e ∷ []) (set table h (Some k)) j (reverse (entries_in files' j))) (sym q.1) (subst (IsTied (es ++ e ∷ []) (set table h (Some k)) k.item) (sym (grown_past g)) (record {
    handles = one_more _ _ _ _ t.handles opens closes (opened_own table h k small at);
    opened = opened_more es e k.item ∙ ap (λ n. opened_in es k.item + n) (opens_one (opens_item k.item e.kind) (kind_opens created path k.item print k.item ∙ eq-eqb k.item k.item refl)) ∙ ap (λ n. n + 1) t.opened ∙ sym opens;
    closed = closes_none k.item ∙ t.closed ∙ sym closes;
    rest = λ none. absurd (open_one _ _ _ _ _ none t.handles opens closes);
  }))
  tied i (inr q) = subst (λ x. IsTied (es ++ e ∷ []) (set table h (Some k)) i (reverse x)) (sym (g.others i q.1)) (tied_same es (es ++ e ∷ []) table (set table h (Some k)) i _ (opened_other table h k i small at q.1)
      (opened_more es e i ∙ ap (λ n. opened_in es i + n) (opens_none (opens_item i e.kind) (kind_opens created path k.item print i ∙ ne_eqb k.item i (λ x. q.1 (sym x)))) ∙ add-zero (opened_in es i))
      (closes_none i) (left_same i) (s.tied i))
