-- What an open that begins so does to its file.
use Rattle.std.proofs.Common.{◌≡◌, ◌⊎◌, ◌≢◌, ◌<◌, ◌≤◌, ℕ, zero, suc, ◌+◌, ◌++◌, ◌∙◌, ◌&&◌, ap, sym, refl, subst, inl, inr, arith, Bool, true, false, Option, None, Some, List, [], ◌∷◌, length, map, reverse, set, cond, eqb, max, length-append, append_assoc, append-nil, length-set, replicate}
use Rattle.std.specs.List.{AllByRecursion, position}
use Rattle.std.proofs.Math.Nat.{add-zero}
use Rattle.std.proofs.lemmas.Bool.{eq-eqb}
use Rattle.std.proofs.lemmas.Bool.Decides.{eqb_tells}
use Rattle.std.proofs.lemmas.List.{length-replicate, reverse-append, get_or-set_same, get_or-set_other}
use Rattle.std.proofs.lemmas.Option.{none-some}
use Rattle.std.specs.Cmp.Lexicographic.{same_text as equal_texts}
use Rattle.vfs_names.specs.Path.{same_text}
use Rattle.vfs_names.specs.declared.calls.Access.{Access}
use Rattle.vfs_names.specs.declared.fingerprint.Fingerprint.{Fingerprint}
use Rattle.vfs_names.specs.declared.who.Actor.TheVariants.{Session}
use Rattle.vfs_names.specs.declared.who.By.{By}
use Rattle.vfs_outside.specs.declared.tree.TreeEntry.{TreeEntry}
use Rattle.item_core.specs.declared.entry.Entry.{Entry}
use Rattle.item_core.specs.declared.entry.FileKind.{FileKind}
use Rattle.item_core.specs.declared.entry.FileKind.TheVariants as file
use Rattle.item_core.specs.Effects.{is_opened, is_closed}
use Rattle.item_core.specs.History.{count_of, is_kept}
use Rattle.one_session.specs.Calls.{Begins, in_file, in_tree}
use Rattle.one_session.specs.Sound.{IsOwnPast, IsSound, has_file, has_some, is_renaming}
use Rattle.one_session.specs.Start.{MayStart, front_of, named_by, opened_kind, opening}
use Rattle.one_session.specs.State.{History, entries_in, file_at, history_in, names_in}
use Rattle.one_session.specs.Tree.{files_of, item_of}
use Rattle.one_session.specs.Views.{add_to}
use Rattle.one_session.specs.Whole.{IsNamed, IsUpTo, names_file}
use Rattle.one_session.specs.declared.handle.Handle.{Handle}
use Rattle.one_session.specs.declared.start.Start.{Start}
use Rattle.one_session.specs.declared.start.Start.TheVariants.{Kept, Create, Bind, Adopt}
use Rattle.one_session.proofs.Keeping.{Goes, before_is, goes_new, goes_on, grown_past, kind_files, kind_item, last_is, none_past, sound_opened}
use Rattle.one_session.proofs.PathLists.{end_no, end_yes, position_inside}
use Rattle.one_session.proofs.Tables.{count_none, none_open}
use Rattle.one_session.proofs.Trees.{files_more, item_more}

module _ {O S : Type 0} (print_of : O → Fingerprint) (by : By) (access : Access) (made : ℕ) where
  pub start_opened : (start : Start O S) (past : List Entry) → count_of is_opened (reverse (opening by access made (front_of print_of start)) ++ past) ≡ count_of is_opened past + 1
  start_opened Kept past = refl
  start_opened Create past = refl
  start_opened (Bind object) past = refl
  start_opened (Adopt object) past = refl

  pub start_closed : (start : Start O S) (past : List Entry) → count_of is_closed (reverse (opening by access made (front_of print_of start)) ++ past) ≡ count_of is_closed past
  start_closed Kept past = refl
  start_closed Create past = refl
  start_closed (Bind object) past = refl
  start_closed (Adopt object) past = refl

  pub start_still : (start : Start O S) → AllByRecursion (λ (kind : FileKind). is_renaming kind ≡ false) (front_of print_of start ++ file.Opened access ∷ [])
  start_still Kept = (refl, tt)
  start_still Create = (refl, (refl, tt))
  start_still (Bind object) = (refl, (refl, tt))
  start_still (Adopt object) = (refl, (refl, tt))

  pub start_kept : (start : Start O S) (past : List Entry) → MayStart print_of start past → is_kept (reverse (opening by access made (front_of print_of start)) ++ past) ≡ true
  start_kept Kept past may = may
  start_kept Create past may = refl
  start_kept (Bind object) past may = may.0
  start_kept (Adopt object) past may = refl

  pub start_names : (start : Start O S) (path : List ℕ) (past : List Entry) (names : List (List ℕ)) → length names ≡ count_of names_file past → length (names ++ named_by path start) ≡ count_of names_file (reverse (opening by access made (front_of print_of start)) ++ past)
  start_names Kept path past names h = ap length (append-nil names) ∙ h
  start_names Create path past names h = length-append names (path ∷ []) ∙ ap (λ n. n + 1) h
  start_names (Bind object) path past names h = ap length (append-nil names) ∙ h
  start_names (Adopt object) path past names h = length-append names (path ∷ []) ∙ ap (λ n. n + 1) h

-- it begins the file as opens do
pub start_begins : {O S : Type 0} (print_of : O → Fingerprint) (start : Start O S) → Begins (front_of print_of start)
start_begins print_of Kept = inl refl
start_begins print_of Create = inr (inl refl)
start_begins print_of (Bind object) = inr (inr (inl (print_of object, refl)))
start_begins print_of (Adopt object) = inr (inr (inr (print_of object, refl)))

-- the paths beside it are its path
start_path : {O S : Type 0} (P : List ℕ → Type 0) (path : List ℕ) (start : Start O S) → P path → AllByRecursion P (named_by path start)
start_path P path Kept it = tt
start_path P path Create it = (it, tt)
start_path P path (Bind object) it = tt
start_path P path (Adopt object) it = (it, tt)

start_paths : {O S : Type 0} (P : List ℕ → Type 0) (path : List ℕ) (start : Start O S) (names : List (List ℕ)) → AllByRecursion P names → P path → AllByRecursion P (names ++ named_by path start)
start_paths P path start [] all it = start_path P path start it
start_paths P path start (n ∷ names) all it = (all.0, start_paths P path start names all.1 it)

-- two texts are equal, or a test tells them apart
texts : (a b : List ℕ) → (same_text a b ≡ true → a ≡ b)
texts a b h = equal_texts a b (sym h)

text_self : (a : List ℕ) → same_text a a ≡ true
text_self [] = refl
text_self (x ∷ a) = ap (λ b. b && same_text a a) (eq-eqb x x refl) ∙ text_self a

text_turned : (a b : List ℕ) (t : Bool) → same_text a b ≡ t → same_text b a ≡ t
text_turned a b true h = subst (λ c. same_text c a ≡ true) (texts a b h) (text_self a)
text_turned a b false h = no (same_text b a) refl where
  differ : {A : Type 0} → true ≡ false → A
  differ e = absurd (cc)

  no : (t : Bool) → same_text b a ≡ t → same_text b a ≡ false
  no true e = differ (sym (subst (λ c. same_text c b ≡ true) (texts b a e) (text_self b)) ∙ h)
  no false e = e

-- the names of the other files, and of the file that was opened, stay theirs
named_stay : (es : List TreeEntry) (by : By) (created : Bool) (path : List ℕ) (item : ℕ) (print : Option Fingerprint) (names : List (List ℕ)) (i : ℕ) → (i ≢ item → item_of es path ≢ Some i)
    → AllByRecursion (λ name. item_of es name ≡ Some i) names → (i ≡ item ⊎ i ≢ item) → AllByRecursion (λ name. item_of (es ++ in_tree by (opened_kind created path item print) ∷ []) name ≡ Some i) names
named_stay es by created path item print [] i apart all w = tt
named_stay es by created path item print (n ∷ names) i apart all w = (
  item_more es (in_tree by (opened_kind created path item print)) n ∙ kind_item created path item print n (item_of es n) ∙ by_test (same_text path n) refl w,
  named_stay es by created path item print names i apart all.1 w,
) where
  by_test : (t : Bool) → same_text path n ≡ t → (i ≡ item ⊎ i ≢ item) → cond t (Some item) (item_of es n) ≡ Some i
  by_test true e (inl h) = ap Some (sym h)
  by_test true e (inr h) = absurd (apart h (ap (item_of es) (texts path n e) ∙ all.0))
  by_test false e w = all.0

either : (i item : ℕ) → i ≡ item ⊎ i ≢ item
either i item = tell (eqb_tells i item) where
  tell : ((eqb i item ≡ true) × (i ≡ item)) ⊎ ((eqb i item ≡ false) × (i ≢ item)) → i ≡ item ⊎ i ≢ item
  tell (inl h) = inl h.1
  tell (inr h) = inr h.1

some_is : (a b : ℕ) → Some a ≡ Some b → a ≡ b
some_is a b e = cc

module _ {O S : Type 0} (print_of : O → Fingerprint) (es : List TreeEntry) (paths : List (List ℕ)) (files : List History) (table : List (Option Handle)) (h : ℕ) (by : By) (path : List ℕ) (access : Access) (made : ℕ) (created : Bool) (print : Option Fingerprint) (start : Start O S)
    (s : IsSound es paths files table) (small : h < length table) (at : file_at table h ≡ None) (own : by.who.actor ≡ Session 1) (pass : by.pass ≡ 0) (up : IsUpTo by files) where
  abbrev pub kinds : List FileKind
  kinds = front_of print_of start ++ file.Opened access ∷ []

  abbrev pub more : List Entry
  more = opening by access made (front_of print_of start)

  -- the file that the path has was opened
  pub sound_again : (item : ℕ) → item < length files → item_of es path ≡ Some item → MayStart print_of start (reverse (entries_in files item))
      → IsSound (es ++ in_tree by (opened_kind created path item print) ∷ []) paths (add_to files item more (named_by path start)) (set table h (Some (record { item = item; access = access })))
  sound_again item lt is may = sound_opened es paths paths files files' table h (record { item = item; access = access }) by made created path print kinds s small at own pass up g
      (start_kept print_of by access made start past may) (start_opened print_of by access made start past) (start_closed print_of by access made start past) (s.each item lt).own (start_still print_of by access made start)
      (omega (arith, same_length)) (omega (arith, same_length, lt)) (λ i l ne. omega (arith, same_length, l)) (omega (arith, same_length, s.few, length-append es (e ∷ []))) (s.count ∙ sym same_length)
      (λ q. s.found q ∙ found q) (files_more es e ∙ kind_files created path item print (files_of es) ∙ ap (λ n. max n (item + 1)) s.numbered ∙ most (length files) item lt ∙ sym same_length)
      (λ i l. named i (either i item) (omega (arith, same_length, l))) where
        e : TreeEntry
        e = in_tree by (opened_kind created path item print)

        past : List Entry
        past = reverse (entries_in files item)

        new : History
        new = record { entries = entries_in files item ++ more; names = names_in files item ++ named_by path start }

        files' : List History
        files' = add_to files item more (named_by path start)

        same_length : length files' ≡ length files
        same_length = length-set files item new

        g : Goes files files' item more
        g = goes_on files item more (named_by path start) lt

        most : (n i : ℕ) → i < n → max n (i + 1) ≡ n
        most n i l = grind (arith, l)

        found : (q : List ℕ) → item_of es q ≡ item_of (es ++ e ∷ []) q
        found q = by_test (same_text path q) refl ∙ sym (item_more es e q ∙ kind_item created path item print q (item_of es q)) where
          by_test : (t : Bool) → same_text path q ≡ t → item_of es q ≡ cond t (Some item) (item_of es q)
          by_test true x = ap (item_of es) (sym (texts path q x)) ∙ is
          by_test false x = refl

        named : (i : ℕ) → (i ≡ item ⊎ i ≢ item) → i < length files → IsNamed (es ++ e ∷ []) i (history_in files' i)
        named i (inl q) l = subst (λ j. IsNamed (es ++ e ∷ []) j (history_in files' j)) (sym q) (subst (IsNamed (es ++ e ∷ []) item) (sym (get_or-set_same files item new (record { entries = []; names = [] }) lt)) (record {
          count = start_names print_of by access made start path past (names_in files item) (s.named item lt).count ∙ ap (count_of names_file) (sym (reverse-append (entries_in files item) more));
          each = start_paths (λ name. item_of (es ++ e ∷ []) name ≡ Some item) path start (names_in files item)
              (named_stay es by created path item print (names_in files item) item (λ ne. absurd (ne refl)) (s.named item lt).each (inl refl)) (sym (found path) ∙ is);
        }))
        named i (inr q) l = subst (IsNamed (es ++ e ∷ []) i) (sym (get_or-set_other files item i new (record { entries = []; names = [] }) q)) (record {
          count = (s.named i l).count;
          each = named_stay es by created path item print (names_in files i) i (λ ne x. ne (some_is i item (sym x ∙ is))) (s.named i l).each (inr q);
        })

  -- a file was made for the path and opened
  pub sound_new : item_of es path ≡ None → MayStart print_of start []
      → IsSound (es ++ in_tree by (opened_kind created path (length files) print) ∷ []) (paths ++ path ∷ []) (files ++ record { entries = more; names = named_by path start } ∷ []) (set table h (Some (record { item = length files; access = access })))
  sound_new is may = sound_opened es paths (paths ++ path ∷ []) files files' table h (record { item = length files; access = access }) by made created path print kinds s small at own pass up g
      (subst (λ l. is_kept (reverse more ++ l) ≡ true) (sym none) (start_kept print_of by access made start [] may))
      (start_opened print_of by access made start past) (start_closed print_of by access made start past)
      (subst IsOwnPast (sym none) (record { pass = refl; made = tt; unmoved = tt; timely = tt })) (start_still print_of by access made start)
      (omega (arith, longer)) (omega (arith, longer)) (λ i l ne. below i l ne) (omega (arith, longer, s.few, length-append es (e ∷ []))) (length-append paths (path ∷ []) ∙ ap (λ n. n + 1) s.count ∙ sym longer)
      found (files_more es e ∙ kind_files created path (length files) print (files_of es) ∙ ap (λ n. max n (length files + 1)) s.numbered ∙ most (length files) ∙ sym longer)
      (λ i l. named i (either i (length files)) l) where
        e : TreeEntry
        e = in_tree by (opened_kind created path (length files) print)

        past : List Entry
        past = reverse (entries_in files (length files))

        none : past ≡ []
        none = ap reverse (none_past files (length files) (omega arith))

        new : History
        new = record { entries = more; names = named_by path start }

        files' : List History
        files' = files ++ new ∷ []

        longer : length files' ≡ length files + 1
        longer = length-append files (new ∷ [])

        g : Goes files files' (length files) more
        g = goes_new files more (named_by path start)

        most : (n : ℕ) → max n (n + 1) ≡ n + 1
        most n = grind arith

        below : (i : ℕ) → i < length files' → i ≢ length files → i < length files
        below i l ne = omega (arith, longer, l, ne)

        found : (q : List ℕ) → position (same_text q) (paths ++ path ∷ []) ≡ item_of (es ++ e ∷ []) q
        found q = by_test (same_text path q) refl ∙ sym (item_more es e q ∙ kind_item created path (length files) print q (item_of es q)) where
          by_test : (t : Bool) → same_text path q ≡ t → position (same_text q) (paths ++ path ∷ []) ≡ cond t (Some (length files)) (item_of es q)
          by_test true x = subst (λ p. position (same_text p) (paths ++ path ∷ []) ≡ Some (length files)) (texts path q x)
              (end_yes (same_text path) paths path (s.found path ∙ is) (text_self path) ∙ ap Some s.count)
          by_test false x = end_no (same_text q) paths path (text_turned path q false x) ∙ s.found q

        here : item_of (es ++ e ∷ []) path ≡ Some (length files)
        here = item_more es e path ∙ kind_item created path (length files) print path (item_of es path) ∙ ap (λ t. cond t (Some (length files)) (item_of es path)) (text_self path)

        named : (i : ℕ) → (i ≡ length files ⊎ i ≢ length files) → i < length files' → IsNamed (es ++ e ∷ []) i (history_in files' i)
        named i (inl q) l = subst (λ j. IsNamed (es ++ e ∷ []) j (history_in files' j)) (sym q) (subst (IsNamed (es ++ e ∷ []) (length files)) (sym (last_is files new)) (record {
          count = start_names print_of by access made start path [] [] refl ∙ ap (count_of names_file) (append-nil (reverse more));
          each = start_paths (λ name. item_of (es ++ e ∷ []) name ≡ Some (length files)) path start [] tt here;
        }))
        named i (inr q) l = subst (IsNamed (es ++ e ∷ []) i) (sym (before_is files new i q)) (record {
          count = (s.named i (below i l q)).count;
          each = named_stay es by created path (length files) print (names_in files i) i (λ ne x. none-some i (sym is ∙ x)) (s.named i (below i l q)).each (inr q);
        })

-- nothing was called yet
pub sound_none : (es : List TreeEntry) (paths : List (List ℕ)) (files : List History) (table : List (Option Handle)) → es ≡ [] → paths ≡ [] → files ≡ [] → table ≡ replicate 256 None → IsSound es paths files table
sound_none es paths files table a b c d = rw (a, b, c, d) (record {
  size = length-replicate {A = Option Handle} 256 None;
  found = λ path. refl;
  count = refl;
  numbered = refl;
  few = omega arith;
  named = λ item lt. absurd (omega (arith, lt));
  each = λ item lt. absurd (omega (arith, lt));
  tied = λ item. record { handles = sym (ap (λ n. 0 + n) (count_none (has_file item) 256 refl)); opened = refl; closed = refl; rest = λ e. refl };
  handles = sym (ap (λ n. 0 + n) (count_none has_some 256 refl));
  inside = λ handle k e. absurd (none-some k (sym (none_open 256 handle) ∙ e));
  made = tt;
})
