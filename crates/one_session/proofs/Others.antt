-- What others than the session add to the histories leaves its calls as they were.
use Rattle.std.proofs.Common.{◌≡◌, ◌≤◌, ◌++◌, ◌∙◌, ap, sym, refl, subst, arith, ℕ, Bool, List, [], drop, length, length-append, append-nil}
use Rattle.std.proofs.lemmas.List.{drop-append-le}
use Rattle.vfs_outside.specs.declared.tree.TreeEntry.{TreeEntry}
use Rattle.item_core.specs.Content.{Known}
use Rattle.item_core.specs.declared.entry.Entry.{Entry}
use Rattle.one_session.specs.Calls.{FileDoes, TreeDoes}
use Rattle.one_session.specs.Matching.{entries_of}
use Rattle.one_session.specs.Served.{EndsWithin, FileMatches, Fits, Served, TreeMatches, file_place, in_file_of, in_tree_of, reached, tree_place}
use Rattle.one_session.specs.State.{State, entries_in, file_at}
use Rattle.one_session.proofs.Going.{entries_of-append, stays}
use Rattle.one_session.proofs.Serving.{file_stays, full_stays, tree_stays}

-- others added these entries, and the session is as it was
pub record OthersAdd (session : ℕ) (s t : State) : Type 0 where
  pub tree_more : List TreeEntry
  pub tree : t.tree ≡ s.tree ++ tree_more
  pub tree_others : entries_of in_tree_of session tree_more ≡ []
  pub file : (item : ℕ) → (more : List Entry) × (entries_in t.files item ≡ entries_in s.files item ++ more) × (entries_of in_file_of session more ≡ [])
  pub table : t.table ≡ s.table
  pub records : t.records ≡ s.records
  pub limit : t.limit ≡ s.limit

same_mine : {E : Type 0} (belongs : E → ℕ → Bool) (session : ℕ) (old more new : List E) → new ≡ old ++ more → entries_of belongs session more ≡ [] → entries_of belongs session new ≡ entries_of belongs session old
same_mine belongs session old more new is others = ap (entries_of belongs session) is ∙ entries_of-append belongs session old more ∙ ap (λ l. entries_of belongs session old ++ l) others ∙ append-nil (entries_of belongs session old)

still_within : {E : Type 0} (belongs : E → ℕ → Bool) (session reached : ℕ) (old more new : List E) → new ≡ old ++ more → entries_of belongs session more ≡ [] → EndsWithin belongs session reached old → EndsWithin belongs session reached new
still_within belongs session reached old more new is others e = record {
  inside = omega (arith, e.inside, ap length is, length-append old more);
  others = same_mine belongs session (drop reached old) more (drop reached new) (ap (drop reached) is ∙ drop-append-le reached old more e.inside) others ∙ e.others;
}

-- the calls match, by fewer contents
pub fits_others : (session : ℕ) (holds holds' : Known → Type 0) → ((known : Known) → holds' known → holds known) → (served : List Served) (s t : State) → OthersAdd session s t → Fits session holds served s → Fits session holds' served t
fits_others session holds holds' fewer served s t o f = record {
  matching = record {
    own = f.matching.own;
    answered = f.matching.answered;
    tree = subst (λ l. TreeMatches session t.files l served (entries_of in_tree_of session t.tree)) (sym o.tree)
        (subst (TreeMatches session t.files (s.tree ++ o.tree_more) served) (sym (same_mine in_tree_of session s.tree o.tree_more t.tree o.tree o.tree_others))
        (stays in_tree_of tree_place (λ older d before added. TreeDoes d.by s.files d.line.call d.done before added) (λ older d before added. TreeDoes d.by t.files d.line.call d.done before added)
        (λ older d before added x. tree_stays d.by s.files t.files d.done d.line.call before added grew x) session s.tree o.tree_more served (entries_of in_tree_of session s.tree) f.matching.tree));
    file = λ item. subst (λ l. FileMatches holds' item session l served (entries_of in_file_of session (entries_in t.files item))) (sym (o.file item).1)
        (subst (FileMatches holds' item session (entries_in s.files item ++ (o.file item).0) served) (sym (same_mine in_file_of session (entries_in s.files item) (o.file item).0 (entries_in t.files item) (o.file item).1 (o.file item).2))
        (stays in_file_of (file_place item) (λ older d before added. FileDoes holds d.by d.line.call d.done before added) (λ older d before added. FileDoes holds' d.by d.line.call d.done before added)
        (λ older d before added x. file_stays holds holds' fewer d.by d.line.call d.done before added x) session (entries_in s.files item) (o.file item).0 served (entries_of in_file_of session (entries_in s.files item)) (f.matching.file item)));
    full = full_stays session served t.limit s.limit s.tree t.tree s.files t.files o.limit o.tree_more o.tree grew f.matching.full;
  };
  handles = λ handle. ap (λ table. file_at table handle) o.table ∙ f.handles handle;
  records = o.records ∙ f.records;
  tree_end = still_within in_tree_of session (reached tree_place served) s.tree o.tree_more t.tree o.tree o.tree_others f.tree_end;
  file_end = λ item. still_within in_file_of session (reached (file_place item) served) (entries_in s.files item) (o.file item).0 (entries_in t.files item) (o.file item).1 (o.file item).2 (f.file_end item);
} where
  grew : (i : ℕ) → (more : List Entry) × (entries_in t.files i ≡ entries_in s.files i ++ more)
  grew i = ((o.file i).0, (o.file i).1)
