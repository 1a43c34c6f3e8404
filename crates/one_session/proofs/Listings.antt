-- What is kept beside the tree's history goes on with it.
use Rattle.std.proofs.Common.{◌≡◌, ◌<◌, ◌≤◌, ℕ, ◌+◌, ◌-◌, ◌++◌, ◌∙◌, ◌||◌, ap, sym, refl, subst, arith, Bool, true, false, Option, None, Some, List, [], ◌∷◌, cond}
use Rattle.std.specs.List.{count_by}
use Rattle.std.proofs.Math.Bool.{or-false, or-true}
use Rattle.vfs_names.specs.declared.who.By.{By}
use Rattle.vfs_outside.specs.declared.listing.Listing.{Listing}
use Rattle.vfs_outside.specs.declared.tree.TreeEntry.{TreeEntry}
use Rattle.vfs_outside.specs.declared.tree.TreeKind.{TreeKind}
use Rattle.vfs_outside.specs.declared.tree.TreeKind.TheVariants.{Created, Opened, Closed, Listed}
use Rattle.shown_rows.specs.Shown.{shown_by, shown_in}
use Rattle.shown_rows.specs.declared.ShownRows.{ShownRows}
use Rattle.one_session.specs.Calls.{in_tree}
use Rattle.one_session.specs.Tree.{is_open, is_close, is_listed, lists_root, shown, shown_after}
use Rattle.one_session.specs.Views.{tree_places}
use Rattle.one_session.specs.TreeFacts.{IsTold, handles_after}
use Rattle.one_session.proofs.Trees.{count_more, listed_more, shown_more}

handles_by : (kind : TreeKind) (opened closed handles : ℕ) → opened ≡ closed + handles → (is_close kind ≡ true → 0 < handles) → opened + cond (is_open kind) 1 0 ≡ (closed + cond (is_close kind) 1 0) + handles_after kind handles
handles_by (Created path item) opened closed handles e h = omega arith
handles_by (Opened path item print) opened closed handles e h = omega arith
handles_by (Closed item dirty) opened closed handles e h = omega (arith, h refl)
handles_by _ opened closed handles e h = omega arith

-- an entry fits into the room that was made for it
pub room_by : (kind : TreeKind) (most len handles : ℕ) → tree_places kind ≤ most - (len + handles) → len + handles ≤ most → (is_close kind ≡ true → 0 < handles) → (len + 1) + handles_after kind handles ≤ most
room_by (Created path item) most len handles r f h = omega (arith, r, f)
room_by (Opened path item print) most len handles r f h = omega (arith, r, f)
room_by (Closed item dirty) most len handles r f h = omega (arith, f, h refl)
room_by _ most len handles r f h = omega (arith, r, f)

-- what is counted goes on with one entry more
counted_more : (es : List TreeEntry) (e : TreeEntry) (handles : ℕ) → count_by (λ (e : TreeEntry). is_open e.kind) es ≡ count_by (λ (e : TreeEntry). is_close e.kind) es + handles → (is_close e.kind ≡ true → 0 < handles)
    → count_by (λ (e : TreeEntry). is_open e.kind) (es ++ e ∷ []) ≡ count_by (λ (e : TreeEntry). is_close e.kind) (es ++ e ∷ []) + handles_after e.kind handles
counted_more es e handles c close = count_more (λ (e : TreeEntry). is_open e.kind) es e ∙ handles_by e.kind _ _ handles c close ∙ ap (λ n. n + handles_after e.kind handles) (sym (count_more (λ (e : TreeEntry). is_close e.kind) es e))

-- after an entry that doesn't list the root
pub told_more : (es es' : List TreeEntry) (e : TreeEntry) (handles handles' : ℕ) (listed : Bool) (rows rows' : ShownRows) → es' ≡ es ++ e ∷ [] → handles' ≡ handles_after e.kind handles
    → ((path : List ℕ) → shown_in rows' path ≡ shown_after e.kind path (shown_in rows path)) → IsTold es handles listed rows → (is_close e.kind ≡ true → 0 < handles) → lists_root e.kind ≡ false → IsTold es' handles' listed rows'
told_more es es' e handles handles' listed rows rows' is h after t close none = subst (λ l. IsTold l handles' listed rows') (sym is) (subst (λ n. IsTold (es ++ e ∷ []) n listed rows') (sym h) (record {
  counted = counted_more es e handles t.counted close;
  root = t.root ∙ sym (or-false (is_listed es)) ∙ ap (λ b. is_listed es || b) (sym none) ∙ sym (listed_more es e);
  found = λ path. after path ∙ ap (shown_after e.kind path) (t.found path) ∙ sym (shown_more es e path);
}))

-- after a listing of the root
pub told_listed : (es es' : List TreeEntry) (by : By) (dir : List ℕ) (listing : Listing) (handles : ℕ) (listed : Bool) (rows rows' : ShownRows) → dir ≡ [] → es' ≡ es ++ in_tree by (Listed dir listing) ∷ []
    → ((path : List ℕ) → shown_in rows' path ≡ shown_by listing.rows path) → IsTold es handles listed rows → IsTold es' handles true rows'
told_listed es es' by dir listing handles listed rows rows' root is shows t = subst (λ l. IsTold l handles true rows') (sym (is ∙ ap (λ d. es ++ in_tree by (Listed d listing) ∷ []) root)) (record {
  counted = counted_more es (in_tree by (Listed [] listing)) handles t.counted (λ e. absurd (no e));
  root = sym (listed_more es (in_tree by (Listed [] listing)) ∙ or-true (is_listed es));
  found = λ path. shows path ∙ sym (shown_more es (in_tree by (Listed [] listing)) path);
}) where
  no : {A : Type 0} → false ≡ true → A
  no e = absurd (cc)
