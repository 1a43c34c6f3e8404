-- How the rows of a directory grow with the nodes that are looked at.
use Rattle.std.proofs.Common.{◌≡◌, ◌≢◌, ◌==◌, ◌∙◌, length, ap, sym, refl, subst, ℕ, ◌++◌, ◌||◌, cond, Bool, true, false, List, [], ◌∷◌, Option, Some, None}
use Rattle.std.specs.List.{list_any}
use Rattle.std.specs.Option.{option_or}
use Rattle.std.proofs.lemmas.List.{append_cancel_left}
use Rattle.std.proofs.lemmas.List.Folds.{find-append, list_any-append}
use lib.Pointwise.{bytes_decides}
use Rattle.vfs_names.specs.Path.{is_name, same_text}
use Rattle.vfs_outside.specs.Outside.{HasNames}
use Rattle.vfs_outside.specs.RowName.{IsRowName}
use Rattle.vfs_outside.specs.Store.{Thing, child}
use Rattle.vfs_outside.specs.Told.{ShowsAs, row_of}
use Rattle.vfs_outside.specs.declared.listing.Row.{Row}
use Rattle.remote_memory.specs.Nodes.{AddsNode, ListsDir, node_at, store_of, thing_in, thing_of}
use Rattle.remote_memory.specs.declared.node.Node.{Node}

pub texts_same : (a b : List ℕ) → same_text a b ≡ true → a ≡ b
texts_same a b h = (bytes_decides a b).0 h

pub same_texts : (a b : List ℕ) → a ≡ b → same_text a b ≡ true
same_texts a b e = (bytes_decides a b).1 e

pub texts_differ : (a b : List ℕ) → same_text a b ≡ false → a ≢ b
texts_differ a b h e = absurd (clash (same_text a b) (same_texts a b e) h) where
  clash : (t : Bool) → t ≡ true → t ≡ false → ⊥
  clash t x y = cc

differ_at : (a b : List ℕ) (t : Bool) → same_text a b ≡ t → a ≢ b → t ≡ false
differ_at a b true h n = absurd (n (texts_same a b h))
differ_at a b false h n = refl

pub differ_texts : (a b : List ℕ) → a ≢ b → same_text a b ≡ false
differ_texts a b n = let t = same_text a b in differ_at a b t refl n

unnamed : {A : Type 0} → is_name [] ≡ true → A
unfolding is_name
unnamed h = absurd (cc)

-- a name's place in a directory isn't the root
pub below_root : (nodes : List Node) (dir name : List ℕ) → IsRowName name → store_of nodes (child dir name) ≡ thing_in (node_at nodes (child dir name))
below_root nodes [] [] ok = unnamed ok.is_one
below_root nodes [] (b ∷ bs) ok = refl
below_root nodes (d ∷ ds) name ok = refl

-- two names have two places
pub child_one : (dir a b : List ℕ) → child dir a ≡ child dir b → a ≡ b
child_one [] a b e = e
child_one (d ∷ ds) a b e = tail (append_cancel_left (d ∷ ds) (47 ∷ a) (47 ∷ b) e) where
  tail : 47 ∷ a ≡ 47 ∷ b → a ≡ b
  tail h = cc

-- one more node, at another path
pub node_other : (nodes : List Node) (node : Node) (p : List ℕ) → same_text node.path p ≡ false → node_at (nodes ++ node ∷ []) p ≡ node_at nodes p
node_other nodes node p h = find-append (λ (n : Node). same_text n.path p) nodes (node ∷ []) ∙ ap (λ b. option_or (node_at nodes p) (cond b (Some node) None)) h ∙ none (node_at nodes p) where
  none : (o : Option Node) → option_or o None ≡ o
  none None = refl
  none (Some x) = refl

-- one more node at the path, where there was none
pub node_new : (nodes : List Node) (node : Node) (p : List ℕ) → same_text node.path p ≡ true → node_at nodes p ≡ None → node_at (nodes ++ node ∷ []) p ≡ Some node
node_new nodes node p h e = find-append (λ (n : Node). same_text n.path p) nodes (node ∷ []) ∙ ap (λ o. option_or o (node_at (node ∷ []) p)) e ∙ ap (λ b. cond b (Some node) None) h

-- one more node, where there was one
node_kept_at : (nodes : List Node) (node : Node) (p : List ℕ) (o : Option Node) → node_at nodes p ≡ o → thing_in o ≢ None → node_at (nodes ++ node ∷ []) p ≡ o
node_kept_at nodes node p None e n = absurd (n refl)
node_kept_at nodes node p (Some x) e n = find-append (λ (n : Node). same_text n.path p) nodes (node ∷ []) ∙ ap (λ o. option_or o (node_at (node ∷ []) p)) e

pub node_kept : (nodes : List Node) (node : Node) (p : List ℕ) → thing_in (node_at nodes p) ≢ None → node_at (nodes ++ node ∷ []) p ≡ node_at nodes p
node_kept nodes node p n = node_kept_at nodes node p (node_at nodes p) refl n

-- what a row shows is there
shown_there : (row : Row) (thing : Option Thing) → ShowsAs (Some row) thing → thing ≢ None
shown_there row None h e = h
shown_there row (Some x) h e = cc

hidden_none : (thing : Option Thing) → ShowsAs None thing → thing ≡ None
hidden_none None h = refl
hidden_none (Some x) h = absurd h

thing_none : (o : Option Node) → thing_in o ≡ None → o ≡ None
thing_none None e = refl
thing_none (Some x) e = absurd (clash (thing_of x.kept) e) where
  clash : (t : Thing) → Some t ≡ None → ⊥
  clash t h = cc

pub lists_none : (dir : List ℕ) → ListsDir dir [] []
lists_none dir = record { names = tt; shows = λ name ok. subst (ShowsAs None) (sym (below_root [] dir name ok)) tt }

-- the same is shown where the node isn't at a name's place
stays_shown : (dir name : List ℕ) (nodes : List Node) (node : Node) (row : Option Row) → IsRowName name → node_at (nodes ++ node ∷ []) (child dir name) ≡ node_at nodes (child dir name)
    → ShowsAs row (store_of nodes (child dir name)) → ShowsAs row (store_of (nodes ++ node ∷ []) (child dir name))
stays_shown dir name nodes node row ok e s = subst (ShowsAs row) (below_root nodes dir name ok ∙ ap thing_in (sym e) ∙ sym (below_root (nodes ++ node ∷ []) dir name ok)) s

-- a node that lies elsewhere adds no row
pub adds_none : (dir : List ℕ) (node : Node) (rows : List Row) → ((name : List ℕ) → IsRowName name → node.path ≢ child dir name) → AddsNode dir node rows rows
adds_none dir node rows n nodes l = record {
  names = l.names;
  shows = λ name ok. stays_shown dir name nodes node (row_of name rows) ok (node_other nodes node (child dir name) (differ_texts node.path (child dir name) (n name ok))) (l.shows name ok);
}

-- a node whose name has a row adds none
adds_again_at : (dir x name : List ℕ) (nodes : List Node) (node : Node) (rows : List Row) (row : Row) (t : Bool) → same_text x name ≡ t → ListsDir dir nodes rows → node.path ≡ child dir x → row_of x rows ≡ Some row → IsRowName name
    → ShowsAs (row_of name rows) (store_of (nodes ++ node ∷ []) (child dir name))
adds_again_at dir x name nodes node rows row true h l e f ok =
    let same : x ≡ name = texts_same x name h in
    let found : row_of name rows ≡ Some row = subst (λ n. row_of n rows ≡ Some row) same f in
    let shown : ShowsAs (Some row) (thing_in (node_at nodes (child dir name))) = subst (λ r. ShowsAs r (thing_in (node_at nodes (child dir name)))) found (subst (ShowsAs (row_of name rows)) (below_root nodes dir name ok) (l.shows name ok)) in
    stays_shown dir name nodes node (row_of name rows) ok (node_kept nodes node (child dir name) (shown_there row (thing_in (node_at nodes (child dir name))) shown)) (l.shows name ok)
adds_again_at dir x name nodes node rows row false h l e f ok =
    stays_shown dir name nodes node (row_of name rows) ok (node_other nodes node (child dir name) (differ_texts node.path (child dir name) (λ g. texts_differ x name h (child_one dir x name (sym e ∙ g))))) (l.shows name ok)

pub adds_again : (dir x : List ℕ) (node : Node) (rows : List Row) (row : Row) → node.path ≡ child dir x → row_of x rows ≡ Some row → AddsNode dir node rows rows
adds_again dir x node rows row e f nodes l = record {
  names = l.names;
  shows = λ name ok. adds_again_at dir x name nodes node rows row (same_text x name) refl l e f ok;
}

-- a row of another name is looked for further on
none_first : (b : Bool) (row : Row) (rest : Option Row) → cond b (Some row) rest ≡ None → (b ≡ false) × (rest ≡ None)
none_first true row rest h = absurd (clash row h) where
  clash : (r : Row) → Some r ≡ None → ⊥
  clash r e = cc
none_first false row rest h = (refl, h)

same_turned : (a b : List ℕ) → same_text a b ≡ false → same_text b a ≡ false
same_turned a b h = differ_texts b a (λ e. texts_differ a b h (sym e))

names_more : (rows : List Row) (row : Row) → HasNames rows → IsRowName row.name → row_of row.name rows ≡ None → HasNames (rows ++ row ∷ [])
names_more [] row h ok n = (ok, refl, tt)
names_more (r ∷ rs) row h ok n =
    let f : (same_text r.name row.name ≡ false) × (row_of row.name rs ≡ None) = none_first (same_text r.name row.name) r (row_of row.name rs) n in
    let last : list_any (λ (other : Row). same_text other.name r.name) (rs ++ row ∷ []) ≡ false = list_any-append (λ (other : Row). same_text other.name r.name) rs (row ∷ []) ∙ none (list_any (λ (other : Row). same_text other.name r.name) rs) (same_text row.name r.name) h.1 (same_turned r.name row.name f.0) in
    (h.0, last, names_more rs row h.2 ok f.1) where
      none : (a b : Bool) → a ≡ false → b ≡ false → (a || (b || false)) ≡ false
      none true b p q = absurd (cc)
      none false true p q = absurd (cc)
      none false false p q = refl

row_new : (rows : List Row) (row : Row) (name : List ℕ) → same_text row.name name ≡ true → row_of name rows ≡ None → row_of name (rows ++ row ∷ []) ≡ Some row
row_new rows row name h e = find-append (λ (r : Row). same_text r.name name) rows (row ∷ []) ∙ ap (λ o. option_or o (row_of name (row ∷ []))) e ∙ ap (λ b. cond b (Some row) None) h

row_other : (rows : List Row) (row : Row) (name : List ℕ) → same_text row.name name ≡ false → row_of name (rows ++ row ∷ []) ≡ row_of name rows
row_other rows row name h = find-append (λ (r : Row). same_text r.name name) rows (row ∷ []) ∙ ap (λ b. option_or (row_of name rows) (cond b (Some row) None)) h ∙ none (row_of name rows) where
  none : (o : Option Row) → option_or o None ≡ o
  none None = refl
  none (Some x) = refl

adds_row_at : (dir name : List ℕ) (nodes : List Node) (node : Node) (rows : List Row) (row : Row) (t : Bool) → same_text row.name name ≡ t → ListsDir dir nodes rows → node.path ≡ child dir row.name → row_of row.name rows ≡ None
    → ShowsAs (Some row) (Some (thing_of node.kept)) → IsRowName name → ShowsAs (row_of name (rows ++ row ∷ [])) (store_of (nodes ++ node ∷ []) (child dir name))
adds_row_at dir name nodes node rows row true h l e n s ok =
    let same : row.name ≡ name = texts_same row.name name h in
    let free : row_of name rows ≡ None = subst (λ x. row_of x rows ≡ None) same n in
    let hidden : ShowsAs None (thing_in (node_at nodes (child dir name))) = subst (λ r. ShowsAs r (thing_in (node_at nodes (child dir name)))) free (subst (ShowsAs (row_of name rows)) (below_root nodes dir name ok) (l.shows name ok)) in
    let none : node_at nodes (child dir name) ≡ None = thing_none (node_at nodes (child dir name)) (hidden_none (thing_in (node_at nodes (child dir name))) hidden) in
    let there : node_at (nodes ++ node ∷ []) (child dir name) ≡ Some node = node_new nodes node (child dir name) (same_texts node.path (child dir name) (e ∙ ap (child dir) same)) none in
    subst (λ r. ShowsAs r (store_of (nodes ++ node ∷ []) (child dir name))) (sym (row_new rows row name h free)) (subst (ShowsAs (Some row)) (sym (below_root (nodes ++ node ∷ []) dir name ok ∙ ap thing_in there)) s)
adds_row_at dir name nodes node rows row false h l e n s ok =
    subst (λ r. ShowsAs r (store_of (nodes ++ node ∷ []) (child dir name))) (sym (row_other rows row name h))
    (stays_shown dir name nodes node (row_of name rows) ok (node_other nodes node (child dir name) (differ_texts node.path (child dir name) (λ g. texts_differ row.name name h (child_one dir row.name name (sym e ∙ g))))) (l.shows name ok))

-- a node whose name has no row yet adds its row
pub adds_row : (dir : List ℕ) (node : Node) (rows : List Row) (row : Row) → node.path ≡ child dir row.name → IsRowName row.name → row_of row.name rows ≡ None → ShowsAs (Some row) (Some (thing_of node.kept))
    → AddsNode dir node rows (rows ++ row ∷ [])
adds_row dir node rows row e ok n s nodes l = record {
  names = names_more rows row l.names ok n;
  shows = λ name named. adds_row_at dir name nodes node rows row (same_text row.name name) refl l e n s named;
}

-- below a directory that isn't the root
pub child_below : (dir name : List ℕ) → (length dir == 0) ≡ false → child dir name ≡ dir ++ 47 ∷ name
child_below [] name h = absurd (cc)
child_below (d ∷ ds) name h = refl
