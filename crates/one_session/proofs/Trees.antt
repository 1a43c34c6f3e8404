-- What the tree's history tells after one entry more.
use Rattle.std.proofs.Common.{◌≡◌, ℕ, ◌+◌, ◌++◌, ◌∙◌, ◌||◌, ap, refl, inl, inr, arith, Bool, false, Option, None, Some, List, [], ◌∷◌, cond, nat_lt, append-nil}
use Rattle.std.specs.List.{count_by, sum_by}
use Rattle.std.proofs.lemmas.List.{reverse-append}
use Rattle.std.proofs.lemmas.List.Folds.{list_any-append}
use Rattle.std.proofs.lemmas.List.Sums.{sum_by-append}
use Rattle.std.proofs.Math.Bool.{or-false}
use Rattle.std.proofs.Math.Nat.{zero-add}
use Rattle.vfs_names.specs.declared.refusal.Refusal.{Refusal}
use Rattle.vfs_names.specs.declared.refusal.Verb.{Verb}
use Rattle.vfs_names.specs.declared.who.By.{By}
use Rattle.vfs_outside.specs.declared.listing.Listing.{Listing}
use Rattle.vfs_outside.specs.declared.tree.TreeEntry.{TreeEntry}
use Rattle.vfs_outside.specs.declared.tree.TreeKind.{TreeKind}
use Rattle.vfs_outside.specs.declared.tree.TreeKind.TheVariants as tree
use Rattle.one_session.specs.Calls.{ListsOnce, in_tree}
use Rattle.one_session.specs.Tree.{closed_in, closes_item, files_after, files_back, files_of, is_close, is_held, is_held_at, is_held_in, is_listed, is_open, item_after, item_back, item_of, left_after, left_back, left_dirty, lists_root, opened_in, opens_item, shown, shown_after, shown_back}

-- counts of a list and one more
pub count_more : {X : Type 0} (p : X → Bool) (es : List X) (e : X) → count_by p (es ++ e ∷ []) ≡ count_by p es + cond (p e) 1 0
count_more {X} p es e = let f : X → ℕ = λ x. cond (p x) 1 0 in sum_by-append f es (e ∷ []) ∙ ap (λ n. sum_by f es + n) (zero-add (cond (p e) 1 0))

pub listed_more : (es : List TreeEntry) (e : TreeEntry) → is_listed (es ++ e ∷ []) ≡ (is_listed es || lists_root e.kind)
listed_more es e = list_any-append (λ (e : TreeEntry). lists_root e.kind) es (e ∷ []) ∙ ap (λ b. is_listed es || b) (or-false (lists_root e.kind))

pub shown_more : (es : List TreeEntry) (e : TreeEntry) (path : List ℕ) → shown (es ++ e ∷ []) path ≡ shown_after e.kind path (shown es path)
shown_more es e path = ap (λ l. shown_back l path) (reverse-append es (e ∷ []))

pub item_more : (es : List TreeEntry) (e : TreeEntry) (path : List ℕ) → item_of (es ++ e ∷ []) path ≡ item_after e.kind path (item_of es path)
item_more es e path = ap (λ l. item_back l path) (reverse-append es (e ∷ []))

pub files_more : (es : List TreeEntry) (e : TreeEntry) → files_of (es ++ e ∷ []) ≡ files_after e.kind (files_of es)
files_more es e = ap files_back (reverse-append es (e ∷ []))

pub left_more : (es : List TreeEntry) (e : TreeEntry) (item : ℕ) → left_dirty (es ++ e ∷ []) item ≡ left_after e.kind (item_of es) item (left_dirty es item)
left_more es e item = ap (λ l. left_back l item) (reverse-append es (e ∷ []))

pub opened_more : (es : List TreeEntry) (e : TreeEntry) (item : ℕ) → opened_in (es ++ e ∷ []) item ≡ opened_in es item + cond (opens_item item e.kind) 1 0
opened_more es e item = count_more (λ (e : TreeEntry). opens_item item e.kind) es e

pub closed_more : (es : List TreeEntry) (e : TreeEntry) (item : ℕ) → closed_in (es ++ e ∷ []) item ≡ closed_in es item + cond (closes_item item e.kind) 1 0
closed_more es e item = count_more (λ (e : TreeEntry). closes_item item e.kind) es e

-- the entry names, opens and closes no file
pub record IsPlain (kind : TreeKind) : Type 0 where
  pub item : (path : List ℕ) (old : Option ℕ) → item_after kind path old ≡ old
  pub files : (old : ℕ) → files_after kind old ≡ old
  pub left : (file_at : List ℕ → Option ℕ) (item : ℕ) (old : Bool) → left_after kind file_at item old ≡ old
  pub opens : (item : ℕ) → opens_item item kind ≡ false
  pub closes : (item : ℕ) → closes_item item kind ≡ false
  pub no_open : is_open kind ≡ false
  pub no_close : is_close kind ≡ false

pub plain_listed : (dir : List ℕ) (listing : Listing) → IsPlain (tree.Listed dir listing)
plain_listed dir listing = record { item = λ path old. refl; files = λ old. refl; left = λ file_at item old. refl; opens = λ item. refl; closes = λ item. refl; no_open = refl; no_close = refl }

pub plain_gone : (path : List ℕ) → IsPlain (tree.Gone path)
plain_gone path = record { item = λ path old. refl; files = λ old. refl; left = λ file_at item old. refl; opens = λ item. refl; closes = λ item. refl; no_open = refl; no_close = refl }

pub plain_refused : (verb : Verb) (path : List ℕ) (why : Refusal) → IsPlain (tree.Refused verb path why)
plain_refused verb path why = record { item = λ path old. refl; files = λ old. refl; left = λ file_at item old. refl; opens = λ item. refl; closes = λ item. refl; no_open = refl; no_close = refl }

plus_none : (n : ℕ) (b : Bool) → b ≡ false → n + cond b 1 0 ≡ n
plus_none n b e = rw e (omega arith)

-- nothing is told anew after such an entry
pub opened_plain : (es : List TreeEntry) (e : TreeEntry) (item : ℕ) → IsPlain e.kind → opened_in (es ++ e ∷ []) item ≡ opened_in es item
opened_plain es e item p = opened_more es e item ∙ plus_none (opened_in es item) (opens_item item e.kind) (p.opens item)

pub closed_plain : (es : List TreeEntry) (e : TreeEntry) (item : ℕ) → IsPlain e.kind → closed_in (es ++ e ∷ []) item ≡ closed_in es item
closed_plain es e item p = closed_more es e item ∙ plus_none (closed_in es item) (closes_item item e.kind) (p.closes item)

pub left_plain : (es : List TreeEntry) (e : TreeEntry) (item : ℕ) → IsPlain e.kind → left_dirty (es ++ e ∷ []) item ≡ left_dirty es item
left_plain es e item p = left_more es e item ∙ p.left (item_of es) item (left_dirty es item)

pub item_plain : (es : List TreeEntry) (e : TreeEntry) (path : List ℕ) → IsPlain e.kind → item_of (es ++ e ∷ []) path ≡ item_of es path
item_plain es e path p = item_more es e path ∙ p.item path (item_of es path)

held_plain : (es : List TreeEntry) (e : TreeEntry) (item : ℕ) → IsPlain e.kind → is_held (es ++ e ∷ []) item ≡ is_held es item
held_plain es e item p = ap (λ n. nat_lt n (opened_in (es ++ e ∷ []) item) || left_dirty (es ++ e ∷ []) item) (closed_plain es e item p)
    ∙ ap (λ n. nat_lt (closed_in es item) n || left_dirty (es ++ e ∷ []) item) (opened_plain es e item p)
    ∙ ap (λ b. nat_lt (closed_in es item) (opened_in es item) || b) (left_plain es e item p)

held_in_plain : (es : List TreeEntry) (e : TreeEntry) (o : Option ℕ) → IsPlain e.kind → is_held_in (es ++ e ∷ []) o ≡ is_held_in es o
held_in_plain es e None p = refl
held_in_plain es e (Some item) p = held_plain es e item p

held_at_plain : (es : List TreeEntry) (e : TreeEntry) (path : List ℕ) → IsPlain e.kind → is_held_at (es ++ e ∷ []) path ≡ is_held_at es path
held_at_plain es e path p = ap (is_held_in (es ++ e ∷ [])) (item_plain es e path p) ∙ held_in_plain es e (item_of es path) p

-- and after the root was listed where it wasn't yet
module _ {X : Type 0} (f : List TreeEntry → X) (same : (es : List TreeEntry) (e : TreeEntry) → IsPlain e.kind → f (es ++ e ∷ []) ≡ f es) where
  pub looked : (by : By) (es lists : List TreeEntry) → ListsOnce by es lists → f (es ++ lists) ≡ f es
  looked by es lists (inl h) = ap (λ l. f (es ++ l)) h.1 ∙ ap f (append-nil es)
  looked by es lists (inr h) = ap (λ l. f (es ++ l)) h.1.1 ∙ same es (in_tree by (tree.Listed [] h.1.0)) (plain_listed [] h.1.0)

pub looked_item : (by : By) (es lists : List TreeEntry) (path : List ℕ) → ListsOnce by es lists → item_of (es ++ lists) path ≡ item_of es path
looked_item by es lists path h = looked (λ l. item_of l path) (λ es e p. item_plain es e path p) by es lists h

pub looked_files : (by : By) (es lists : List TreeEntry) → ListsOnce by es lists → files_of (es ++ lists) ≡ files_of es
looked_files by es lists h = looked files_of (λ es e p. files_more es e ∙ p.files (files_of es)) by es lists h

pub looked_held : (by : By) (es lists : List TreeEntry) (path : List ℕ) → ListsOnce by es lists → is_held_at (es ++ lists) path ≡ is_held_at es path
looked_held by es lists path h = looked (λ l. is_held_at l path) (λ es e p. held_at_plain es e path p) by es lists h
