-- What rows show, one row after another.
use Rattle.std.proofs.Common.{◌≡◌, ◌∙◌, ap, refl, sym, subst, true≢false, ℕ, suc, ◌+◌, ◌<◌, ◌||◌, Bool, true, false, cond, Option, Some, option_map, List, [], ◌∷◌, ◌++◌, length, take, drop, get_or}
use Rattle.std.proofs.Math.Seq.{split_at}
use Rattle.std.proofs.lemmas.List.{take_more}
use Rattle.std.proofs.lemmas.Slice.Eq.{bytes_eq-Decides}
use Rattle.std.specs.List.{list_any}
use Rattle.vfs_names.specs.Path.{same_text}
use Rattle.vfs_outside.specs.Outside.{HasNames}
use Rattle.vfs_outside.specs.RowName.{IsRowName}
use Rattle.vfs_outside.specs.Told.{row_of}
use Rattle.vfs_outside.specs.declared.listing.Row.{Row}
use Rattle.shown_rows.specs.Shown.{shown_by, shown_of}
use Rattle.shown_rows.specs.declared.rows.Shown.{Shown}

map_first : (here : Bool) (row : Row) (later : Option Row) → option_map shown_of (cond here (Some row) later) ≡ cond here (Some (shown_of row)) (option_map shown_of later)
map_first true row later = refl
map_first false row later = refl

-- the first row shows its name
first_shown : (row : Row) (rows : List Row) (name : List ℕ) → shown_by (row ∷ rows) name ≡ cond (same_text row.name name) (Some (shown_of row)) (shown_by rows name)
first_shown row rows name = map_first (same_text row.name name) row (row_of name rows)

or_first : (a b : Bool) → (a || b) ≡ false → a ≡ false
or_first true b h = h
or_first false b h = refl

or_second : (a b : Bool) → (a || b) ≡ false → b ≡ false
or_second true b h = absurd (true≢false h)
or_second false b h = h

none_passes : {X : Type 0} (test : X → Bool) (before : List X) (x : X) (after : List X) → list_any test (before ++ x ∷ after) ≡ false → test x ≡ false
none_passes test [] x after h = or_first (test x) (list_any test after) h
none_passes test (y ∷ before) x after h = none_passes test before x after (or_second (test y) (list_any test (before ++ x ∷ after)) h)

-- a row of another name than the first row's isn't of a name that is the first's
other_name : (first name later : List ℕ) → same_text later first ≡ false → same_text first name ≡ true → same_text later name ≡ false
other_name first name later differs same = subst (λ text. same_text later text ≡ false) ((bytes_eq-Decides first name).0 same) differs

swapped : (a b : Bool) (x y : Shown) (other : Option Shown) → (a ≡ true → b ≡ false) → cond a (Some x) (cond b (Some y) other) ≡ cond b (Some y) (cond a (Some x) other)
swapped true true x y other h = absurd (true≢false (h refl))
swapped true false x y other h = refl
swapped false b x y other h = refl

-- where no two rows have the same name, the last row shows its name too
last_shown : (before : List Row) (row : Row) (after : List Row) → HasNames (before ++ row ∷ after)
    → (name : List ℕ) → shown_by (before ++ row ∷ []) name ≡ cond (same_text row.name name) (Some (shown_of row)) (shown_by before name)
last_shown [] row after names name = first_shown row [] name
last_shown (first ∷ before) row after names name = first_shown first (before ++ row ∷ []) name
    ∙ ap (cond (same_text first.name name) (Some (shown_of first))) (last_shown before row after names.2 name)
    ∙ swapped (same_text first.name name) (same_text row.name name) (shown_of first) (shown_of row) (shown_by before name)
    (other_name first.name name row.name (none_passes (λ (other : Row). same_text other.name first.name) before row after names.1))
    ∙ ap (cond (same_text row.name name) (Some (shown_of row))) (sym (first_shown first before name))

name_of : (before : List Row) (row : Row) (after : List Row) → HasNames (before ++ row ∷ after) → IsRowName row.name
name_of [] row after names = names.0
name_of (first ∷ before) row after names = name_of before row after names.2

module _ (rows : List Row) (i : ℕ) (row : Row) (inside : i < length rows) (is : row ≡ get_or rows i row) (names : HasNames rows) where
  split : HasNames (take i rows ++ row ∷ drop (suc i) rows)
  split = subst HasNames (split_at rows i row inside ∙ ap (λ (x : Row). take i rows ++ x ∷ drop (suc i) rows) (sym is)) names

  -- the row at i has a name
  pub has_name : IsRowName row.name
  has_name = name_of (take i rows) row (drop (suc i) rows) split

  -- the rows up to i and the one at i show what the row says at its name, and at each other what those before show
  pub next_shown : (name : List ℕ) → shown_by (take (i + 1) rows) name ≡ cond (same_text row.name name) (Some (shown_of row)) (shown_by (take i rows) name)
  next_shown name = ap (λ l. shown_by l name) (take_more rows i row inside ∙ ap (λ (x : Row). take i rows ++ x ∷ []) (sym is))
      ∙ last_shown (take i rows) row (drop (suc i) rows) split name
