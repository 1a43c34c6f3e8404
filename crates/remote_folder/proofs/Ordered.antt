-- Rows in order have names, and no two the same.
use Rattle.std.proofs.Common.{◌≡◌, ◌∙◌, ap, sym, refl, subst, ℕ, false, List, [], ◌∷◌}
use Rattle.std.specs.Prelude.{map}
use Rattle.std.specs.List.{AllByRecursion, list_any}
use Rattle.std.specs.List.Sorted.{IsStrictlySortedBy}
use Rattle.std.specs.Cmp.Lexicographic.{nat_list_eq_equiv, on_texts, slice_cmp}
use Rattle.std.specs.Ordering.{is_eq, nat_cmp}
use Rattle.std.specs.declared.cmp.Ordering.TheVariants.{Less}
use Rattle.std.proofs.lemmas.List.Kept.{IsStrictlySortedBy-dedup}
use Rattle.std.proofs.lemmas.Map.Keys.{sorted_head, sorted_tail}
use Rattle.std.proofs.lemmas.Map.Text.{is_eq-slice_cmp}
use Rattle.vfs_names.specs.Path.{same_text}
use Rattle.vfs_outside.specs.Outside.{HasNames}
use Rattle.vfs_outside.specs.declared.listing.Row.{Row}
use Rattle.remote_folder.specs.Rows.{IsAscending, IsSortedOnce, name_in, order}
use Rattle.remote_folder.specs.declared.named.NamedRow.{NamedRow}

-- a text that comes before another isn't equal to it
before_differs : (a b : List ℕ) → slice_cmp nat_cmp a b ≡ Less → same_text b a ≡ false
before_differs a b e = nat_list_eq_equiv.symm b a ∙ sym (is_eq-slice_cmp a b) ∙ ap is_eq e

none_same : (a : List ℕ) (rows : List NamedRow) → AllByRecursion (λ (b : NamedRow). slice_cmp nat_cmp a (name_in b) ≡ Less) rows
    → list_any (λ (other : Row). same_text other.name a) (map (λ (n : NamedRow). n.row) rows) ≡ false
none_same a [] h = refl
none_same a (row ∷ rows) h = rw (before_differs a (name_in row) h.0) (none_same a rows h.1)

pub has_names : (rows : List NamedRow) → IsStrictlySortedBy order rows → HasNames (map (λ (n : NamedRow). n.row) rows)
has_names [] s = tt
has_names (row ∷ rows) s = (row.named, none_same (name_in row) rows (sorted_head order row rows s), has_names rows (sorted_tail order row rows s))

-- rows that were sorted and of which one of each name was left come one before the next
pub strictly_sorted : (found rows : List NamedRow) → IsSortedOnce found rows → IsStrictlySortedBy order rows
strictly_sorted found rows h = subst (IsStrictlySortedBy order) (sym h.once)
    (IsStrictlySortedBy-dedup (on_texts name_in) (λ a b. sym (is_eq-slice_cmp (name_in a) (name_in b))) h.sorted h.in_order)

bare_after : (a : NamedRow) (rows : List NamedRow) → AllByRecursion (λ (b : NamedRow). order a b ≡ Less) rows
    → AllByRecursion (λ (b : Row). slice_cmp nat_cmp (name_in a) b.name ≡ Less) (map (λ (n : NamedRow). n.row) rows)
bare_after a [] h = tt
bare_after a (row ∷ rows) h = (h.0, bare_after a rows h.1)

pub bare_ascending : (rows : List NamedRow) → IsStrictlySortedBy order rows → IsAscending (map (λ (n : NamedRow). n.row) rows)
unfolding IsStrictlySortedBy
bare_ascending [] s = tt
bare_ascending (row ∷ rows) s = (bare_after row rows s.0, bare_ascending rows s.1)
