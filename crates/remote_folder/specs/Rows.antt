-- The rows of a directory in their order.
use Rattle.std.specs.Prelude.{◌≡◌, ℕ, Bool, List, map}
use Rattle.std.specs.List.{dedup}
use Rattle.std.specs.List.Sorted.{IsPermutation, IsSorted, IsStrictlySortedBy}
use Rattle.std.specs.Cmp.Lexicographic.{slice_cmp}
use Rattle.std.specs.Ordering.{nat_cmp}
use Rattle.std.specs.declared.cmp.Ordering.{Ordering}
use Rattle.vfs_names.specs.Path.{same_text}
use Rattle.vfs_outside.specs.declared.listing.Row.{Row}
use Rattle.remote_folder.specs.declared.named.NamedRow.{NamedRow}

abbrev pub name_in : NamedRow → List ℕ
name_in named = named.row.name

-- of two names, the one whose bytes come first
abbrev pub order : NamedRow → NamedRow → Ordering
order a b = slice_cmp nat_cmp (name_in a) (name_in b)

abbrev pub same_name : NamedRow → NamedRow → Bool
same_name a b = same_text (name_in a) (name_in b)

-- the rows are those that were found, sorted by the bytes of their names, and one of each name
pub record IsSortedOnce (found rows : List NamedRow) : Type 0 where
  pub sorted : List NamedRow
  pub same : IsPermutation found sorted
  pub in_order : IsSorted order sorted
  pub once : rows ≡ dedup same_name sorted

pub record IsOrdered (found : List NamedRow) (rows : List Row) : Type 0 where
  pub once : List NamedRow
  pub sorted : IsSortedOnce found once
  pub bare : rows ≡ map (λ (named : NamedRow). named.row) once

-- each row's name comes before those after it, by their bytes
abbrev pub IsAscending : List Row → Type 0
IsAscending rows = IsStrictlySortedBy (λ (a : Row) (b : Row). slice_cmp nat_cmp a.name b.name) rows
