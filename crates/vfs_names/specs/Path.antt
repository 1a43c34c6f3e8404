-- Which texts are paths. A text is its bytes.
use Rattle.std.specs.Prelude.{◌≡◌, ◌≢◌, ◌⊎◌, ℕ, ◌+◌, ◌<◌, ◌≤◌, ◌==◌, ◌&&◌, ◌||◌, Bool, not, nat_eq, nat_le, List, [], length, codes, slice_index, take}
use Rattle.std.specs.List.{slice_split, starts_with, list_all, list_any}
use lib.Pointwise.{pointwise}

-- the two texts are equal
abbrev pub same_text : List ℕ → List ℕ → Bool
same_text = pointwise nat_eq

-- a name isn't empty, `.` or `..`, has no NUL byte, and doesn't begin with `.vfs-stage-`, as the files of stages do
unfoldable pub is_name : List ℕ → Bool
is_name name = not (same_text name []) && not (same_text name (codes ".")) && not (same_text name (codes ".."))
    && not (list_any (λ byte. byte == 0) name) && not (starts_with nat_eq name (codes ".vfs-stage-"))

-- the parts of a text between its slashes
abbrev pub names_of : List ℕ → List (List ℕ)
names_of text = slice_split (λ byte. byte == 47) text

-- a path is at most 1,024 bytes long, and is empty, which is the root, or names joined by slashes
abbrev pub is_path : List ℕ → Bool
is_path text = nat_le (length text) 1024 && (same_text text [] || list_all is_name (names_of text))

-- no slash stands in the text at or past i
abbrev pub NoSlashFrom : ℕ → List ℕ → Type 0
NoSlashFrom i text = (k : ℕ) → i ≤ k → k < length text → slice_index text k ≢ 47

-- the text's last slash stands at i
pub record IsLastSlash (i : ℕ) (text : List ℕ) : Type 0 where
  pub inside : i < length text
  pub slash : slice_index text i ≡ 47
  pub last : NoSlashFrom (i + 1) text

-- the directory that a path lies in: what stands before its last slash, or the root where it has none
abbrev pub IsParent : List ℕ → List ℕ → Type 0
IsParent parent path = ((i : ℕ) × IsLastSlash i path × (parent ≡ take i path)) ⊎ (NoSlashFrom 0 path × (parent ≡ []))
