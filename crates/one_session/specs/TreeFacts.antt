-- What is kept beside the tree's history.
use Rattle.std.specs.Prelude.{◌≡◌, ℕ, ◌+◌, ◌-◌, Bool, List}
use Rattle.std.specs.List.{count_by}
use Rattle.vfs_outside.specs.declared.tree.TreeEntry.{TreeEntry}
use Rattle.vfs_outside.specs.declared.tree.TreeKind.{TreeKind}
use Rattle.vfs_outside.specs.declared.tree.TreeKind.TheVariants.{Created, Opened, Closed}
use Rattle.shown_rows.specs.Shown.{shown_in}
use Rattle.shown_rows.specs.declared.ShownRows.{ShownRows}
use Rattle.one_session.specs.Tree.{is_open, is_close, is_listed, shown}

-- the open handles after an entry
abbrev pub handles_after : TreeKind → ℕ → ℕ
handles_after (Created path item) old = old + 1
handles_after (Opened path item print) old = old + 1
handles_after (Closed item dirty) old = old - 1
handles_after _ old = old

-- the handles that are open are counted, whether the root was listed is known, and what it shows is found
pub record IsTold (entries : List TreeEntry) (handles : ℕ) (listed : Bool) (rows : ShownRows) : Type 0 where
  pub counted : count_by (λ (e : TreeEntry). is_open e.kind) entries ≡ count_by (λ (e : TreeEntry). is_close e.kind) entries + handles
  pub root : listed ≡ is_listed entries
  pub found : (path : List ℕ) → shown_in rows path ≡ shown entries path
