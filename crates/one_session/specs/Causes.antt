-- Why a call is refused for what lies outside.
use Rattle.std.specs.Prelude.{◌≡◌, ◌⊎◌, ◌<◌, ◌≤◌, ◌^◌, ◌++◌, ℕ, Bool, true, false, Option, Some, None, List, [], ◌∷◌, length, take, reverse, IsSomeAnd}
use Rattle.std.specs.List.{AllByRecursion}
use Rattle.vfs_names.specs.Path.{same_text}
use Rattle.vfs_names.specs.declared.fingerprint.Fingerprint.{Fingerprint}
use Rattle.vfs_names.specs.declared.refusal.Refusal.TheVariants as why
use Rattle.vfs_outside.specs.Causes.{Rose}
use Rattle.vfs_outside.specs.Outside.{Outside}
use Rattle.vfs_outside.specs.declared.tree.TreeEntry.{TreeEntry}
use Rattle.vfs_outside.specs.declared.tree.TreeKind.{TreeKind}
use Rattle.vfs_outside.specs.declared.tree.TreeKind.TheVariants.{Gone}
use Rattle.item_core.specs.Content.{IsSavedWhole, Known}
use Rattle.item_image.specs.Premise.{Holds}
use Rattle.session_script.specs.declared.call.Call.{Call}
use Rattle.session_script.specs.declared.call.Call.TheVariants as call
use Rattle.session_text.specs.declared.reply.Record.{Record}
use Rattle.session_text.specs.declared.reply.Reply.TheVariants as reply
use Rattle.one_session.specs.State.{History, entries_in}
use Rattle.one_session.specs.Tree.{shown}

-- the newest entry says that the object at the path is gone
abbrev pub is_gone : TreeKind → List ℕ → Bool
is_gone (Gone name) path = same_text name path
is_gone _ path = false

abbrev pub ends_gone : List TreeEntry → List ℕ → Bool
ends_gone [] path = false
ends_gone (e ∷ older) path = is_gone e.kind path

-- before the entry at a place the root showed nothing at the path, and that not since its object was just found gone
pub record IsUnshown (tree : List TreeEntry) (path : List ℕ) (k : ℕ) : Type 0 where
  pub inside : k < length tree
  pub nothing : shown (take k tree) path ≡ None
  pub not_gone : ends_gone (reverse (take k tree)) path ≡ false

-- an object that is longer than a file may be was handed out
pub record HandsBig (handed : List (Fingerprint × List ℕ)) : Type 0 where
  pub front : List (Fingerprint × List ℕ)
  pub print : Fingerprint
  pub bytes : List ℕ
  pub back : List (Fingerprint × List ℕ)
  pub is : handed ≡ front ++ (print, bytes) ∷ back
  pub big : 2 ^ 40 < print.size

-- an open that is refused for the remote has its cause there, or in what the root shows
pub record HasOpenCause (path : List ℕ) (done : Record) (tree : List TreeEntry) (old new : Outside) : Type 0 where
  pub fault : done.reply ≡ reply.Refused why.RemoteFault → Rose old.faults new.faults
  pub missing : done.reply ≡ reply.Refused why.NotFound → Rose old.changes new.changes ⊎ IsSomeAnd done.tree (IsUnshown tree path)
  pub big : done.reply ≡ reply.Refused why.TooBig → HandsBig new.handed

abbrev pub CauseOf : Call → Record → List TreeEntry → Outside → Outside → Type 0
CauseOf (call.Open h path how) done tree old new = HasOpenCause path done tree old new
CauseOf _ done tree old new = Unit {0}

-- The remote's counts never fall, what it handed out stays so, and a call that is refused for it has its cause.
pub record HasRemoteCause (call : Call) (done : Record) (tree : List TreeEntry) (old new : Outside) : Type 0 where
  pub faults : old.faults ≤ new.faults
  pub changes : old.changes ≤ new.changes
  pub more : List (Fingerprint × List ℕ)
  pub handed : new.handed ≡ more ++ old.handed
  pub cause : CauseOf call done tree old new

-- each upload of a file saved the content that the file had then, by the contents that hold what the store handed out
abbrev pub AreSaved : Type 0 → Type 0 → List (Fingerprint × List ℕ) → List History → Type 0
AreSaved kept tells handed files = kept → (known : Known) → Holds tells handed known → (item : ℕ) → IsSavedWhole known (reverse (entries_in files item))

-- a map of contents that holds what the store handed out holds what each file was given
abbrev pub AreGiven : Type 0 → List (Fingerprint × List ℕ) → List (List (Fingerprint × List ℕ)) → Type 0
AreGiven tells handed pairs = (known : Known) → Holds tells handed known → AllByRecursion (λ given. Holds tells given known) pairs
