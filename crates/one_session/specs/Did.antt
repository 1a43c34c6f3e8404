-- What one call does, told by the state before it.
use Rattle.std.specs.Prelude.{◌≡◌, ◌⊎◌, ℕ, ◌+◌, ◌++◌, Bool, true, Option, Some, None, List, [], ◌∷◌, length}
use Rattle.vfs_names.specs.declared.who.By.{By}
use Rattle.item_core.specs.Content.{Known}
use Rattle.session_script.specs.declared.call.Call.{Call}
use Rattle.session_text.specs.declared.reply.Record.{Record}
use Rattle.session_text.specs.declared.reply.Reply.TheVariants as reply
use Rattle.vfs_names.specs.declared.refusal.Refusal.TheVariants as why
use Rattle.one_session.specs.Calls.{Answers, TreeDoes, FileDoes, IsFull}
use Rattle.one_session.specs.Matching.{entries_of}
use Rattle.one_session.specs.Served.{in_tree_of, in_file_of, open_after, place_in}
use Rattle.one_session.specs.State.{State, entries_in, file_at}

-- a history stays and the call has no place in it, or it grows by the session's entries, the last of which is at the
-- call's place, and they are what the call does there
abbrev pub Grows : {E : Type 0} → (E → ℕ → Bool) → ℕ → (List E → List E → Type 0) → Option ℕ → List E → List E → Type 0
Grows {E} belongs session does place old new =
    ((new ≡ old) × (place ≡ None))
    ⊎ ((front : List E) × (last : E) × (new ≡ old ++ (front ++ last ∷ [])) × (place ≡ Some (length old + length front))
    × (belongs last session ≡ true) × (entries_of belongs session (front ++ last ∷ []) ≡ front ++ last ∷ []) × does old (front ++ last ∷ []))

-- The call was answered as the handles stood, its handle is now as it says, the tree and each file grew by what it does, by
-- the contents that hold what was handed out, and where it was refused since a history is full, too few places were free.
pub record Did (session : ℕ) (holds : Known → Type 0) (by : By) (call : Call) (done : Record) (s t : State) : Type 0 where
  pub answered : Answers (file_at s.table) call done
  pub handles : (handle : ℕ) → file_at t.table handle ≡ open_after call done handle (file_at s.table handle)
  pub full : done.reply ≡ reply.Refused why.HistoryFull → IsFull s.limit s.tree (entries_in s.files) (file_at s.table) call
  pub limit : t.limit ≡ s.limit
  pub in_tree : Grows in_tree_of session (TreeDoes by t.files call done) done.tree s.tree t.tree
  pub in_file : (item : ℕ) → Grows in_file_of session (FileDoes holds by call done) (place_in item done.file) (entries_in s.files item) (entries_in t.files item)
