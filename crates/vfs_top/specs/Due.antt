-- The files that a tick found due.
use Rattle.std.specs.Prelude.{◌≡◌, ◌⊎◌, ◌≤◌, ℕ, true, List, [], ◌∷◌}
use Rattle.writeback_queue.specs.History.{due_moment, is_waiting}
use Rattle.writeback_queue.specs.declared.entry.QueueEntry.{QueueEntry}
use Rattle.one_session.specs.Queued.{id_of}
use Rattle.one_session.specs.Steps.{Upload}

-- by a queue's history, the newest entry first, a file waits for its upload, and is due at this moment
pub record IsDue (write_back : ℕ) (past : List QueueEntry) (item now : ℕ) : Type 0 where
  pub waits : is_waiting past (id_of item) ≡ true
  pub due : due_moment write_back past (id_of item) ≤ now

-- one of these uploads is that of the file
abbrev pub HasUpload : ℕ → List Upload → Type 0
HasUpload item [] = ⊥
HasUpload item (u ∷ older) = (u.item ≡ item) ⊎ HasUpload item older
