-- Which entries may follow a history, the newest entry first.
use Rattle.std.specs.Prelude.{◌≡◌, ℕ, ◌+◌, ◌<◌, ◌≤◌, ◌⊎◌, true, false, List, [], ◌∷◌}
use Rattle.vfs_names.specs.declared.who.ItemId.{ItemId}
use Rattle.vfs_names.specs.declared.who.By.{By}
use Rattle.writeback_queue.specs.declared.entry.QueueKind.{QueueKind}
use Rattle.writeback_queue.specs.declared.entry.QueueKind.TheVariants.{Add, Remove, SetDue, Take, Fail}
use Rattle.writeback_queue.specs.declared.entry.QueueEntry.{QueueEntry}
use Rattle.writeback_queue.specs.declared.entry.QueueTerms.{QueueTerms}
use Rattle.writeback_queue.specs.History.{is_member, is_waiting, is_uploading, due_moment, uploads}

-- an item that is due at a moment doesn't come after another: the earlier due moment, then the lesser item, is first
abbrev pub IsNotAfter : ℕ → ItemId → ℕ → ItemId → Type 0
IsNotAfter due item due' item' = (due < due') ⊎ ((due ≡ due') × (item.0 ≤ item'.0))

-- the waiting member of least due moment and, among equals, of least item, of those that are due
pub record IsNext (write_back : ℕ) (past : List QueueEntry) (now : ℕ) (item : ItemId) : Type 0 where
  pub waits : is_waiting past item ≡ true
  pub due : due_moment write_back past item ≤ now
  pub least : (other : ItemId) → is_waiting past other ≡ true → due_moment write_back past other ≤ now
      → IsNotAfter (due_moment write_back past item) item (due_moment write_back past other) other

-- no waiting member is due
abbrev pub IsNothingDue : ℕ → List QueueEntry → ℕ → Type 0
IsNothingDue write_back past now = (item : ItemId) → is_waiting past item ≡ true → now < due_moment write_back past item

-- what is entered is allowed: an Add and a Remove are made by the pass of the item's book, whose number is one more
abbrev pub IsAllowed : QueueTerms → List QueueEntry → By → QueueKind → Type 0
IsAllowed terms past by (Add item due) = (is_member past item ≡ false) × (by.pass ≡ item.0 + 1)
IsAllowed terms past by (Remove item) = (is_member past item ≡ true) × (by.pass ≡ item.0 + 1)
IsAllowed terms past by (SetDue item due) = is_waiting past item ≡ true
IsAllowed terms past by (Take item) = IsNext terms.write_back past by.now item × (uploads past < terms.transfers)
IsAllowed terms past by (Fail item) = is_uploading past item ≡ true

-- each entry was allowed after those before it
abbrev pub IsLegal : QueueTerms → List QueueEntry → Type 0
IsLegal terms [] = Unit {0}
IsLegal terms (e ∷ older) = IsAllowed terms older e.by e.kind × IsLegal terms older
