-- What a caller sees of a queue, and what its calls enter.
use Rattle.std.specs.Prelude.{ℕ, ◌≤◌, Bool, if◌then◌else◌, List, [], ◌∷◌, Option, Some, None, reverse}
use Rattle.vfs_names.specs.declared.who.ItemId.{ItemId}
use Rattle.vfs_names.specs.declared.who.By.{By}
use Rattle.writeback_queue.specs.declared.entry.QueueKind.{QueueKind}
use Rattle.writeback_queue.specs.declared.entry.QueueKind.TheVariants.{Remove, Take}
use Rattle.writeback_queue.specs.declared.entry.QueueEntry.{QueueEntry}
use Rattle.writeback_queue.specs.declared.entry.QueueTerms.{QueueTerms}
use Rattle.writeback_queue.specs.History.{is_uploading, uploads}
use Rattle.writeback_queue.specs.Legal.{IsNothingDue}

-- its terms; its history, the oldest entry first; and the reserved places of the history that are kept for no member
pub record Queue : Type 0 where
  pub terms : QueueTerms
  pub entries : List QueueEntry
  pub spare : ℕ

-- its history, the newest entry first
abbrev pub past_of : Queue → List QueueEntry
past_of queue = reverse queue.entries

-- no waiting member is due
abbrev pub IsIdle : Queue → ℕ → Type 0
IsIdle queue now = IsNothingDue queue.terms.write_back (past_of queue) now

-- as many members are being uploaded as may be
abbrev pub IsBusy : Queue → Type 0
IsBusy queue = queue.terms.transfers ≤ uploads (past_of queue)

-- one entry
abbrev pub entry : By → QueueKind → List QueueEntry
entry by kind = record { by = by; kind = kind } ∷ []

-- what a take enters
abbrev pub taken_by : By → Option ItemId → List QueueEntry
taken_by by None = []
taken_by by (Some item) = entry by (Take item)

-- what a removal enters
abbrev pub removed_by : By → ItemId → Bool → List QueueEntry
removed_by by item was = if was then entry by (Remove item) else []

-- the place that a removal makes spare: an uploading member kept two, and the entry takes one
abbrev pub freed : List QueueEntry → ItemId → ℕ
freed past item = if is_uploading past item then 1 else 0
