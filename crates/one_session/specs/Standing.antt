-- What is kept for a session beside the records of its calls.
use Rattle.std.specs.Prelude.{◌≡◌, ◌<◌, ℕ, ◌++◌, false, List, [], length, reverse}
use Rattle.vfs_names.specs.declared.who.By.{By}
use Rattle.vfs_outside.specs.Outside.{Outside}
use Rattle.item_core.specs.Content.{Known}
use Rattle.session_script.specs.declared.call.Call.{Call}
use Rattle.session_text.specs.declared.reply.Record.{Record}
use Rattle.one_session.specs.declared.outcome.Outcome.{Outcome}
use Rattle.one_session.specs.declared.store.Store.{Store}
use Rattle.downloaders.specs.declared.Plan.{Plan}
use Rattle.one_session.specs.Causes.{HasRemoteCause, ends_gone}
use Rattle.one_session.specs.Did.{Did}
use Rattle.one_session.specs.Queued.{queue_step}
use Rattle.one_session.specs.Slots.{IsSoundItem}
use Rattle.one_session.specs.Sound.{IsSound}
use Rattle.one_session.specs.State.{State, Step, item_in}
use Rattle.one_session.specs.Steps.{IsPlaced, Touches}
use Rattle.one_session.specs.Views.{histories}

-- the state with these records, and room for more of them
abbrev pub state_of : {O S F : Type 0} → Store O S F → List Record → List Step → ℕ → State
state_of s records steps room = record {
  tree = s.tree.entries;
  files = histories s.files.items;
  items = s.files.items;
  queue = s.files.queue.entries;
  terms = s.files.queue.terms;
  limit = s.files.limit;
  table = s.table.items;
  records = records;
  steps = steps;
  room = room;
}

-- its parts fit together and have one limit, each file is sound, and the tree says of no object that it is gone without
-- what came of it
pub record IsSoundStore {O S F : Type 0} (tells : Type 0) (s : Store O S F) : Type 0 where
  pub sound : IsSound s.tree.entries s.paths.paths (histories s.files.items) s.table.items
  pub limit : s.tree.limit ≡ s.files.limit
  pub items : (n : ℕ) → n < length s.files.items → IsSoundItem tells s.files.limit n (item_in s.files.items n)
  pub settled : (path : List ℕ) → ends_gone (reverse s.tree.entries) path ≡ false

-- what a call did to the files
abbrev pub step_between : {O S F : Type 0} → Store O S F → Store O S F → Step
step_between old new = record { before = old.files.items; after = new.files.items }

-- what is recorded of a call of this line
abbrev pub recorded : ℕ → Outcome → Record
recorded line outcome = record { line = line; reply = outcome.reply; tree = outcome.tree; file = outcome.file }

-- a call by this maker was answered so, and did what it then does
abbrev pub Answered : {O S F : Type 0} → (Known → Type 0) → By → Call → Outcome → Store O S F → Store O S F → Type 0
Answered holds by call outcome old new = (line : ℕ) → Did 1 holds by call (recorded line outcome) (state_of old [] [] 0) (state_of new [] [] 0)

-- a refusal for the remote has its cause
abbrev pub IsCaused : {O S F : Type 0} → Call → Outcome → Store O S F → Outside → Outside → Type 0
IsCaused call outcome s old new = (line : ℕ) → HasRemoteCause call (recorded line outcome) s.tree.entries old new

-- what the call entered in the queue
abbrev pub Queued : {O S F : Type 0} → By → Call → Outcome → Store O S F → Store O S F → Type 0
Queued by call outcome old new = (line : ℕ) → new.files.queue.entries
    ≡ old.files.queue.entries ++ queue_step old.files.queue.terms.write_back by call (recorded line outcome) (step_between old new)

-- and what the call did to the files
abbrev pub Stepped : {O S F : Type 0} → Plan → ℕ → ℕ → Call → Outcome → Store O S F → Store O S F → Type 0
Stepped plan disk disk' call outcome old new = (line : ℕ)
    → IsPlaced call (recorded line outcome) (step_between old new) × Touches plan disk disk' call (recorded line outcome) (step_between old new)
