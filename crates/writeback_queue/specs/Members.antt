-- The list of members that is kept beside the history, and what ties the two.
use Rattle.std.specs.Prelude.{◌≡◌, ℕ, ◌+◌, ◌≤◌, ◌<◌, ◌^◌, ◌⊎◌, ◌&&◌, Bool, true, not, nat_le, List, length, map, All, slice_index_or}
use Rattle.vfs_names.specs.declared.who.ItemId.{ItemId}
use Rattle.writeback_queue.specs.declared.entry.QueueEntry.{QueueEntry}
use Rattle.writeback_queue.specs.declared.entry.QueueTerms.{QueueTerms}
use Rattle.writeback_queue.specs.declared.member.Member.{Member}
use Rattle.writeback_queue.specs.History.{is_taken, due_moment, fails_of, members, uploads}
use Rattle.writeback_queue.specs.Legal.{IsLegal, IsNotAfter}

-- what is kept of a member
abbrev pub row : ℕ → List QueueEntry → ItemId → Member
row write_back past item = record {
  item = item;
  due = due_moment write_back past item;
  fails = fails_of past item;
  uploading = is_taken past item;
}

abbrev pub rows_of : ℕ → List QueueEntry → List Member
rows_of write_back past = map (λ item. row write_back past item) (members past)

-- the kept list and count are what the legal history says
pub record Tells (terms : QueueTerms) (past : List QueueEntry) (kept : List Member) (uploading : ℕ) : Type 0 where
  pub legal : IsLegal terms past
  pub rows : kept ≡ rows_of terms.write_back past
  pub count : uploading ≡ uploads past

-- The history's places: one for each entry, one for each waiting member, two for each uploading one, and the spare ones.
-- Each spare one has room for a member too.
pub record HasRoom (entries members uploading spare entry_room member_room : ℕ) : Type 0 where
  pub in_history : entries + (members + uploading) + spare ≤ entry_room
  pub in_members : members + spare ≤ member_room
  pub small : entries + (members + uploading) + spare < 2 ^ 32

-- a member waits, and its moment has come
abbrev pub is_due : ℕ → Member → Bool
is_due now m = not m.uploading && nat_le m.due now

-- the earlier due moment is first; ties go by item
abbrev pub IsBefore : Member → Member → Type 0
IsBefore m n = (m.due < n.due) ⊎ ((m.due ≡ n.due) × (m.item.0 < n.item.0))

-- what stands there is due, and no other that is due is before it
pub record IsFirst (now : ℕ) (kept : List Member) (m : Member) : Type 0 where
  pub due : is_due now m ≡ true
  pub least : All (λ other. is_due now other ≡ true → IsNotAfter m.due m.item other.due other.item) kept

abbrev pub IsFirstDue : ℕ → List Member → ℕ → Type 0
IsFirstDue now kept at = (at < length kept) × ((d : Member) → IsFirst now kept (slice_index_or kept at d))
