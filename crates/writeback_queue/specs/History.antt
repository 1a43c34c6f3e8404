-- What a queue's history says of an item. The newest entry stands first, and each fact is found by going back from it.
use Rattle.std.specs.Prelude.{ℕ, ◌+◌, ◌-◌, ◌*◌, ◌^◌, ◌==◌, ◌||◌, ◌&&◌, Bool, false, not, min, max, if◌then◌else◌, Option, Some, None, List, [], ◌∷◌, ◌++◌, filter, count_by}
use Rattle.vfs_names.specs.declared.who.ItemId.{ItemId}
use Rattle.writeback_queue.specs.declared.entry.QueueKind.{QueueKind}
use Rattle.writeback_queue.specs.declared.entry.QueueKind.TheVariants.{Add, Remove, SetDue, Take, Fail}
use Rattle.writeback_queue.specs.declared.entry.QueueEntry.{QueueEntry}

abbrev pub same : ItemId → ItemId → Bool
same a b = a.0 == b.0

-- the item's last Add has no later Remove
abbrev pub member_after : QueueKind → ItemId → Bool → Bool
member_after (Add added due) item old = same added item || old
member_after (Remove gone) item old = not (same gone item) && old
member_after _ item old = old

abbrev pub is_member : List QueueEntry → ItemId → Bool
is_member [] item = false
is_member (e ∷ older) item = member_after e.kind item (is_member older item)

-- a Take of the item stands after its last Add, with no later Fail
abbrev pub taken_after : QueueKind → ItemId → Bool → Bool
taken_after (Add added due) item old = not (same added item) && old
taken_after (Take taken) item old = same taken item || old
taken_after (Fail failed) item old = not (same failed item) && old
taken_after _ item old = old

abbrev pub is_taken : List QueueEntry → ItemId → Bool
is_taken [] item = false
is_taken (e ∷ older) item = taken_after e.kind item (is_taken older item)

abbrev pub is_uploading : List QueueEntry → ItemId → Bool
is_uploading past item = is_member past item && is_taken past item

abbrev pub is_waiting : List QueueEntry → ItemId → Bool
is_waiting past item = is_member past item && not (is_taken past item)

abbrev pub is_add_of : ItemId → QueueKind → Bool
is_add_of item (Add added due) = same added item
is_add_of item _ = false

abbrev pub is_fail_of : ItemId → QueueKind → Bool
is_fail_of item (Fail failed) = same failed item
is_fail_of item _ = false

-- what came after the item's last Add
abbrev pub since_add : List QueueEntry → ItemId → List QueueEntry
since_add [] item = []
since_add (e ∷ older) item = if is_add_of item e.kind then [] else (e ∷ since_add older item)

-- how often the item failed since it was added
abbrev pub fails_of : List QueueEntry → ItemId → ℕ
fails_of past item = count_by (λ e. is_fail_of item e.kind) (since_add past item)

-- how long an item waits after its k-th failure since it was added, in milliseconds
abbrev pub delay : ℕ → ℕ → ℕ
delay write_back k = min 60000 (max write_back 1000 * 2 ^ (k - 1))

-- the moment that the item's last Add, SetDue or Fail set; `again` is the one that a Fail sets
abbrev pub due_after : QueueKind → ItemId → ℕ → ℕ → ℕ
due_after (Add added due) item again old = if same added item then due else old
due_after (SetDue moved due) item again old = if same moved item then due else old
due_after (Fail failed) item again old = if same failed item then again else old
due_after _ item again old = old

abbrev pub due_moment : ℕ → List QueueEntry → ItemId → ℕ
due_moment write_back [] item = 0
due_moment write_back (e ∷ older) item =
    due_after e.kind item (e.by.now + delay write_back (fails_of (e ∷ older) item)) (due_moment write_back older item)

-- when a member is due
abbrev pub due_of : ℕ → List QueueEntry → ItemId → Option ℕ
due_of write_back past item = if is_member past item then Some (due_moment write_back past item) else None

-- how often a member failed
abbrev pub failures_of : List QueueEntry → ItemId → Option ℕ
failures_of past item = if is_member past item then Some (fails_of past item) else None

-- the members, in the order in which they were added
abbrev pub members_after : QueueKind → List ItemId → List ItemId
members_after (Add added due) old = old ++ added ∷ []
members_after (Remove gone) old = filter (λ item. not (same gone item)) old
members_after _ old = old

abbrev pub members : List QueueEntry → List ItemId
members [] = []
members (e ∷ older) = members_after e.kind (members older)

-- how many members are uploading
abbrev pub uploads : List QueueEntry → ℕ
uploads past = count_by (λ item. is_uploading past item) (members past)
