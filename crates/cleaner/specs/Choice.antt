-- Which files the cleaner evicts.
use Rattle.std.specs.Prelude.{ℕ, ◌+◌, ◌-◌, ◌==◌, ◌&&◌, ◌||◌, Bool, not, nat_lt, nat_le, if◌then◌else◌, Option, Some, None, List, [], ◌∷◌, ◌++◌, map, filter, sum_by}
use Rattle.vfs_names.specs.declared.who.ItemId.{ItemId}
use Rattle.cleaner.specs.declared.choice.CleanRow.{CleanRow}
use Rattle.cleaner.specs.declared.turn.Turn.{Turn}
use Rattle.cleaner.specs.Pins.{is_pinned}

-- a file may go where it isn't dirty, open or pinned
abbrev pub may_go : List (List ℕ) → CleanRow → Bool
may_go pins row = not row.dirty && (not row.is_open && not (is_pinned pins row.path))

-- it was used last at least so long ago
abbrev pub is_over : ℕ → ℕ → CleanRow → Bool
is_over now age row = nat_le (row.atime + age) now

abbrev pub goes_by_age : List (List ℕ) → ℕ → ℕ → CleanRow → Bool
goes_by_age pins now age row = may_go pins row && is_over now age row

-- the rows that stay once those whose age is over have gone
abbrev pub stay : List (List ℕ) → ℕ → ℕ → List CleanRow → List CleanRow
stay pins now age rows = filter (λ row. not (goes_by_age pins now age row)) rows

abbrev pub bytes_of : List CleanRow → ℕ
bytes_of rows = sum_by (λ row. row.kept) rows

-- what decides when a row goes, and what it frees
abbrev pub turn_of : CleanRow → Turn
turn_of row = record { atime = row.atime; item = row.item; kept = row.kept }

-- the earlier access time is first, ties go by item; bytes would decide only if a file had two rows
abbrev pub is_before : Turn → Turn → Bool
is_before a b =
    nat_lt a.atime b.atime
    || (a.atime == b.atime && (nat_lt a.item.0 b.item.0 || (a.item.0 == b.item.0 && nat_lt a.kept b.kept)))

-- with one more in its place
abbrev pub put : Turn → List Turn → List Turn
put turn [] = turn ∷ []
put turn (next ∷ turns) = if is_before next turn then (next ∷ put turn turns) else (turn ∷ next ∷ turns)

-- in the order in which they go
abbrev pub in_order : List Turn → List Turn
in_order [] = []
in_order (turn ∷ turns) = put turn (in_order turns)

-- while the bytes that stay are above the quota, the next one goes
abbrev pub until_fits : ℕ → ℕ → List Turn → List ItemId
until_fits quota bytes [] = []
until_fits quota bytes (turn ∷ turns) = if nat_le bytes quota then [] else (turn.item ∷ until_fits quota (bytes - turn.kept) turns)

-- those of the rows that stay which go for want of room
abbrev pub for_room : List (List ℕ) → Option ℕ → List CleanRow → List ItemId
for_room pins None rows = []
for_room pins (Some quota) rows = until_fits quota (bytes_of rows) (in_order (map turn_of (filter (λ row. may_go pins row) rows)))

-- first those whose age is over, then those that go for want of room
abbrev pub choice : List (List ℕ) → ℕ → ℕ → Option ℕ → List CleanRow → List ItemId
choice pins now age quota rows =
    map (λ row. row.item) (filter (λ row. goes_by_age pins now age row) rows) ++ for_room pins quota (stay pins now age rows)
