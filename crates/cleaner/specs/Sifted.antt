-- What one pass over the rows makes of them.
use Rattle.std.specs.Prelude.{◌≡◌, ℕ, List, map, filter}
use Rattle.vfs_names.specs.declared.who.ItemId.{ItemId}
use Rattle.cleaner.specs.declared.choice.CleanRow.{CleanRow}
use Rattle.cleaner.specs.declared.turn.Turn.{Turn}
use Rattle.cleaner.specs.Choice.{may_go, goes_by_age, stay, bytes_of, turn_of}

-- those whose age is over, the others that may go, and the bytes of all that stay
pub record IsSifted (pins : List (List ℕ)) (now age : ℕ) (rows : List CleanRow) (chosen : List ItemId) (turns : List Turn) (bytes : ℕ) : Type 0 where
  pub is_chosen : chosen ≡ map (λ row. row.item) (filter (λ row. goes_by_age pins now age row) rows)
  pub are_turns : turns ≡ map turn_of (filter (λ row. may_go pins row) (stay pins now age rows))
  pub sum : bytes ≡ bytes_of (stay pins now age rows)
