-- What the parts of a file's book say together.
use Rattle.std.specs.Prelude.{◌≡◌, ℕ, ◌+◌, Bool, true, nat_lt, Option, Some, None, List}
use Rattle.vfs_outside.specs.Slot.{Slot}
use Rattle.item_core.specs.declared.entry.Entry.{Entry}
use Rattle.item_core.specs.Content.{Known}
use Rattle.item_core.specs.Effects.{is_opened, is_start}
use Rattle.item_core.specs.History.{base_end_of, count_of, is_kept}
use Rattle.item_core.specs.Names.{atime_of}
use Rattle.item_meta.specs.declared.meta.Meta.{Meta}
use Rattle.item_image.specs.Book.{Book}
use Rattle.item_image.specs.Premise.{Holds, Pairs}
use Rattle.base_object.specs.Base.{Base, ObjectFacts, held_by as held_in}
use Rattle.sparse_item.specs.Item.{IsSupplied, Saved, backing}
use Rattle.sparse_item.specs.Views.{here_of}

-- contents that hold the objects that were given hold this object's bytes
abbrev pub IsGiven : Type 0 → Pairs → Option ObjectFacts → Type 0
IsGiven shows pairs None = Unit {0}
IsGiven shows pairs (Some object) =
    (known : Known) → Holds shows pairs known → shows × (known.content object.print ≡ object.bytes)

-- a handle was opened, or an upload begun
abbrev pub is_begun : List Entry → Bool
is_begun past = nat_lt 0 (count_of is_opened past + count_of is_start past)

-- The images of the slot stand for the history; the object behind the file is the one that it holds, and was given; from
-- the first handle or upload on, each byte of the object is there or can be asked for; and the time of the last use is
-- that of the history.
pub record IsSound (tells shows : Type 0) (past : List Entry) (names : List (List ℕ)) (saved : Saved) (pairs : Pairs) (meta : Option Meta) (slot : Slot) (base : Base) (atime : ℕ) : Type 0 where
  pub book : Book tells shows past names saved.mtime pairs meta slot
  pub held : held_in base.state ≡ backing past
  pub given : IsGiven shows pairs base.object
  pub supplied : is_begun past ≡ true → is_kept past ≡ true → IsSupplied base.state (here_of meta) (base_end_of past)
  pub used : atime ≡ atime_of saved.atime past
