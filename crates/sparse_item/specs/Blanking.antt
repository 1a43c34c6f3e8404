-- How zeros come into a slot's file, where no byte was written and the object behind the file gives none.
use Rattle.std.specs.Prelude.{◌≡◌, ◌⊎◌, ◌<◌, ℕ, length, slice_index}
use Rattle.byte_ranges.specs.declared.Span.{Span}
use Rattle.vfs_outside.specs.Slot.{Slot}
use Rattle.item_meta.specs.declared.meta.Meta.{Meta}
use Rattle.item_image.specs.Calls.{Stays}
use Rattle.item_image.specs.Next.{IsFetched}
use Rattle.base_object.specs.declared.block.Block.{Block}
use Rattle.sparse_item.specs.Fetching.{AreHere, Puts}
use Rattle.sparse_item.specs.Moves.{Saves}

-- each byte of the block is 0
pub record IsZeros (block : Block) : Type 0 where
  pub zero : (i : ℕ) → i < length block.bytes → slice_index block.bytes i ≡ 0

-- Zeros were put into the places of a gap that weren't here: each run of them by one write; and then it was saved once
-- that all of the gap is here.
pub record Blanks (tells : Type 0) (gap : Span) (meta : Meta) (old : Slot) (meta' : Meta) (new : Slot) : Type 0 where
  pub block : Block
  pub begins : block.pos ≡ gap.start
  pub zeros : IsZeros block
  pub there : Slot
  pub puts : Puts tells meta.ranges block gap.end old there
  pub fetched : IsFetched gap meta meta'
  pub saved : Saves tells meta' there new

-- all of the gap was here, and no call was made
pub record IsWhole (tells : Type 0) (gap : Span) (meta : Meta) (old : Slot) (meta' : Meta) (new : Slot) : Type 0 where
  pub here : AreHere meta.ranges gap.start gap.end
  pub same : meta' ≡ meta
  pub stays : Stays tells old new

-- all of the gap is here
abbrev pub Fills : Type 0 → Span → Meta → Slot → Meta → Slot → Type 0
Fills tells gap meta old meta' new = IsWhole tells gap meta old meta' new ⊎ Blanks tells gap meta old meta' new
