-- Bytes that a fetch has put into the data, and that no metadata tell yet.
use Rattle.std.specs.Prelude.{◌≡◌, ◌≤◌, ◌<◌, ℕ, false, Some, List}
use Rattle.byte_ranges.specs.Ranges.{has}
use Rattle.byte_ranges.specs.declared.Span.{Span}
use Rattle.vfs_outside.specs.Image.{data_in}
use Rattle.vfs_outside.specs.Slot.{Slot, image}
use Rattle.item_core.specs.declared.entry.Entry.{Entry}
use Rattle.item_core.specs.Content.{Known, byte_at}
use Rattle.item_image.specs.Premise.{Fits, IsOfImage, Pairs}

-- each byte of the span that isn't in the ranges is in the data, and is the file's
pub record HasStored (tells shows : Type 0) (past : List Entry) (pairs : Pairs) (ranges : List Span) (span : Span) (slot : Slot) : Type 0 where
  pub stored : tells → (known : Known) → Fits shows known past pairs → IsOfImage known slot.told.first
      → (p : ℕ) → span.start ≤ p → p < span.end → has ranges p ≡ false → data_in (image slot.told) p ≡ Some (byte_at known past p)
