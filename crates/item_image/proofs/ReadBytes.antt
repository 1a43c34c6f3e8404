-- What a book says of the bytes that a read gets.
use Rattle.std.proofs.Common.{◌≡◌, ◌<◌, ℕ, ◌+◌, true, false, Some, None, List, length}
use Rattle.std.specs.Prelude.{slice_index}
use Rattle.byte_ranges.specs.Ranges.{has}
use Rattle.vfs_outside.specs.Slot.{Reads, Slot, image}
use Rattle.item_core.specs.declared.entry.Entry.{Entry}
use Rattle.item_core.specs.Content.{Known, base_byte, byte_at}
use Rattle.item_core.specs.History.{base_end_of, held_by}
use Rattle.item_meta.specs.declared.meta.Meta.{Meta}
use Rattle.item_image.specs.Premise.{Fits, IsOfImage, Pairs}
use Rattle.item_image.specs.Book.{Book}
use Rattle.item_image.proofs.Tells.{keeps_absent, keeps_data}

-- a byte that is there, read with no intent pending, is the file's
pub read_bytes : {tells shows : Type 0} {past : List Entry} {names : List (List ℕ)} {saved : ℕ} {pairs : Pairs} {m : Meta} {slot : Slot} (pos : ℕ) (bytes : List ℕ)
    → Book tells shows past names saved pairs (Some m) slot → m.intent ≡ None → tells → (known : Known) → Fits shows known past pairs → IsOfImage known slot.told.first
    → Reads (image slot.told) pos bytes → (n : ℕ) → n < length bytes → has m.ranges (pos + n) ≡ true → slice_index bytes n ≡ byte_at known past (pos + n)
read_bytes {past = past} pos bytes b none t known f i reads n lt there = reads n (byte_at known past (pos + n)) lt (keeps_data (b.holds t known f i) none (pos + n) there)

-- a byte that isn't there is the held object's below the base end, and 0 from there on
pub absent_byte : {tells shows : Type 0} {past : List Entry} {names : List (List ℕ)} {saved : ℕ} {pairs : Pairs} {m : Meta} {slot : Slot}
    → Book tells shows past names saved pairs (Some m) slot → tells → (known : Known) → Fits shows known past pairs → IsOfImage known slot.told.first
    → (p : ℕ) → has m.ranges p ≡ false → byte_at known past p ≡ base_byte known (base_end_of past) (held_by past) p
absent_byte b t known f i p out = let k = b.holds t known f i in k.saved.tells.absent p (keeps_absent k p out)
