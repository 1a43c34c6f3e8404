-- How a block that was pulled comes into a file's book.
use Rattle.std.proofs.Common.{◌≡◌, ◌≤◌, ◌<◌, ℕ, ◌+◌, ◌-◌, true, Some, None, List, length, take, drop, refl, sym, ap, ◌∙◌, arith, length-take, length-drop}
use Rattle.std.specs.Prelude.{slice_index}
use Rattle.std.proofs.lemmas.List.{get_or-take, get_or-drop}
use Rattle.std.proofs.lemmas.Bool.Decides.{nat_tests}
use Rattle.byte_ranges.specs.Ranges.{has}
use Rattle.byte_ranges.specs.declared.Span.{Span}
use Rattle.vfs_outside.specs.Image.{is_within}
use Rattle.vfs_outside.specs.Object.{IsPart}
use Rattle.vfs_outside.specs.Slot.{Slot}
use Rattle.item_core.specs.declared.entry.Entry.{Entry}
use Rattle.item_core.specs.Content.{Known, base_byte}
use Rattle.item_core.specs.History.{base_end_of, held_by}
use Rattle.item_meta.specs.declared.meta.Meta.{Meta}
use Rattle.item_image.specs.Book.{Book}
use Rattle.item_image.specs.Premise.{Fits, IsBase, Pairs}
use Rattle.item_image.specs.Stored.{HasStored}
use Rattle.item_image.proofs.Calls.{whole_tears}
use Rattle.item_image.proofs.Quiet.{no_call, quiet_call}
use Rattle.item_image.proofs.Stored.{fetched, stored_beside, stored_more, stored_none, stored_present}
use Rattle.base_object.specs.declared.block.Block.{Block}
use Rattle.sparse_item.specs.Fetching.{Beside, Puts, Stores, after, begins, idles, passes, stays, tears, writes}

-- ---- bytes of a part

pub part_index : (xs part : List ℕ) (from i : ℕ) → IsPart xs from part → i < length part → (from + i < length xs) × (slice_index part i ≡ slice_index xs (from + i))
part_index xs part from i is lt =
    let m : ℕ = from + length part - from in
    let n : length part ≡ length (take m (drop from xs)) = ap length is in
    let room : from + i < length xs = omega (arith, n, lt, length-take {A = ℕ}, length-drop {A = ℕ}) in
    (room, ap (λ ys. slice_index ys i) is ∙ get_or-take m (drop from xs) i 0 (omega (arith, lt)) ∙ get_or-drop from xs i 0)

-- each byte of the block below an end is the held object's
pub record IsOfBase (shows : Type 0) (past : List Entry) (pairs : Pairs) (end : ℕ) (block : Block) : Type 0 where
  pub each : (known : Known) → Fits shows known past pairs → (i : ℕ) → i < length block.bytes → block.pos + i < end
      → slice_index block.bytes i ≡ base_byte known (base_end_of past) (held_by past) (block.pos + i)

part_base : {shows : Type 0} {past : List Entry} {pairs : Pairs} {end : ℕ} {block : Block} (a : ℕ) (bytes : List ℕ) → IsOfBase shows past pairs end block
    → IsPart block.bytes (a - block.pos) bytes → block.pos ≤ a → a + length bytes ≤ end → IsBase shows past pairs a bytes
part_base {past = past} {block = block} a bytes of is low most = record {
  each = λ known f i lt.
      let at = part_index block.bytes bytes (a - block.pos) i is lt in
      let same : block.pos + (a - block.pos + i) ≡ a + i = omega (arith, low) in
      at.1 ∙ of.each known f (a - block.pos + i) at.0 (omega (arith, low, lt, most)) ∙ ap (base_byte known (base_end_of past) (held_by past)) same;
}

-- ---- what a store leaves

pub beside_book : {tells shows : Type 0} {past : List Entry} {names : List (List ℕ)} {saved : ℕ} {pairs : Pairs} {m : Meta} {here : List Span} {s t : Slot}
    → Beside tells here s t → here ≡ m.ranges → Book tells shows past names saved pairs (Some m) s → Book tells shows past names saved pairs (Some m) t
beside_book (stays h) e b = no_call b h
beside_book (idles h) e b = quiet_call b h
beside_book (tears {pos} {bytes} absent h) e b = stored_beside b h (λ p w.
    ap (λ r. has r p) (sym e) ∙ absent p (from pos (length bytes) p w) (to pos (length bytes) p w)) where
      from : (pos n p : ℕ) → is_within pos n p ≡ true → pos ≤ p
      from pos n p w = grind (arith, nat_tests)

      to : (pos n p : ℕ) → is_within pos n p ≡ true → p < pos + n
      to pos n p w = grind (arith, nat_tests)
beside_book (after x y) e b = beside_book y e (beside_book x e b)

puts_low : {tells : Type 0} {here : List Span} {block : Block} {at : ℕ} {s t : Slot} → Puts tells here block at s t → block.pos ≤ at
puts_low begins = omega arith
puts_low (passes p le h) = omega (arith, puts_low p, le)
puts_low (writes p absent part goes) = omega (arith, puts_low p)

pub puts_stored : {tells shows : Type 0} {past : List Entry} {names : List (List ℕ)} {saved : ℕ} {pairs : Pairs} {m : Meta} {block : Block} {at : ℕ} {s t : Slot} (end : ℕ)
    → Puts tells m.ranges block at s t → at ≤ end → Book tells shows past names saved pairs (Some m) s → IsOfBase shows past pairs end block
    → Book tells shows past names saved pairs (Some m) t × HasStored tells shows past pairs m.ranges (record { start = block.pos; end = at }) t
puts_stored end begins le b of = (b, stored_none (omega arith))
puts_stored {block = block} {at = at} end (passes {a} p up h) le b of =
    let r = puts_stored end p (omega (arith, up, le)) b of in
    (r.0, stored_present block.pos a at r.1 h)
puts_stored {m = m} {block = block} end (writes {a} {bytes} p absent part goes) le b of =
    let r = puts_stored end p (omega (arith, le)) b of in
    (beside_book (tears absent (whole_tears goes)) refl r.0, stored_more block.pos r.1 r.0 goes (part_base a bytes of part (puts_low p) le))

pub stored_book : {tells shows : Type 0} {past : List Entry} {names : List (List ℕ)} {saved : ℕ} {pairs : Pairs} {m m' : Meta} {block : Block} {s t : Slot}
    → Stores tells block m s m' t → m.intent ≡ None → Book tells shows past names saved pairs (Some m) s → IsOfBase shows past pairs m.base_end block
    → Book tells shows past names saved pairs (Some m') t
stored_book {m = m} {block = block} st none b of =
    let r = puts_stored m.base_end st.puts (omega arith) b of in
    fetched r.0 none r.1 st.saved.goes st.saved.means st.fetched
