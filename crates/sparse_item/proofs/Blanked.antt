-- How zeros in a gap keep what a file's book says.
use Rattle.std.proofs.Common.{◌≡◌, ◌≤◌, ◌<◌, ℕ, ◌+◌, ◌-◌, ◌||◌, min, max, Bool, true, false, Some, None, List, refl, sym, ap, ◌∙◌, inl, inr, arith}
use Rattle.std.proofs.lemmas.Bool.{cases_Bool, cases_lt, true≢false}
use Rattle.std.proofs.lemmas.Bool.Decides.{nat_tests}
use Rattle.byte_ranges.specs.Ranges.{Covers, has, is_in}
use Rattle.byte_ranges.specs.declared.Span.{Span}
use Rattle.vfs_outside.specs.Slot.{Slot}
use Rattle.item_core.specs.declared.entry.Entry.{Entry}
use Rattle.item_core.specs.History.{base_end_of, held_by, size_of}
use Rattle.item_meta.specs.declared.meta.Meta.{Meta}
use Rattle.item_image.specs.Premise.{Pairs}
use Rattle.item_image.specs.Stored.{HasStored}
use Rattle.item_image.proofs.Change.{base_past}
use Rattle.item_image.proofs.Stored.{fetched}
use Rattle.downloaders.specs.Rules.{AllHere}
use Rattle.base_object.specs.declared.block.Block.{Block}
use Rattle.base_object.specs.Base.{Base}
use Rattle.base_object.proofs.WholeRead.{later_same}
use Rattle.sparse_item.specs.Answers.{Adds}
use Rattle.sparse_item.specs.Blanking.{Blanks, Fills, IsZeros}
use Rattle.sparse_item.specs.Fetching.{AreHere}
use Rattle.sparse_item.specs.Item.{Saved}
use Rattle.sparse_item.specs.Moves.{stays}
use Rattle.sparse_item.specs.Sound.{IsSound}
use Rattle.sparse_item.proofs.Bringing.{IsOfBase, puts_stored}
use Rattle.sparse_item.proofs.Pulled.{brought_sound}
use Rattle.sparse_item.specs.Uploading.{past_object}
use Rattle.sparse_item.proofs.Steps.{moved_sound, with_meta}

or_first : (a b : Bool) → a ≡ true → (a || b) ≡ true
or_first true b h = refl
or_first false b h = absurd (true≢false (sym h))

or_second : (a b : Bool) → b ≡ true → (a || b) ≡ true
or_second true b h = refl
or_second false b h = h

pub or_none : (a b : Bool) → b ≡ false → a ≡ (a || b)
or_none true b h = refl
or_none false b h = sym h

pub inside : (from to p : ℕ) → from ≤ p → p < to → is_in (record { start = from; end = to }) p ≡ true
inside from to p a b = grind (arith, nat_tests)

from_span : (from to p : ℕ) → is_in (record { start = from; end = to }) p ≡ true → from ≤ p
from_span from to p h = grind (arith, nat_tests)

to_span : (from to p : ℕ) → is_in (record { start = from; end = to }) p ≡ true → p < to
to_span from to p h = grind (arith, nat_tests)

-- past the base end each byte that no write gave is 0
zeros_of_base : {shows : Type 0} {past : List Entry} {pairs : Pairs} (end : ℕ) (block : Block) → base_end_of past ≤ block.pos → IsZeros block → IsOfBase shows past pairs end block
zeros_of_base {past = past} end block le zeros = record {
  each = λ known f i lt below. zeros.zero i lt ∙ sym (base_past known (base_end_of past) (held_by past) (block.pos + i) (omega (arith, le)));
}

-- zeros were put in a gap past the base end
blanks_sound : {tells shows : Type 0} {past : List Entry} {names : List (List ℕ)} {saved : Saved} {pairs : Pairs} {m m' : Meta} {s t : Slot} {base : Base} {atime : ℕ} (gap : Span)
    → IsSound tells shows past names saved pairs (Some m) s base atime → m.intent ≡ None → m.base_end ≤ gap.start → Blanks tells gap m s m' t
    → IsSound tells shows past names saved pairs (Some m') t base atime
blanks_sound {tells} {shows} {past} {pairs = pairs} {m = m} {base = base} gap b none le blanks =
    let r = puts_stored gap.end blanks.puts (omega arith) b.book (zeros_of_base gap.end blanks.block (omega (arith, le, blanks.begins, b.book.kept.1.base_end)) blanks.zeros) in
    let stored : HasStored tells shows past pairs m.ranges gap blanks.there = record {
      stored = λ t known f i p from to out. r.1.stored t known f i p (omega (arith, from, blanks.begins)) to out;
    } in
    brought_sound b (fetched r.0 none stored blanks.saved.goes blanks.saved.means blanks.fetched)
    (λ p h. blanks.fetched.ranges p ∙ or_first (has m.ranges p) (is_in gap p) h) (later_same base.object) (inl refl)

pub filled_sound : {tells shows : Type 0} {past : List Entry} {names : List (List ℕ)} {saved : Saved} {pairs : Pairs} {m m' : Meta} {s t : Slot} {base : Base} {atime : ℕ} (gap : Span)
    → IsSound tells shows past names saved pairs (Some m) s base atime → m.intent ≡ None → m.base_end ≤ gap.start → Fills tells gap m s m' t
    → IsSound tells shows past names saved pairs (Some m') t base atime
filled_sound gap b none le (inl whole) = with_meta (moved_sound b (stays whole.stays) refl) (ap (λ (x : Meta). Some x) (sym whole.same))
filled_sound gap b none le (inr blanks) = blanks_sound gap b none le blanks

-- a gap of which all is here
pub gap_here : (here : List Span) (gap : Span) → Covers here gap → AreHere here gap.start gap.end
gap_here here gap covers p from to = covers p (inside gap.start gap.end p from to)

-- an empty one
pub no_gap : (here : List Span) (gap : Span) → gap.end ≤ gap.start → AreHere here gap.start gap.end
no_gap here gap le p from to = absurd (omega (arith, le, from, to))

pub adds_here : (here : List Span) (gap : Span) → AreHere here gap.start gap.end → Adds here here gap
adds_here here gap all p = elim (cases_Bool (is_in gap p)) [
  | inl y ↦ let h : has here p ≡ true = all p (from_span gap.start gap.end p y) (to_span gap.start gap.end p y) in h ∙ sym (or_first (has here p) (is_in gap p) h)
  | inr n ↦ or_none (has here p) (is_in gap p) n
]

-- what was here still is
pub adds_all : (here here' : List Span) (gap : Span) → Adds here here' gap → (p : ℕ) → has here p ≡ true → has here' p ≡ true
adds_all here here' gap adds p h = adds p ∙ or_first (has here p) (is_in gap p) h

-- all of the gap is here
pub adds_gap : (here here' : List Span) (gap : Span) → Adds here here' gap → AreHere here' gap.start gap.end
adds_gap here here' gap adds p from to = adds p ∙ or_second (has here p) (is_in gap p) (inside gap.start gap.end p from to)

-- a block is here whose part before the base end is, and its gap past it
pub block_here : (here : List Span) (pos stop end base_end start : ℕ) → AllHere (has here) (record { start = pos; end = end }) base_end → AreHere here start stop
    → end ≡ min stop base_end → start ≡ max pos base_end → AreHere here pos stop
block_here here pos stop end base_end start part gap is at p from to = elim (cases_lt p base_end) [
  | inl low ↦ part p (inside pos end p from (omega (arith, is, low, to))) low
  | inr up ↦ gap p (omega (arith, at, from, up)) to
]

-- the gap of a block of so many bytes
pub gap_is : (past : List Entry) (pos count start : ℕ) → count ≡ min 131072 (size_of past - pos) → start ≡ max pos (base_end_of past)
    → past_object past pos ≡ record { start = start; end = pos + count }
gap_is past pos count start is at = λ i. record { start = sym at i; end = pos + sym is i }

-- a block of no bytes has no gap
pub nothing_past : (past : List Entry) (pos p : ℕ) → min 131072 (size_of past - pos) ≡ 0 → is_in (past_object past pos) p ≡ false
nothing_past past pos p none = outside (max pos (base_end_of past)) (pos + min 131072 (size_of past - pos)) p (omega (arith, none)) where
  outside : (from to p : ℕ) → to ≤ from → is_in (record { start = from; end = to }) p ≡ false
  outside from to p h = grind (arith, nat_tests)
