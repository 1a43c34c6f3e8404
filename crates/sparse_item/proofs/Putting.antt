-- How a block's bytes are put into a slot's file.
use Rattle.std.proofs.Common.{◌≡◌, ◌≤◌, ◌<◌, ℕ, ◌+◌, ◌-◌, not, Bool, true, false, None, List, length, Result, Ok, Err, refl, sym, ap, ◌∙◌, arith, subst, length-take, length-drop, inl, inr}
use Rattle.std.specs.Prelude.{slice_range}
use Rattle.std.proofs.lemmas.Bool.{true≢false}
use Rattle.std.proofs.lemmas.Bool.Decides.{nat_tests}
use Rattle.byte_ranges.specs.Ranges.{has, is_in, lacks, IsFirstRun, IsFirstRunIn}
use Rattle.byte_ranges.specs.declared.Span.{Span}
use Rattle.vfs_outside.specs.Object.{IsPart}
use Rattle.vfs_outside.specs.Slot.{Slot}
use Rattle.vfs_outside.specs.declared.disk_error.DiskError.{DiskError}
use Rattle.vfs_outside.specs.declared.disk_error.DiskError.TheVariants.{Failed, NoMemory}
use Rattle.vfs_outside.specs.declared.file_call.FileCall.TheVariants.{Wrote}
use Rattle.item_image.specs.Calls.{DoesWrite, Goes}
use Rattle.item_image.proofs.Calls.{whole_tears}
use Rattle.base_object.specs.declared.block.Block.{Block}
use Rattle.sparse_item.specs.Fetching.{AreAbsent, AreHere, Beside, Lacks, Puts, idles, passes, stays, tears, writes}
use Rattle.sparse_item.specs.Moves.{Idles}
use Rattle.sparse_item.proofs.Moved.{no_step}

is_lacking : (b : Bool) → not b ≡ true → b ≡ false
is_lacking true h = absurd (true≢false (sym h))
is_lacking false h = refl

is_there : (b : Bool) → not b ≡ false → b ≡ true
is_there true h = refl
is_there false h = absurd (true≢false h)

inside : (from to p : ℕ) → from ≤ p → p < to → is_in (record { start = from; end = to }) p ≡ true
inside from to p a b = grind (arith, nat_tests)

pub none_lacks : (here : List Span) (from to : ℕ) → IsFirstRunIn (lacks here) (record { start = from; end = to }) None → AreHere here from to
none_lacks here from to none p a b = is_there (has here p) (none p (inside from to p a b))

pub before_run : (here : List Span) (from to : ℕ) (run : Span) → IsFirstRun (lacks here) (record { start = from; end = to }) run → AreHere here from run.start
before_run here from to run f p a b = is_there (has here p) (f.before p a b)

pub in_run : (here : List Span) (from to : ℕ) (run : Span) → IsFirstRun (lacks here) (record { start = from; end = to }) run → AreAbsent here run.start run.end
in_run here from to run f p a b = is_lacking (has here p) (f.passes p (inside run.start run.end p a b))

-- where a run isn't here, a byte isn't
pub run_lacks : (here : List Span) (part run : Span) → IsFirstRun (lacks here) part run → Lacks here part
run_lacks here part run f = (run.start, inside part.start part.end run.start f.from (omega (arith, f.some, f.to)), is_lacking (has here run.start) (f.passes run.start (inside run.start run.end run.start (omega arith) f.some)))

-- so many bytes of a block
pub part_length : (bytes part : List ℕ) (from to : ℕ) → part ≡ slice_range bytes from to → from ≤ to → to ≤ length bytes → from + length part ≡ to
part_length bytes part from to e le most =
    let n : length part ≡ length (slice_range bytes from to) = ap length e in
    omega (arith, n, length-take {A = ℕ}, length-drop {A = ℕ})

pub nothing_put : {tells : Type 0} {here : List Span} (s : Slot) → Beside tells here s s
nothing_put s = stays (no_step s)

-- the first run from a place on that isn't here was written
pub put_next : {tells : Type 0} {here : List Span} {block : Block} {s t u : Slot} (at end : ℕ) (run : Span) (bytes : List ℕ)
    → IsFirstRun (lacks here) (record { start = at; end = end }) run → block.pos ≤ at → end ≤ block.pos + length block.bytes
    → bytes ≡ slice_range block.bytes (run.start - block.pos) (run.end - block.pos) → Goes tells (Wrote run.start bytes) t u
    → Puts tells here block at s t → Puts tells here block run.end s u
put_next {tells} {here} {block} {s} {t} {u} at end run bytes f low most is goes p =
    let size : (run.start - block.pos) + length bytes ≡ run.end - block.pos =
    part_length block.bytes bytes (run.start - block.pos) (run.end - block.pos) is (omega (arith, f.some)) (omega (arith, f.to, most)) in
    let to : run.start + length bytes ≡ run.end = omega (arith, size, f.from, low, f.some) in
    let part : IsPart block.bytes (run.start - block.pos) bytes = is ∙ ap (λ n. slice_range block.bytes (run.start - block.pos) n) (sym size) in
    let absent : AreAbsent here run.start (run.start + length bytes) = subst (λ n. AreAbsent here run.start n) (sym to) (in_run here at end run f) in
    subst (λ n. Puts tells here block n s u) to (writes (passes p f.from (before_run here at end run f)) absent part goes)

-- a write of bytes that aren't here, done or not
put_beside : {tells : Type 0} {here : List Span} {s t : Slot} (T : Type 0) (at : ℕ) (bytes : List ℕ) (result : Result T DiskError) → AreAbsent here at (at + length bytes)
    → DoesWrite tells at bytes s t result → Beside tells here s t
put_beside T at bytes (Ok x) absent h = tears absent (whole_tears h)
put_beside T at bytes (Err Failed) absent h = tears absent h
put_beside T at bytes (Err NoMemory) absent h = stays h

-- the same, of a run
pub run_beside : {tells : Type 0} {here : List Span} {s t : Slot} (T : Type 0) (block : Block) (at end : ℕ) (run : Span) (bytes : List ℕ) (result : Result T DiskError)
    → IsFirstRun (lacks here) (record { start = at; end = end }) run → block.pos ≤ at → end ≤ block.pos + length block.bytes
    → bytes ≡ slice_range block.bytes (run.start - block.pos) (run.end - block.pos) → DoesWrite tells run.start bytes s t result → Beside tells here s t
run_beside {here = here} T block at end run bytes result f low most is does =
    let size : (run.start - block.pos) + length bytes ≡ run.end - block.pos =
    part_length block.bytes bytes (run.start - block.pos) (run.end - block.pos) is (omega (arith, f.some)) (omega (arith, f.to, most)) in
    let to : run.start + length bytes ≡ run.end = omega (arith, size, f.from, low, f.some) in
    put_beside T run.start bytes result (subst (λ n. AreAbsent here run.start n) (sym to) (in_run here at end run f)) does

-- a call that was none, or failed
pub idle_beside : {tells : Type 0} {here : List Span} {s t : Slot} → Idles tells s t → Beside tells here s t
idle_beside (inl h) = stays h
idle_beside (inr h) = idles h

-- a slice of the block's bytes
pub sliced : (whole bytes : List ℕ) (from to : ℕ) → whole ≡ bytes → slice_range whole from to ≡ slice_range bytes from to
sliced whole bytes from to e = ap (λ (xs : List ℕ). slice_range xs from to) e
