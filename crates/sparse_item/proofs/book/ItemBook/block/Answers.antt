use Rattle.std.proofs.Common.{◌≡◌, ◌∙◌, ◌≤◌, ◌<◌, ℕ, ◌+◌, ◌-◌, ◌||◌, min, length, List, Some, Err, Result, refl, sym, ap, inr, subst, arith}
use Rattle.std.specs.Prelude.{IfOk, OnOk, slice_index}
use Rattle.byte_ranges.specs.Ranges.{has, is_in}
use Rattle.byte_ranges.specs.declared.Span.{Span}
use Rattle.vfs_names.specs.declared.blob.Blob.{Blob}
use Rattle.vfs_names.specs.declared.refusal.Refusal.{Refusal}
use Rattle.vfs_names.specs.declared.refusal.Refusal.TheVariants as refusals
use Rattle.item_core.specs.History.{base_end_of, size_of}
use Rattle.downloaders.specs.declared.Ask.{Ask}
use Rattle.downloaders.specs.Orders.{here_in_the_end}
use Rattle.base_object.specs.Base.{Base}
use Rattle.base_object.specs.Pulls.{progress_of}
use Rattle.base_object.specs.Reads.{MakesAll, Reads}
use Rattle.sparse_item.specs.Fetching.{Lacks}
use Rattle.sparse_item.specs.Item.{Item}
use Rattle.sparse_item.specs.Moves.{GoesOn}
use Rattle.sparse_item.specs.Reading.{Shows, needed, shown}
use Rattle.sparse_item.specs.Uploading.{past_object}
use Rattle.sparse_item.specs.Views.{here_of}
use Rattle.sparse_item.proofs.Blanked.{gap_is, nothing_past, or_none}
use Rattle.sparse_item.proofs.Moved.{goes_further}
use Rattle.sparse_item.proofs.Nexts.{front_all, reads_none}
use Rattle.sparse_item.proofs.Refusals.{asks_same, base_end_is, no_part, nothing_needed, part_needed, same_refusal}
use Rattle.sparse_item.proofs.Shown.{front_back, read_shows}
use Rattle.sparse_item.proofs.Steps.{moved_sound, same_given, same_past, touched_sound, with_meta}
use Rattle.sparse_item.proofs.book.ItemBook.block.Goals.{in-Ok-read_runs, in-Err-read_runs}
use Rattle.sparse_item.proofs.book.ItemBook.block.Goals as goal

pub returns-then-count-eq0-clause-asks : goal.returns-then-count-eq0-clause-asks
returns-then-count-eq0-clause-asks g c asks all =
    let past = c.self.inside.core.past in
    let now = c.args.self.now in
    let few : min (c.args.pos + 131072) (base_end_of past) ≤ c.args.pos =
    nothing_needed past c.args.pos 131072 (omega (arith, c.base_end-base_end.ensures.base_end, c.base_end-base_end.ensures.within)) (omega (arith, c.if-count-eq0.true, c.min-count.ensures, c.saturating_sub.ensures, c.size.ensures.size)) in
    let none = no_part c.args.plan.now (needed now.log.past c.args.pos 131072) (base_end_of now.log.past) (λ p. has now.here p) now.base.crew asks
    (subst (λ (v : Item). min (c.args.pos + 131072) (base_end_of v.log.past) ≤ c.args.pos) c.self.view_is few) all in
    reads_none asks _ _ none refl

pub returns-then-count-eq0-clause-all : goal.returns-then-count-eq0-clause-all
returns-then-count-eq0-clause-all g c asks all p =
    let past = c.self.inside.core.past in
    let now = c.args.self.now in
    let few : min (c.args.pos + 131072) (base_end_of past) ≤ c.args.pos =
    nothing_needed past c.args.pos 131072 (omega (arith, c.base_end-base_end.ensures.base_end, c.base_end-base_end.ensures.within)) (omega (arith, c.if-count-eq0.true, c.min-count.ensures, c.saturating_sub.ensures, c.size.ensures.size)) in
    let none = no_part c.args.plan.now (needed now.log.past c.args.pos 131072) (base_end_of now.log.past) (λ p. has now.here p) now.base.crew asks
    (subst (λ (v : Item). min (c.args.pos + 131072) (base_end_of v.log.past) ≤ c.args.pos) c.self.view_is few) all in
    let gap = nothing_past now.log.past c.args.pos p
    (subst (λ (v : Item). min 131072 (size_of v.log.past - c.args.pos) ≡ 0) c.self.view_is (omega (arith, c.if-count-eq0.true, c.min-count.ensures, c.saturating_sub.ensures, c.size.ensures.size))) in
    sym (ap (λ (xs : List Ask). here_in_the_end xs (base_end_of now.log.past) (λ q. has now.here q) p) none) ∙ or_none _ _ gap

pub invariant_of-self : goal.invariant_of-self
invariant_of-self g c = moved_sound (c.in-Ok-complete.ensures.stands _ _ _ _ _ (touched_sound c.self.inside.atime (with_meta c.self.invariant c.in-Some.is) refl))
    (c.read_runs.ensures.moves (Some c.complete.new.meta)) refl

pub invariant_of-self-in-Err-complete : goal.invariant_of-self-in-Err-complete
invariant_of-self-in-Err-complete g c = c.in-Err.ensures.stands _ _ _ _ _ (touched_sound c.self.inside.atime (with_meta c.self.invariant c.in-Some.is) refl)

pub returns-after-read_runs-clause-bytes : goal.returns-after-read_runs-clause-bytes
returns-after-read_runs-clause-bytes g c =
    let now = c.args.self.now in
    let old = c.as_mut_slice.result.now in
    let found = c.read_runs.new.into in
    let shows = λ (xs : List ℕ). Shows g.F.CacheFile.tells g.O.Object.tells now c.args.pos 131072 xs in
    let past : now.log.past ≡ c.self.inside.core.past = ap (λ (v : Item). v.log.past) (sym c.self.view_is) in
    let count : length old ≡ c.min-count.result = ap length c.as_mut_slice.ensures.value ∙ c.in-Ok.ensures.count in
    let few : c.min-count.result ≡ shown now.log.past c.args.pos 131072 =
    subst (λ (v : Item). c.min-count.result ≡ shown v.log.past c.args.pos 131072) c.self.view_is (omega (arith, c.min-count.ensures, c.saturating_sub.ensures, c.size.ensures.size)) in
    let before : c.in-Some.meta.base_end ≡ base_end_of now.log.past = base_end_is (with_meta c.self.invariant c.in-Some.is) ∙ ap (λ (v : Item). base_end_of v.log.past) c.self.view_is in
    let end : c.min.result ≡ min (c.args.pos + length old) (base_end_of now.log.past) =
    subst (λ (v : Item). c.min.result ≡ min (c.args.pos + length old) (base_end_of v.log.past)) c.self.view_is (omega (arith, c.min.ensures, c.base_end-base_end.ensures.base_end, count)) in
    let goes : GoesOn g.F.CacheFile.tells now.slot c.complete.new.slot = subst (λ (v : Item). GoesOn g.F.CacheFile.tells v.slot c.complete.new.slot) c.self.view_is c.in-Ok-complete.ensures.goes in
    let sound = same_given (same_past (c.in-Ok-complete.ensures.stands _ _ _ _ _ (touched_sound c.self.inside.atime (with_meta c.self.invariant c.in-Some.is) refl)) past) refl
    (ap (λ (v : Item). v.pairs) (sym c.self.view_is)) in
    let zero = subst (λ (xs : List ℕ). (i : ℕ) → i < length xs → slice_index xs i ≡ 0) (sym c.as_mut_slice.ensures.value) c.in-Ok.ensures.zero in
    elim c.match-read_runs.branch [
      | in-Ok-read_runs w ↦
          let fills = w.in-Ok-read_runs.ensures.ok in
          let size : c.in-Ok.bytes.len ≡ length found = c.in-Ok.bytes.ok.0 ∙ sym (fills.size ∙ ap length c.as_mut_slice.ensures.value) in
          let is : w.from_vec-in-Ok-read_runs.result ≡ found = w.from_vec-in-Ok-read_runs.ensures ∙ front_back c.in-Ok.bytes.len found _ size in
          let seen = read_shows now c.args.pos 131072 (length old) c.min.result c.in-Some.meta.base_end old found sound goes c.in-Ok-complete.ensures.settled (count ∙ few) before end
          c.in-Ok-complete.ensures.got fills refl zero in
          subst (λ (r : Result Blob Refusal). IfOk r shows) (sym w.result-is) (subst shows (sym is) seen)
      | in-Err-read_runs w ↦ subst (λ (r : Result Blob Refusal). IfOk r shows) (sym w.result-is) tt
    ]

pub returns-after-read_runs-clause-asks : goal.returns-after-read_runs-clause-asks
returns-after-read_runs-clause-asks g c asks all =
    let past = c.self.inside.core.past in
    let now = c.args.self.now in
    let is_part : needed past c.args.pos 131072 ≡ record { start = c.args.pos; end = c.min.result } =
    part_needed past c.args.pos 131072 c.min-count.result c.min.result (omega (arith, c.base_end-base_end.ensures.base_end, c.base_end-base_end.ensures.within))
    (omega (arith, c.min-count.ensures, c.saturating_sub.ensures, c.size.ensures.size)) (omega (arith, c.min.ensures, c.base_end-base_end.ensures.base_end)) in
    let part : needed now.log.past c.args.pos 131072 ≡ record { start = c.args.pos; end = c.min.result } = ap (λ (v : Item). needed v.log.past c.args.pos 131072) (sym c.self.view_is) ∙ is_part in
    let here : now.here ≡ c.in-Some.meta.ranges = ap (λ (v : Item). v.here) (sym c.self.view_is) ∙ ap here_of c.in-Some.is in
    let end : base_end_of now.log.past ≡ c.in-Some.meta.base_end = ap (λ (v : Item). base_end_of v.log.past) (sym c.self.view_is) ∙ sym (base_end_is (with_meta c.self.invariant c.in-Some.is)) in
    let base : now.base ≡ c.self.inside.base = ap (λ (v : Item). v.base) (sym c.self.view_is) in
    let made : MakesAll asks (progress_of now.base) (progress_of c.complete.new.base) = subst (λ (b : Base). MakesAll asks (progress_of b) (progress_of c.complete.new.base)) (sym base)
    (c.in-Ok-complete.ensures.asks asks (asks_same c.args.plan.now _ _ _ _ now.here c.in-Some.meta.ranges now.base c.self.inside.base asks part end here base all)) in
    elim c.match-read_runs.branch [
      | in-Ok-read_runs w ↦ subst (λ (r : Result Blob Refusal). Reads asks (progress_of now.base) (progress_of c.complete.new.base) r) (sym w.result-is) made
      | in-Err-read_runs w ↦ subst (λ (r : Result Blob Refusal). Reads asks (progress_of now.base) (progress_of c.complete.new.base) r) (sym w.result-is) (front_all asks _ _ made)
    ]

pub returns-after-read_runs-clause-slot : goal.returns-after-read_runs-clause-slot
returns-after-read_runs-clause-slot g c = subst (λ (v : Item). GoesOn g.F.CacheFile.tells v.slot c.read_runs.new.slot) c.self.view_is (goes_further c.in-Ok-complete.ensures.goes c.read_runs.ensures.goes)

pub returns-in-Err-clause-lost : goal.returns-in-Err-clause-lost
returns-in-Err-clause-lost g c held found is lacks =
    let past = c.self.inside.core.past in
    let now = c.args.self.now in
    let is_part : needed past c.args.pos 131072 ≡ record { start = c.args.pos; end = c.min.result } =
    part_needed past c.args.pos 131072 c.min-count.result c.min.result (omega (arith, c.base_end-base_end.ensures.base_end, c.base_end-base_end.ensures.within))
    (omega (arith, c.min-count.ensures, c.saturating_sub.ensures, c.size.ensures.size)) (omega (arith, c.min.ensures, c.base_end-base_end.ensures.base_end)) in
    let part : needed now.log.past c.args.pos 131072 ≡ record { start = c.args.pos; end = c.min.result } = ap (λ (v : Item). needed v.log.past c.args.pos 131072) (sym c.self.view_is) ∙ is_part in
    let here : now.here ≡ c.in-Some.meta.ranges = ap (λ (v : Item). v.here) (sym c.self.view_is) ∙ ap here_of c.in-Some.is in
    let lacking : Lacks c.in-Some.meta.ranges (record { start = c.args.pos; end = c.min.result }) =
    subst (λ (z : Span). Lacks c.in-Some.meta.ranges z) part (subst (λ (z : List Span). Lacks z (needed now.log.past c.args.pos 131072)) here lacks) in
    let stale = c.in-Err.ensures.lost held found (ap (λ (v : Item). v.base.state) c.self.view_is ∙ is) lacking in
    inr (ap (λ (why : Refusal). Err why) (same_refusal c.in-Err.why (refusals.Stale held found) _ _ stale refl refl))

pub returns-after-read_runs-clause-all : goal.returns-after-read_runs-clause-all
returns-after-read_runs-clause-all g c asks all =
    let past = c.self.inside.core.past in
    let now = c.args.self.now in
    let new = c.complete.new.meta in
    let count : c.min-count.result ≡ min 131072 (size_of past - c.args.pos) = omega (arith, c.min-count.ensures, c.saturating_sub.ensures, c.size.ensures.size) in
    let is_part : needed past c.args.pos 131072 ≡ record { start = c.args.pos; end = c.min.result } =
    part_needed past c.args.pos 131072 c.min-count.result c.min.result (omega (arith, c.base_end-base_end.ensures.base_end, c.base_end-base_end.ensures.within))
    count (omega (arith, c.min.ensures, c.base_end-base_end.ensures.base_end)) in
    let part : needed now.log.past c.args.pos 131072 ≡ record { start = c.args.pos; end = c.min.result } = ap (λ (v : Item). needed v.log.past c.args.pos 131072) (sym c.self.view_is) ∙ is_part in
    let here : now.here ≡ c.in-Some.meta.ranges = ap (λ (v : Item). v.here) (sym c.self.view_is) ∙ ap here_of c.in-Some.is in
    let end : base_end_of now.log.past ≡ c.in-Some.meta.base_end = ap (λ (v : Item). base_end_of v.log.past) (sym c.self.view_is) ∙ sym (base_end_is (with_meta c.self.invariant c.in-Some.is)) in
    let base : now.base ≡ c.self.inside.base = ap (λ (v : Item). v.base) (sym c.self.view_is) in
    let gap : past_object now.log.past c.args.pos ≡ record { start = c.max.result; end = c.args.pos + c.min-count.result } =
    ap (λ (v : Item). past_object v.log.past c.args.pos) (sym c.self.view_is) ∙ gap_is past c.args.pos c.min-count.result c.max.result count (omega (arith, c.max.ensures, c.base_end-base_end.ensures.base_end)) in
    let each : (p : ℕ) → has new.ranges p ≡ (here_in_the_end asks (base_end_of now.log.past) (λ q. has now.here q) p || is_in (past_object now.log.past c.args.pos) p) =
    (λ p. c.in-Ok-complete.ensures.all asks (asks_same c.args.plan.now _ _ _ _ now.here c.in-Some.meta.ranges now.base c.self.inside.base asks part end here base all) p
    ∙ sym (λ i. here_in_the_end asks (end i) (λ q. has (here i) q) p || is_in (gap i) p)) in
    elim c.match-read_runs.branch [
      | in-Ok-read_runs w ↦ subst (λ (r : Result Blob Refusal). OnOk r ((p : ℕ) → has new.ranges p ≡ (here_in_the_end asks (base_end_of now.log.past) (λ q. has now.here q) p || is_in (past_object now.log.past c.args.pos) p))) (sym w.result-is) each
      | in-Err-read_runs w ↦ subst (λ (r : Result Blob Refusal). OnOk r ((p : ℕ) → has new.ranges p ≡ (here_in_the_end asks (base_end_of now.log.past) (λ q. has now.here q) p || is_in (past_object now.log.past c.args.pos) p))) (sym w.result-is) tt
    ]
