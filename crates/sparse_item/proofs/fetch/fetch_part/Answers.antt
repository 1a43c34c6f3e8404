use Rattle.std.proofs.Common.{◌≡◌, ◌∙◌, ◌≤◌, List, ap, sym, subst, arith}
use Rattle.byte_ranges.specs.Ranges.{has}
use Rattle.byte_ranges.specs.declared.Span.{Span}
use Rattle.downloaders.specs.declared.Ask.{Ask}
use Rattle.downloaders.specs.Rules.{AreAsks}
use Rattle.item_meta.specs.declared.meta.Meta.{Meta}
use Rattle.base_object.specs.Pulls.{progress_of}
use Rattle.sparse_item.specs.Fetching.{BringsNext}
use Rattle.sparse_item.proofs.Counted.{count_grows}
use Rattle.sparse_item.proofs.Moved.{goes_further}
use Rattle.sparse_item.proofs.fetch.fetch_part.Goals as goal

pub overflow_sub-result : goal.overflow_sub-result
overflow_sub-result g c =
    let old = c.args.meta.now in
    let new = c.bring_next.new.meta in
    let ranges : c.prepare.new.meta.ranges ≡ old.ranges = ap (λ (m : Meta). m.ranges) c.in-Ok.ensures.same in
    let size : old.size ≡ new.size = sym (ap (λ (m : Meta). m.size) c.in-Ok-bring_next.ensures.same ∙ ap (λ (m : Meta). m.size) c.in-Ok.ensures.same) in
    count_grows old.ranges new.ranges old.size new.size c.count-before.result c.count.result size c.requires.meta.ranges.1 c.in-Ok-bring_next.ensures.meta.ranges.1
    c.count-before.ensures.bytes c.count.ensures.bytes (λ p h. c.in-Ok-bring_next.ensures.here p (ap (λ (r : List Span). has r p) ranges ∙ h))

pub returns-in-Ok-bring_next-clause-stored : goal.returns-in-Ok-bring_next-clause-stored
returns-in-Ok-bring_next-clause-stored g c =
    let old = c.args.meta.now in
    let new = c.bring_next.new.meta in
    let ranges : c.prepare.new.meta.ranges ≡ old.ranges = ap (λ (m : Meta). m.ranges) c.in-Ok.ensures.same in
    let size : old.size ≡ new.size = sym (ap (λ (m : Meta). m.size) c.in-Ok-bring_next.ensures.same ∙ ap (λ (m : Meta). m.size) c.in-Ok.ensures.same) in
    let more : c.count-before.result ≤ c.count.result =
    count_grows old.ranges new.ranges old.size new.size c.count-before.result c.count.result size c.requires.meta.ranges.1 c.in-Ok-bring_next.ensures.meta.ranges.1
    c.count-before.ensures.bytes c.count.ensures.bytes (λ p h. c.in-Ok-bring_next.ensures.here p (ap (λ (r : List Span). has r p) ranges ∙ h)) in
    omega (arith, more, c.count-before.ensures.lengths, c.count.ensures.lengths)

pub returns-in-Ok-bring_next-clause-stands : goal.returns-in-Ok-bring_next-clause-stands
returns-in-Ok-bring_next-clause-stands g c past names saved pairs atime b =
    c.in-Ok-bring_next.ensures.stands past names saved pairs atime (c.in-Ok.ensures.stands past names saved pairs atime b)

pub returns-in-Ok-bring_next-clause-asks : goal.returns-in-Ok-bring_next-clause-asks
returns-in-Ok-bring_next-clause-asks g c =
    let ranges : c.prepare.new.meta.ranges ≡ c.args.meta.now.ranges = ap (λ (m : Meta). m.ranges) c.in-Ok.ensures.same in
    subst (λ (r : List Span). (asks : List Ask) → AreAsks c.args.plan.now c.args.part c.args.meta.now.base_end (λ p. has r p) c.args.base.now.crew asks
    → BringsNext asks c.args.meta.now.base_end (λ p. has r p) (λ p. has c.bring_next.new.meta.ranges p) (progress_of c.args.base.now) (progress_of c.bring_next.new.base)) ranges
    c.in-Ok-bring_next.ensures.asks

pub returns-in-Ok-bring_next-clause-goes : goal.returns-in-Ok-bring_next-clause-goes
returns-in-Ok-bring_next-clause-goes g c = goes_further c.in-Ok.ensures.goes c.in-Ok-bring_next.ensures.goes

pub returns-in-Err-bring_next-clause-stands : goal.returns-in-Err-bring_next-clause-stands
returns-in-Err-bring_next-clause-stands g c past names saved pairs atime b =
    c.in-Err-bring_next.ensures.stands past names saved pairs atime (c.in-Ok.ensures.stands past names saved pairs atime b)

pub returns-in-Err-bring_next-clause-goes : goal.returns-in-Err-bring_next-clause-goes
returns-in-Err-bring_next-clause-goes g c = goes_further c.in-Ok.ensures.goes c.in-Err-bring_next.ensures.goes
