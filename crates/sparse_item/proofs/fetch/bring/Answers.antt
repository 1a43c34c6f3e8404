use Rattle.std.proofs.Common.{◌≡◌, ◌∙◌, [], Ok, ap, refl}
use Rattle.byte_ranges.specs.Ranges.{has}
use Rattle.item_meta.specs.declared.meta.Meta.{Meta}
use Rattle.base_object.proofs.ReadsOn.{no_asks}
use Rattle.base_object.proofs.WholeRead.{all_here, begins, breaks_off, continues, finishes, later_on, later_same}
use Rattle.sparse_item.proofs.Moved.{goes_further, goes_nowhere}
use Rattle.sparse_item.proofs.Nexts.{front_of_all, next_goes_on, none_left}
use Rattle.sparse_item.proofs.fetch.bring.Goals as goal

pub loop-why-init : goal.loop-why-init
loop-why-init g c = record {
  stands = λ past names saved pairs atime b. b;
  asks = λ asks all. begins c.args.plan.now c.args.part c.args.base_end asks (λ p. has c.args.meta.now.ranges p) _ all;
  grown = λ p h. h;
  object = later_same c.args.base.now.object;
  state = refl;
  fits = c.requires.meta;
  same = refl;
  goes = goes_nowhere c.args.slot.now;
}

pub loop-why-preserved : goal.loop-why-preserved
loop-why-preserved g c = record {
  stands = λ past names saved pairs atime b. c.in-Ok-true.ensures.stands past names saved pairs atime (c.loop-why.invariant.stands past names saved pairs atime b);
  asks = λ asks all.
      let u = c.loop-why.invariant.asks asks all in
      continues c.args.plan.now c.args.part c.args.base_end asks (λ p. has c.args.meta.now.ranges p) (λ p. has c.loop-why.meta.ranges p) (λ p. has c.bring_next.new.meta.ranges p) _ _ _ u
      (next_goes_on c.args.plan.now c.args.part c.args.base_end (λ p. has c.loop-why.meta.ranges p) (λ p. has c.bring_next.new.meta.ranges p) u.left _ _ u.rest (c.in-Ok-true.ensures.asks u.left u.rest));
  grown = λ p h. c.in-Ok-true.ensures.here p (c.loop-why.invariant.grown p h);
  object = later_on _ _ _ c.loop-why.invariant.object c.in-Ok-true.ensures.object;
  state = c.in-Ok-true.ensures.state ∙ c.loop-why.invariant.state;
  fits = c.in-Ok-true.ensures.meta;
  same = c.in-Ok-true.ensures.same ∙ ap (λ (x : Meta). record x { ranges = c.bring_next.new.meta.ranges }) c.loop-why.invariant.same;
  goes = goes_further c.loop-why.invariant.goes c.in-Ok-true.ensures.goes;
}

pub returns-in-Ok-false-clause-stands : goal.returns-in-Ok-false-clause-stands
returns-in-Ok-false-clause-stands g c past names saved pairs atime b =
    c.in-Ok-false.ensures.stands past names saved pairs atime (c.loop-why.invariant.stands past names saved pairs atime b)

pub returns-in-Ok-false-clause-asks : goal.returns-in-Ok-false-clause-asks
returns-in-Ok-false-clause-asks g c asks all =
    let u = c.loop-why.invariant.asks asks all in
    let none : u.left ≡ [] = no_asks c.args.plan.now c.args.part c.args.base_end (λ p. has c.loop-why.meta.ranges p) c.loop-why.base.crew u.left
    (c.in-Ok-false.ensures.done (ap (λ b. Ok b) c.in-Ok-false.field-0-test)) u.rest in
    let end = none_left c.args.base_end (λ p. has c.loop-why.meta.ranges p) (λ p. has c.bring_next.new.meta.ranges p) u.left _ _ none (c.in-Ok-false.ensures.asks u.left u.rest) in
    finishes c.args.plan.now c.args.part c.args.base_end asks (λ p. has c.args.meta.now.ranges p) (λ p. has c.loop-why.meta.ranges p) _ _ _ u none end.0

pub returns-in-Ok-false-clause-all : goal.returns-in-Ok-false-clause-all
returns-in-Ok-false-clause-all g c asks all =
    let u = c.loop-why.invariant.asks asks all in
    let none : u.left ≡ [] = no_asks c.args.plan.now c.args.part c.args.base_end (λ p. has c.loop-why.meta.ranges p) c.loop-why.base.crew u.left
    (c.in-Ok-false.ensures.done (ap (λ b. Ok b) c.in-Ok-false.field-0-test)) u.rest in
    let end = none_left c.args.base_end (λ p. has c.loop-why.meta.ranges p) (λ p. has c.bring_next.new.meta.ranges p) u.left _ _ none (c.in-Ok-false.ensures.asks u.left u.rest) in
    all_here c.args.plan.now c.args.part c.args.base_end asks (λ p. has c.args.meta.now.ranges p) (λ p. has c.loop-why.meta.ranges p) (λ p. has c.bring_next.new.meta.ranges p) _ _ u none end.1

pub returns-in-Ok-false-clause-goes : goal.returns-in-Ok-false-clause-goes
returns-in-Ok-false-clause-goes g c = goes_further c.loop-why.invariant.goes c.in-Ok-false.ensures.goes

pub returns-in-Err-clause-stands : goal.returns-in-Err-clause-stands
returns-in-Err-clause-stands g c past names saved pairs atime b =
    c.in-Err.ensures.stands past names saved pairs atime (c.loop-why.invariant.stands past names saved pairs atime b)

pub returns-in-Err-clause-asks : goal.returns-in-Err-clause-asks
returns-in-Err-clause-asks g c asks all =
    let u = c.loop-why.invariant.asks asks all in
    breaks_off c.args.plan.now c.args.part c.args.base_end asks (λ p. has c.args.meta.now.ranges p) (λ p. has c.loop-why.meta.ranges p) _ _ _ u
    (front_of_all u.left _ _ (c.in-Err.ensures.asks u.left u.rest))

pub returns-in-Err-clause-goes : goal.returns-in-Err-clause-goes
returns-in-Err-clause-goes g c = goes_further c.loop-why.invariant.goes c.in-Err.ensures.goes
