use Rattle.std.proofs.Common.{◌∙◌, refl}
use Rattle.byte_ranges.specs.Ranges.{has}
use Rattle.base_object.proofs.WholeRead.{all_here, begins, blocks_none, blocks_on, breaks_off, continues, ended, finishes, going, later_on, later_same, same_blocks}
use Rattle.base_object.proofs.base.BaseObject.read_through.Goals as goal

pub loop-why-init : goal.loop-why-init
loop-why-init g c = record {
  asks = λ asks all. begins c.args.plan.now c.args.span c.args.base_end asks (λ p. has c.args.present.now p) _ all;
  blocks = blocks_none _ _ _ _;
  object = later_same c.args.self.now.object;
  state = refl;
}

pub loop-why-preserved : goal.loop-why-preserved
loop-why-preserved g c = record {
  asks = λ asks all.
      let u = c.loop-why.invariant.asks asks all in
      continues c.args.plan.now c.args.span c.args.base_end asks (λ p. has c.args.present.now p) (λ p. has c.loop-why.present p) (λ p. has c.read_next.new.present p) _ _ _ u
      (going c.args.plan.now c.args.span c.args.base_end u.left (λ p. has c.loop-why.present p) (λ p. has c.read_next.new.present p) _ _ c.in-Ok-true.field-0 c.in-Ok-true.field-0-test (c.in-Ok-true.ensures.asks u.left u.rest));
  blocks = blocks_on _ _ _ _ _ _ _ _ c.loop-why.invariant.blocks (same_blocks _ _ _ _ _ _ _ _ c.loop-why.invariant.object c.in-Ok-true.ensures.blocks);
  object = later_on _ _ _ c.loop-why.invariant.object c.in-Ok-true.ensures.object;
  state = c.in-Ok-true.ensures.state ∙ c.loop-why.invariant.state;
}

pub returns-in-Ok-false-clause-asks : goal.returns-in-Ok-false-clause-asks
returns-in-Ok-false-clause-asks g c asks all =
    let u = c.loop-why.invariant.asks asks all in
    let end = ended c.args.plan.now c.args.span c.args.base_end u.left (λ p. has c.loop-why.present p) (λ p. has c.read_next.new.present p) _ _ c.in-Ok-false.field-0 c.in-Ok-false.field-0-test (c.in-Ok-false.ensures.asks u.left u.rest) in
    finishes c.args.plan.now c.args.span c.args.base_end asks (λ p. has c.args.present.now p) (λ p. has c.loop-why.present p) _ _ _ u end.0 end.1

pub returns-in-Ok-false-clause-here : goal.returns-in-Ok-false-clause-here
returns-in-Ok-false-clause-here g c asks all =
    let u = c.loop-why.invariant.asks asks all in
    let end = ended c.args.plan.now c.args.span c.args.base_end u.left (λ p. has c.loop-why.present p) (λ p. has c.read_next.new.present p) _ _ c.in-Ok-false.field-0 c.in-Ok-false.field-0-test (c.in-Ok-false.ensures.asks u.left u.rest) in
    all_here c.args.plan.now c.args.span c.args.base_end asks (λ p. has c.args.present.now p) (λ p. has c.loop-why.present p) (λ p. has c.read_next.new.present p) _ _ u end.0 end.2

pub returns-in-Ok-false-clause-blocks : goal.returns-in-Ok-false-clause-blocks
returns-in-Ok-false-clause-blocks g c =
    blocks_on _ _ _ _ _ _ _ _ c.loop-why.invariant.blocks (same_blocks _ _ _ _ _ _ _ _ c.loop-why.invariant.object c.in-Ok-false.ensures.blocks)

pub returns-in-Err-clause-asks : goal.returns-in-Err-clause-asks
returns-in-Err-clause-asks g c asks all =
    let u = c.loop-why.invariant.asks asks all in
    breaks_off c.args.plan.now c.args.span c.args.base_end asks (λ p. has c.args.present.now p) (λ p. has c.loop-why.present p) _ _ _ u (c.in-Err.ensures.asks u.left u.rest)

pub returns-in-Err-clause-blocks : goal.returns-in-Err-clause-blocks
returns-in-Err-clause-blocks g c =
    blocks_on _ _ _ _ _ _ _ _ c.loop-why.invariant.blocks (same_blocks _ _ _ _ _ _ _ _ c.loop-why.invariant.object c.in-Err.ensures.blocks)
