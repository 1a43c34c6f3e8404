use Rattle.std.proofs.Common.{◌∙◌, arith, refl}
use Rattle.sparse_item.specs.Moves.{after, stays}
use Rattle.sparse_item.proofs.Moved.{goes_further, goes_nowhere, no_step}
use Rattle.sparse_item.proofs.Shown.{fills_none}
use Rattle.sparse_item.proofs.runs.read_runs.Goals as goal

pub loop-at-init : goal.loop-at-init
loop-at-init g c = record {
  fills = fills_none c.args.slot.now c.args.here.now c.args.pos c.args.into.now;
  data_is = λ t p. refl;
  moves = λ meta. stays (no_step c.args.slot.now);
  goes = goes_nowhere c.args.slot.now;
  from = omega arith;
  to = omega arith;
}

pub loop-at-preserved : goal.loop-at-preserved
loop-at-preserved g c = record {
  fills = c.in-Ok.ensures.ok c.args.slot.now c.args.into.now c.loop-at.invariant.data_is c.loop-at.invariant.fills;
  data_is = λ t p. c.in-Ok.ensures.data t p ∙ c.loop-at.invariant.data_is t p;
  moves = λ meta. after (c.loop-at.invariant.moves meta) (c.in-Ok.ensures.moves meta);
  goes = goes_further c.loop-at.invariant.goes c.in-Ok.ensures.goes;
  from = omega (arith, c.in-Ok.ensures.further, c.loop-at.invariant.from);
  to = omega (arith, c.in-Ok.ensures.most, c.loop-at.auto.into);
}

pub returns-in-Err-clause-moves : goal.returns-in-Err-clause-moves
returns-in-Err-clause-moves g c meta = after (c.loop-at.invariant.moves meta) (c.in-Err.ensures.moves meta)

pub returns-in-Err-clause-goes : goal.returns-in-Err-clause-goes
returns-in-Err-clause-goes g c = goes_further c.loop-at.invariant.goes c.in-Err.ensures.goes
