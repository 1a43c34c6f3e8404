use Rattle.std.proofs.Common.{arith}
use Rattle.sparse_item.specs.Fetching.{after, begins}
use Rattle.sparse_item.proofs.Moved.{goes_further, goes_nowhere}
use Rattle.sparse_item.proofs.Putting.{nothing_put}
use Rattle.sparse_item.proofs.store.put_runs.Goals as goal

pub loop-at-init : goal.loop-at-init
loop-at-init g c = record {
  puts = begins;
  beside = nothing_put c.args.slot.now;
  goes = goes_nowhere c.args.slot.now;
  from = omega arith;
  to = c.requires.some;
}

pub loop-at-preserved : goal.loop-at-preserved
loop-at-preserved g c = record {
  puts = c.in-Ok.ensures.ok c.args.slot.now c.loop-at.invariant.puts;
  beside = after c.loop-at.invariant.beside c.in-Ok.ensures.beside;
  goes = goes_further c.loop-at.invariant.goes c.in-Ok.ensures.goes;
  from = omega (arith, c.in-Ok.ensures.further, c.loop-at.invariant.from);
  to = c.in-Ok.ensures.most;
}

pub returns-in-Err-clause-beside : goal.returns-in-Err-clause-beside
returns-in-Err-clause-beside g c = after c.loop-at.invariant.beside c.in-Err.ensures.beside

pub returns-in-Err-clause-goes : goal.returns-in-Err-clause-goes
returns-in-Err-clause-goes g c = goes_further c.loop-at.invariant.goes c.in-Err.ensures.goes
