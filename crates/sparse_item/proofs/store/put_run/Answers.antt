use Rattle.std.proofs.Common.{◌-◌, arith}
use Rattle.std.specs.Prelude.{slice_range}
use Rattle.sparse_item.specs.Fetching.{passes}
use Rattle.sparse_item.proofs.Putting.{none_lacks, nothing_put, put_next, run_beside, sliced}
use Rattle.sparse_item.proofs.store.put_run.Goals as goal

pub returns-in_default-clause-ok : goal.returns-in_default-clause-ok
returns-in_default-clause-ok g c before p = passes p (omega (arith, c.requires.some)) (none_lacks c.args.here.now c.args.at c.args.end (rw c.in_default.is at c.first_missing.ensures.first))

pub returns-in_default-clause-beside : goal.returns-in_default-clause-beside
returns-in_default-clause-beside g c = nothing_put c.args.slot.now

pub returns-in-Ok-clause-ok : goal.returns-in-Ok-clause-ok
returns-in-Ok-clause-ok g c before p =
    let run = c.in-Some.run' in
    let block = c.args.block.now in
    put_next c.args.at c.args.end run (slice_range c.as_slice.result.now (run.start - block.pos) (run.end - block.pos)) c.in-Some.ensures.first c.requires.from c.requires.within
    (sliced c.as_slice.result.now block.bytes (run.start - block.pos) (run.end - block.pos) c.as_slice.ensures) c.in-Ok.ensures.call p

pub returns-in-Ok-clause-beside : goal.returns-in-Ok-clause-beside
returns-in-Ok-clause-beside g c =
    let run = c.in-Some.run' in
    let block = c.args.block.now in
    run_beside _ block c.args.at c.args.end run (slice_range c.as_slice.result.now (run.start - block.pos) (run.end - block.pos)) _ c.in-Some.ensures.first c.requires.from c.requires.within
    (sliced c.as_slice.result.now block.bytes (run.start - block.pos) (run.end - block.pos) c.as_slice.ensures) c.write_at.ensures.call

pub returns-in-Err-clause-beside : goal.returns-in-Err-clause-beside
returns-in-Err-clause-beside g c =
    let run = c.in-Some.run' in
    let block = c.args.block.now in
    run_beside _ block c.args.at c.args.end run (slice_range c.as_slice.result.now (run.start - block.pos) (run.end - block.pos)) _ c.in-Some.ensures.first c.requires.from c.requires.within
    (sliced c.as_slice.result.now block.bytes (run.start - block.pos) (run.end - block.pos) c.as_slice.ensures) c.write_at.ensures.call
