use Rattle.sparse_item.specs.Fetching.{after}
use Rattle.sparse_item.proofs.Moved.{goes_further}
use Rattle.sparse_item.proofs.Putting.{idle_beside, nothing_put}
use Rattle.sparse_item.proofs.blank.put_zeros.Goals as goal

pub returns-in_default-clause-beside : goal.returns-in_default-clause-beside
returns-in_default-clause-beside g c = nothing_put c.args.slot.now

pub returns-in_default-fetched-clause-beside : goal.returns-in_default-fetched-clause-beside
returns-in_default-fetched-clause-beside g c = nothing_put c.args.slot.now

pub returns-in-Ok-save-clause-goes : goal.returns-in-Ok-save-clause-goes
returns-in-Ok-save-clause-goes g c = goes_further c.put_runs.ensures.goes c.save.ensures.goes

pub returns-in-Ok-put_runs-clause-beside : goal.returns-in-Ok-put_runs-clause-beside
returns-in-Ok-put_runs-clause-beside g c = after c.put_runs.ensures.beside (idle_beside c.in-Err-save.ensures.err)

pub returns-in-Ok-put_runs-clause-goes : goal.returns-in-Ok-put_runs-clause-goes
returns-in-Ok-put_runs-clause-goes g c = goes_further c.put_runs.ensures.goes c.save.ensures.goes
