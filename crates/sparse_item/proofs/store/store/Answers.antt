use Rattle.sparse_item.specs.Fetching.{after}
use Rattle.sparse_item.proofs.Moved.{goes_further}
use Rattle.sparse_item.proofs.Putting.{idle_beside, nothing_put}
use Rattle.sparse_item.proofs.store.store.Goals as goal

pub returns-in_default-clause-beside : goal.returns-in_default-clause-beside
returns-in_default-clause-beside g c = nothing_put c.args.slot.now

pub returns-in-Ok-save-clause-goes : goal.returns-in-Ok-save-clause-goes
returns-in-Ok-save-clause-goes g c = goes_further c.in-Ok-put_runs.ensures.goes c.in-Ok-save.ensures.goes

pub returns-in-Err-save-clause-beside : goal.returns-in-Err-save-clause-beside
returns-in-Err-save-clause-beside g c = after c.in-Ok-put_runs.ensures.beside (idle_beside c.in-Err-save.ensures.err)

pub returns-in-Err-save-clause-goes : goal.returns-in-Err-save-clause-goes
returns-in-Err-save-clause-goes g c = goes_further c.in-Ok-put_runs.ensures.goes c.in-Err-save.ensures.goes
