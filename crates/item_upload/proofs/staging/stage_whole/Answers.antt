use Rattle.std.proofs.Common.{◌∙◌, ℕ, Some, ap, refl}
use Rattle.item_core.specs.History.{held_by}
use Rattle.base_object.proofs.WholeRead.{later_same}
use Rattle.item_upload.proofs.Filling.{current_on}
use Rattle.item_upload.proofs.Stopping.{alone_on, cause_before, earlier_same, stage_cause, stage_ends, stage_loses, store_on}
use Rattle.sparse_item.specs.Uploading.{Uploading}
use Rattle.sparse_item.proofs.Moved.{goes_nowhere}
use Rattle.item_upload.proofs.staging.stage_whole.Goals as goal

pub fill-requires-clause-current : goal.fill-requires-clause-current
fill-requires-clause-current g c = current_on c.args.item.now c.args.item.now c.args.upload.now c.stage.new.self refl c.in-Ok.ensures.why c.requires.current

pub fill-requires-clause-empty : goal.fill-requires-clause-empty
fill-requires-clause-empty g c = c.in-Ok.ensures.empty

pub returns-in-Ok-fill-clause-staged : goal.returns-in-Ok-fill-clause-staged
returns-in-Ok-fill-clause-staged g c = c.in-Ok-fill.ensures.staged

pub returns-in-Ok-fill-clause-here : goal.returns-in-Ok-fill-clause-here
returns-in-Ok-fill-clause-here g c p h = c.in-Ok-fill.ensures.here p h

pub returns-in-Ok-fill-clause-object : goal.returns-in-Ok-fill-clause-object
returns-in-Ok-fill-clause-object g c = c.in-Ok-fill.ensures.object

pub returns-in-Ok-fill-clause-state : goal.returns-in-Ok-fill-clause-state
returns-in-Ok-fill-clause-state g c = c.in-Ok-fill.ensures.state

pub returns-in-Ok-fill-clause-why : goal.returns-in-Ok-fill-clause-why
returns-in-Ok-fill-clause-why g c = c.in-Ok-fill.ensures.why ∙ c.in-Ok.ensures.why

pub returns-in-Ok-fill-clause-slot : goal.returns-in-Ok-fill-clause-slot
returns-in-Ok-fill-clause-slot g c = c.in-Ok-fill.ensures.slot

pub returns-in-Ok-fill-clause-store : goal.returns-in-Ok-fill-clause-store
returns-in-Ok-fill-clause-store g c = store_on c.in-Ok.ensures.store c.in-Ok-fill.ensures.store

pub returns-in-Ok-fill-clause-handed : goal.returns-in-Ok-fill-clause-handed
returns-in-Ok-fill-clause-handed g c = c.in-Ok-fill.ensures.handed ∙ c.in-Ok.ensures.handed

pub returns-in-Ok-fill-clause-alone : goal.returns-in-Ok-fill-clause-alone
returns-in-Ok-fill-clause-alone g c = alone_on c.in-Ok.ensures.alone c.in-Ok-fill.ensures.alone c.in-Ok-fill.ensures.store

pub returns-in-Ok-fill-clause-same : goal.returns-in-Ok-fill-clause-same
returns-in-Ok-fill-clause-same g c = c.in-Ok-fill.ensures.same

pub returns-in-Err-fill-clause-here : goal.returns-in-Err-fill-clause-here
returns-in-Err-fill-clause-here g c p h = c.in-Err-fill.ensures.here p h

pub returns-in-Err-fill-clause-object : goal.returns-in-Err-fill-clause-object
returns-in-Err-fill-clause-object g c = c.in-Err-fill.ensures.object

pub returns-in-Err-fill-clause-state : goal.returns-in-Err-fill-clause-state
returns-in-Err-fill-clause-state g c = c.in-Err-fill.ensures.state

pub returns-in-Err-fill-clause-causes : goal.returns-in-Err-fill-clause-causes
returns-in-Err-fill-clause-causes g c =
    cause_before c.args.item.now c.args.item.now c.fill.new.item (g.R.Remote.outside c.args.remote.now) (g.R.Remote.outside c.stage.new.remote) (g.R.Remote.outside c.fill.new.remote) c.in-Err-fill.why
    (earlier_same c.args.item.now) c.in-Ok.ensures.store c.in-Err-fill.ensures.causes

pub returns-in-Err-fill-clause-ends : goal.returns-in-Err-fill-clause-ends
returns-in-Err-fill-clause-ends g c = c.in-Err-fill.ensures.ends

pub returns-in-Err-fill-clause-why : goal.returns-in-Err-fill-clause-why
returns-in-Err-fill-clause-why g c = c.in-Err-fill.ensures.why ∙ ap (λ (u : Uploading). record u { why = Some c.in-Err-fill.why }) c.in-Ok.ensures.why

pub returns-in-Err-fill-clause-slot : goal.returns-in-Err-fill-clause-slot
returns-in-Err-fill-clause-slot g c = c.in-Err-fill.ensures.slot

pub returns-in-Err-fill-clause-store : goal.returns-in-Err-fill-clause-store
returns-in-Err-fill-clause-store g c = store_on c.in-Ok.ensures.store c.in-Err-fill.ensures.store

pub returns-in-Err-fill-clause-handed : goal.returns-in-Err-fill-clause-handed
returns-in-Err-fill-clause-handed g c = c.in-Err-fill.ensures.handed ∙ c.in-Ok.ensures.handed

pub returns-in-Err-fill-clause-alone : goal.returns-in-Err-fill-clause-alone
returns-in-Err-fill-clause-alone g c = alone_on c.in-Ok.ensures.alone c.in-Err-fill.ensures.alone c.in-Err-fill.ensures.store

pub returns-in-Err-fill-clause-same : goal.returns-in-Err-fill-clause-same
returns-in-Err-fill-clause-same g c = c.in-Err-fill.ensures.same

pub returns-in-Err-clause-here : goal.returns-in-Err-clause-here
returns-in-Err-clause-here g c p h = h

pub returns-in-Err-clause-object : goal.returns-in-Err-clause-object
returns-in-Err-clause-object g c = later_same c.args.item.now.base.object

pub returns-in-Err-clause-state : goal.returns-in-Err-clause-state
returns-in-Err-clause-state g c = stage_loses ℕ (g.R.Remote.outside c.args.remote.now) (g.R.Remote.outside c.stage.new.remote) c.args.item.now.base.state c.args.item.now.base.state
    c.in-Err.why c.in-Err.ensures.causes refl

pub returns-in-Err-clause-causes : goal.returns-in-Err-clause-causes
returns-in-Err-clause-causes g c = stage_cause c.args.item.now c.args.item.now (g.R.Remote.outside c.args.remote.now) (g.R.Remote.outside c.stage.new.remote) c.in-Err.why c.in-Err.ensures.causes

pub returns-in-Err-clause-ends : goal.returns-in-Err-clause-ends
returns-in-Err-clause-ends g c = stage_ends (held_by c.args.item.now.log.past) (g.R.Remote.outside c.args.remote.now) (g.R.Remote.outside c.stage.new.remote) c.in-Err.why c.in-Err.ensures.causes

pub returns-in-Err-clause-why : goal.returns-in-Err-clause-why
returns-in-Err-clause-why g c = c.in-Err.ensures.why

pub returns-in-Err-clause-slot : goal.returns-in-Err-clause-slot
returns-in-Err-clause-slot g c = goes_nowhere c.args.item.now.slot

pub returns-in-Err-clause-store : goal.returns-in-Err-clause-store
returns-in-Err-clause-store g c = c.in-Err.ensures.store

pub returns-in-Err-clause-handed : goal.returns-in-Err-clause-handed
returns-in-Err-clause-handed g c = c.in-Err.ensures.handed

pub returns-in-Err-clause-alone : goal.returns-in-Err-clause-alone
returns-in-Err-clause-alone g c = c.in-Err.ensures.alone

pub returns-in-Err-clause-same : goal.returns-in-Err-clause-same
returns-in-Err-clause-same g c = refl
