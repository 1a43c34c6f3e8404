use Rattle.std.proofs.Common.{◌∙◌, ℕ, ◌+◌, ◌++◌, Some, List, length, ap, refl, arith}
use Rattle.item_core.specs.History.{held_by}
use Rattle.item_upload.specs.Blocks.{IsStep}
use Rattle.item_upload.specs.declared.blocks.Step.TheVariants as steps
use Rattle.item_upload.proofs.Filling.{staged_on}
use Rattle.item_upload.proofs.Stopping.{alone_same, block_cause, stage_cause, stage_ends, stage_loses, store_same}
use Rattle.sparse_item.specs.Item.{Item}
use Rattle.sparse_item.specs.Uploading.{Uploading, block_len}
use Rattle.item_upload.proofs.staging.put_block.Goals as goal

pub block-requires-clause-upload : goal.block-requires-clause-upload
block-requires-clause-upload g c = c.requires.current.begun

pub block-requires-clause-dirty : goal.block-requires-clause-dirty
block-requires-clause-dirty g c present = c.requires.current.dirty

pub unreachable-requires : goal.unreachable-requires
unreachable-requires g c =
    let step : IsStep g.F.CacheFile.tells g.R.Object.Object.tells c.args.item.now c.args.upload.now c.args.pos (steps.Cancelled c.in-Ok-Cancelled.field-0-0 c.in-Ok-Cancelled.field-0-1) =
    rw c.in-Ok-Cancelled.field-0-is at c.in-Ok-Cancelled.ensures.step in
    step.0 c.requires.current.present

pub returns-in-Ok-clause-some : goal.returns-in-Ok-clause-some
returns-in-Ok-clause-some g c =
    let step : IsStep g.F.CacheFile.tells g.R.Object.Object.tells c.args.item.now c.args.upload.now c.args.pos (steps.Bytes c.in-Ok-Bytes.bytes) = rw c.in-Ok-Bytes.field-0-is at c.in-Ok-Bytes.ensures.step in
    omega (arith, ap (λ (xs : List ℕ). length xs) c.as_slice-in-Ok.ensures, step.1, c.requires.below)

pub returns-in-Ok-clause-most : goal.returns-in-Ok-clause-most
returns-in-Ok-clause-most g c =
    let step : IsStep g.F.CacheFile.tells g.R.Object.Object.tells c.args.item.now c.args.upload.now c.args.pos (steps.Bytes c.in-Ok-Bytes.bytes) = rw c.in-Ok-Bytes.field-0-is at c.in-Ok-Bytes.ensures.step in
    omega (arith, ap (λ (xs : List ℕ). length xs) c.as_slice-in-Ok.ensures, step.1, c.requires.below)

pub returns-in-Ok-clause-staged : goal.returns-in-Ok-clause-staged
returns-in-Ok-clause-staged g c =
    let old = c.args.item.now in
    let bytes = c.in-Ok-Bytes.bytes in
    let before = g.R.Remote.staged c.args.stage.now in
    let step : IsStep g.F.CacheFile.tells g.R.Object.Object.tells old c.args.upload.now c.args.pos (steps.Bytes bytes) = rw c.in-Ok-Bytes.field-0-is at c.in-Ok-Bytes.ensures.step in
    staged_on old c.block.new.item c.args.pos (length c.as_slice-in-Ok.result.now) (g.R.Remote.stage_len c.args.stage.now) (g.R.Remote.stage_len c.append.new.stage)
    before bytes (g.R.Remote.staged c.append.new.stage)
    (ap (λ (v : Item). v.log.past) c.in-Ok-Bytes.ensures.same) (ap (λ (v : Item). v.pairs) c.in-Ok-Bytes.ensures.same) c.in-Ok-Bytes.ensures.slot c.requires.front
    c.in-Ok-Bytes.ensures.here (c.in-Ok-Bytes.ensures.got c.requires.current.present) step.1 step.2
    (ap (λ (xs : List ℕ). length xs) c.as_slice-in-Ok.ensures)
    (c.in-Ok.ensures.longer ∙ ap (λ (xs : List ℕ). g.R.Remote.stage_len c.args.stage.now + length xs) c.as_slice.ensures)
    (λ s. c.in-Ok.ensures.staged s ∙ ap (λ (xs : List ℕ). before ++ xs) c.as_slice.ensures)

pub returns-in-Ok-clause-here : goal.returns-in-Ok-clause-here
returns-in-Ok-clause-here g c p h = c.in-Ok-Bytes.ensures.here p h

pub returns-in-Ok-clause-object : goal.returns-in-Ok-clause-object
returns-in-Ok-clause-object g c = c.in-Ok-Bytes.ensures.object

pub returns-in-Ok-clause-state : goal.returns-in-Ok-clause-state
returns-in-Ok-clause-state g c = c.in-Ok-Bytes.ensures.state

pub returns-in-Ok-clause-why : goal.returns-in-Ok-clause-why
returns-in-Ok-clause-why g c = c.in-Ok.ensures.why ∙ c.in-Ok-Bytes.ensures.why

pub returns-in-Ok-clause-slot : goal.returns-in-Ok-clause-slot
returns-in-Ok-clause-slot g c = c.in-Ok-Bytes.ensures.slot

pub returns-in-Ok-clause-store : goal.returns-in-Ok-clause-store
returns-in-Ok-clause-store g c = c.in-Ok.ensures.store

pub returns-in-Ok-clause-handed : goal.returns-in-Ok-clause-handed
returns-in-Ok-clause-handed g c = c.in-Ok.ensures.handed

pub returns-in-Ok-clause-alone : goal.returns-in-Ok-clause-alone
returns-in-Ok-clause-alone g c = c.in-Ok.ensures.alone

pub returns-in-Ok-clause-same : goal.returns-in-Ok-clause-same
returns-in-Ok-clause-same g c = c.in-Ok-Bytes.ensures.same

pub returns-in-Ok-Bytes-clause-here : goal.returns-in-Ok-Bytes-clause-here
returns-in-Ok-Bytes-clause-here g c p h = c.in-Ok-Bytes.ensures.here p h

pub returns-in-Ok-Bytes-clause-object : goal.returns-in-Ok-Bytes-clause-object
returns-in-Ok-Bytes-clause-object g c = c.in-Ok-Bytes.ensures.object

pub returns-in-Ok-Bytes-clause-state : goal.returns-in-Ok-Bytes-clause-state
returns-in-Ok-Bytes-clause-state g c = stage_loses ℕ (g.R.Remote.outside c.args.remote.now) (g.R.Remote.outside c.append.new.remote) c.args.item.now.base.state c.block.new.item.base.state
    c.in-Err-append.why c.in-Err-append.ensures.causes c.in-Ok-Bytes.ensures.state

pub returns-in-Ok-Bytes-clause-causes : goal.returns-in-Ok-Bytes-clause-causes
returns-in-Ok-Bytes-clause-causes g c = stage_cause c.args.item.now c.block.new.item (g.R.Remote.outside c.args.remote.now) (g.R.Remote.outside c.append.new.remote)
    c.in-Err-append.why c.in-Err-append.ensures.causes

pub returns-in-Ok-Bytes-clause-ends : goal.returns-in-Ok-Bytes-clause-ends
returns-in-Ok-Bytes-clause-ends g c = stage_ends (held_by c.args.item.now.log.past) (g.R.Remote.outside c.args.remote.now) (g.R.Remote.outside c.append.new.remote)
    c.in-Err-append.why c.in-Err-append.ensures.causes

pub returns-in-Ok-Bytes-clause-why : goal.returns-in-Ok-Bytes-clause-why
returns-in-Ok-Bytes-clause-why g c = c.in-Err-append.ensures.why ∙ ap (λ (u : Uploading). record u { why = Some c.in-Err-append.why }) c.in-Ok-Bytes.ensures.why

pub returns-in-Ok-Bytes-clause-slot : goal.returns-in-Ok-Bytes-clause-slot
returns-in-Ok-Bytes-clause-slot g c = c.in-Ok-Bytes.ensures.slot

pub returns-in-Ok-Bytes-clause-store : goal.returns-in-Ok-Bytes-clause-store
returns-in-Ok-Bytes-clause-store g c = c.in-Err-append.ensures.store

pub returns-in-Ok-Bytes-clause-handed : goal.returns-in-Ok-Bytes-clause-handed
returns-in-Ok-Bytes-clause-handed g c = c.in-Err-append.ensures.handed

pub returns-in-Ok-Bytes-clause-alone : goal.returns-in-Ok-Bytes-clause-alone
returns-in-Ok-Bytes-clause-alone g c = c.in-Err-append.ensures.alone

pub returns-in-Ok-Bytes-clause-same : goal.returns-in-Ok-Bytes-clause-same
returns-in-Ok-Bytes-clause-same g c = c.in-Ok-Bytes.ensures.same

pub returns-clause-here : goal.returns-clause-here
returns-clause-here g c p h = c.in-Err.ensures.here p h

pub returns-clause-object : goal.returns-clause-object
returns-clause-object g c = c.in-Err.ensures.object

pub returns-clause-state : goal.returns-clause-state
returns-clause-state g c = c.in-Err.ensures.state

pub returns-clause-causes : goal.returns-clause-causes
returns-clause-causes g c = block_cause c.args.item.now c.block.new.item (g.R.Remote.outside c.args.remote.now) (g.R.Remote.outside c.args.remote.now) c.args.pos block_len
    c.in-Err.why c.in-Err.ensures.causes

pub returns-clause-ends : goal.returns-clause-ends
returns-clause-ends g c = c.in-Err.ensures.ends

pub returns-clause-why : goal.returns-clause-why
returns-clause-why g c = c.in-Err.ensures.why

pub returns-clause-slot : goal.returns-clause-slot
returns-clause-slot g c = c.in-Err.ensures.slot

pub returns-clause-store : goal.returns-clause-store
returns-clause-store g c = store_same (g.R.Remote.outside c.args.remote.now)

pub returns-clause-handed : goal.returns-clause-handed
returns-clause-handed g c = refl

pub returns-clause-alone : goal.returns-clause-alone
returns-clause-alone g c = alone_same (g.R.Remote.outside c.args.remote.now)

pub returns-clause-same : goal.returns-clause-same
returns-clause-same g c = c.in-Err.ensures.same
