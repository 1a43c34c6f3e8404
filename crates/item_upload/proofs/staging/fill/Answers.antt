use Rattle.std.proofs.Common.{◌≡◌, ◌∙◌, Some, ap, refl, subst, arith}
use Rattle.item_core.specs.History.{base_end_of, held_by, size_of}
use Rattle.item_core.specs.Legal.{EndsUpload}
use Rattle.base_object.proofs.WholeRead.{later_on, later_same}
use Rattle.item_upload.proofs.Filling.{current_on, staged_all, staged_none}
use Rattle.item_upload.proofs.Stopping.{alone_on, alone_same, cause_before, loses_from, store_on, store_same}
use Rattle.sparse_item.specs.Item.{Item}
use Rattle.sparse_item.specs.Uploading.{Uploading}
use Rattle.sparse_item.proofs.Moved.{goes_further, goes_nowhere}
use Rattle.item_upload.proofs.staging.fill.Goals as goal

pub loop-pos-init : goal.loop-pos-init
loop-pos-init g c = record {
  staged = staged_none c.args.item.now (g.R.Remote.stage_len c.args.stage.now) (g.R.Remote.staged c.args.stage.now) c.requires.empty (λ s. g.met.R.Remote.told_stages s c.args.stage.now);
  most = omega arith;
  current = c.requires.current;
  upload = refl;
  here = λ p h. h;
  object = later_same c.args.item.now.base.object;
  state = refl;
  slot = goes_nowhere c.args.item.now.slot;
  store = store_same (g.R.Remote.outside c.args.remote.now);
  handed = refl;
  alone = alone_same (g.R.Remote.outside c.args.remote.now);
  same = refl;
}

pub put_block-requires-clause-current : goal.put_block-requires-clause-current
put_block-requires-clause-current g c = c.loop-pos.invariant.current

pub put_block-requires-clause-below : goal.put_block-requires-clause-below
put_block-requires-clause-below g c = omega (arith, c.loop-pos-test.true, c.size.ensures, c.loop-pos.invariant.current.size)

pub put_block-requires-clause-front : goal.put_block-requires-clause-front
put_block-requires-clause-front g c = c.loop-pos.invariant.staged

pub loop-pos-smaller : goal.loop-pos-smaller
loop-pos-smaller g c = omega (arith, c.in-Ok.ensures.some, c.in-Ok.ensures.most, ap (λ (v : Item). size_of v.log.past) c.loop-pos.invariant.same)

pub loop-pos-preserved : goal.loop-pos-preserved
loop-pos-preserved g c =
    let old = c.loop-pos.item in
    let new = c.put_block.new.item in
    let so_far = c.loop-pos.invariant in
    record {
      staged = c.in-Ok.ensures.staged;
      most = omega (arith, c.in-Ok.ensures.most, ap (λ (v : Item). size_of v.log.past) so_far.same);
      current = current_on old new c.loop-pos.upload c.put_block.new.upload (ap (λ (v : Item). v.log.past) c.in-Ok.ensures.same) c.in-Ok.ensures.why so_far.current;
      upload = c.in-Ok.ensures.why ∙ so_far.upload;
      here = λ p h. c.in-Ok.ensures.here p (so_far.here p h);
      object = later_on c.args.item.now.base.object old.base.object new.base.object so_far.object c.in-Ok.ensures.object;
      state = c.in-Ok.ensures.state ∙ so_far.state;
      slot = goes_further so_far.slot c.in-Ok.ensures.slot;
      store = store_on so_far.store c.in-Ok.ensures.store;
      handed = c.in-Ok.ensures.handed ∙ so_far.handed;
      alone = alone_on so_far.alone c.in-Ok.ensures.alone c.in-Ok.ensures.store;
      same = c.in-Ok.ensures.same ∙ ap (λ (v : Item). record v { base = new.base; here = new.here; pending = new.pending; slot = new.slot }) so_far.same;
    }

pub returns-in-Err-clause-here : goal.returns-in-Err-clause-here
returns-in-Err-clause-here g c p h = c.in-Err.ensures.here p (c.loop-pos.invariant.here p h)

pub returns-in-Err-clause-object : goal.returns-in-Err-clause-object
returns-in-Err-clause-object g c = later_on c.args.item.now.base.object c.loop-pos.item.base.object c.put_block.new.item.base.object c.loop-pos.invariant.object c.in-Err.ensures.object

pub returns-in-Err-clause-state : goal.returns-in-Err-clause-state
returns-in-Err-clause-state g c = loses_from (Unit {0}) c.args.item.now.base.state c.loop-pos.item.base.state c.put_block.new.item.base.state c.in-Err.why c.loop-pos.invariant.state c.in-Err.ensures.state

pub returns-in-Err-clause-causes : goal.returns-in-Err-clause-causes
returns-in-Err-clause-causes g c =
    let so_far = c.loop-pos.invariant in
    cause_before c.args.item.now c.loop-pos.item c.put_block.new.item (g.R.Remote.outside c.args.remote.now) (g.R.Remote.outside c.loop-pos.remote) (g.R.Remote.outside c.put_block.new.remote) c.in-Err.why
    (record { faults = so_far.slot.faults; object = so_far.object; state = so_far.state; here = so_far.here; end = ap (λ (v : Item). base_end_of v.log.past) so_far.same })
    so_far.store c.in-Err.ensures.causes

pub returns-in-Err-clause-ends : goal.returns-in-Err-clause-ends
returns-in-Err-clause-ends g c = subst (λ (v : Item). EndsUpload (held_by v.log.past) c.in-Err.why) c.loop-pos.invariant.same c.in-Err.ensures.ends

pub returns-in-Err-clause-why : goal.returns-in-Err-clause-why
returns-in-Err-clause-why g c = c.in-Err.ensures.why ∙ ap (λ (u : Uploading). record u { why = Some c.in-Err.why }) c.loop-pos.invariant.upload

pub returns-in-Err-clause-slot : goal.returns-in-Err-clause-slot
returns-in-Err-clause-slot g c = goes_further c.loop-pos.invariant.slot c.in-Err.ensures.slot

pub returns-in-Err-clause-store : goal.returns-in-Err-clause-store
returns-in-Err-clause-store g c = store_on c.loop-pos.invariant.store c.in-Err.ensures.store

pub returns-in-Err-clause-handed : goal.returns-in-Err-clause-handed
returns-in-Err-clause-handed g c = c.in-Err.ensures.handed ∙ c.loop-pos.invariant.handed

pub returns-in-Err-clause-alone : goal.returns-in-Err-clause-alone
returns-in-Err-clause-alone g c = alone_on c.loop-pos.invariant.alone c.in-Err.ensures.alone c.in-Err.ensures.store

pub returns-in-Err-clause-same : goal.returns-in-Err-clause-same
returns-in-Err-clause-same g c =
    let new = c.put_block.new.item in
    c.in-Err.ensures.same ∙ ap (λ (v : Item). record v { base = new.base; here = new.here; pending = new.pending; slot = new.slot }) c.loop-pos.invariant.same

pub returns-clause-staged : goal.returns-clause-staged
returns-clause-staged g c =
    let so_far = c.loop-pos.invariant in
    let item = c.loop-pos.item in
    staged_all item c.loop-pos.pos (g.R.Remote.stage_len c.loop-pos.stage) (g.R.Remote.staged c.loop-pos.stage) so_far.current.dirty
    (let e : c.loop-pos.pos ≡ size_of item.log.past = omega (arith, c.loop-pos-test.false, c.size.ensures, so_far.current.size, so_far.most, ap (λ (v : Item). size_of v.log.past) so_far.same) in e)
    so_far.staged

pub returns-clause-here : goal.returns-clause-here
returns-clause-here g c p h = c.loop-pos.invariant.here p h

pub returns-clause-object : goal.returns-clause-object
returns-clause-object g c = c.loop-pos.invariant.object

pub returns-clause-state : goal.returns-clause-state
returns-clause-state g c = c.loop-pos.invariant.state

pub returns-clause-why : goal.returns-clause-why
returns-clause-why g c = c.loop-pos.invariant.upload

pub returns-clause-slot : goal.returns-clause-slot
returns-clause-slot g c = c.loop-pos.invariant.slot

pub returns-clause-store : goal.returns-clause-store
returns-clause-store g c = c.loop-pos.invariant.store

pub returns-clause-handed : goal.returns-clause-handed
returns-clause-handed g c = c.loop-pos.invariant.handed

pub returns-clause-alone : goal.returns-clause-alone
returns-clause-alone g c = c.loop-pos.invariant.alone

pub returns-clause-same : goal.returns-clause-same
returns-clause-same g c = c.loop-pos.invariant.same
