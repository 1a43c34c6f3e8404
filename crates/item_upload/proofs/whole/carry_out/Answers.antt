use Rattle.std.proofs.Common.{◌≡◌, ◌∙◌, ◌∷◌, Ok, Some, ap, refl, sym, inl, subst}
use Rattle.byte_ranges.specs.Ranges.{has}
use Rattle.vfs_names.specs.declared.fingerprint.Fingerprint.{Fingerprint}
use Rattle.item_core.specs.History.{base_end_of, held_by, size_of, version_of}
use Rattle.item_core.specs.Legal.{EndsUpload}
use Rattle.item_image.specs.Premise.{Pairs}
use Rattle.base_object.specs.Base.{IsLaterOf}
use Rattle.item_upload.specs.declared.ending.Finished.{Finished}
use Rattle.item_upload.proofs.Carrying.{all_here_as, commits_before, content_before, enters_before, handed_still, handed_through, hands_before, name_as, stays_as, stays_on}
use Rattle.item_upload.proofs.Entering.{never_cancelled, still_open}
use Rattle.item_upload.proofs.Stopping.{cause_before, committed_before, finish_cause, finish_loses, store_on}
use Rattle.sparse_item.specs.Item.{Item}
use Rattle.sparse_item.specs.Uploading.{Uploading}
use Rattle.sparse_item.proofs.Moved.{goes_further}
use Rattle.item_upload.proofs.whole.carry_out.Goals as goal

pub finish-requires-clause-upload : goal.finish-requires-clause-upload
finish-requires-clause-upload g c = still_open c.args.item.now.log.past c.stage_whole.new.item.log.past c.args.by.pass c.args.upload.now c.stage_whole.new.upload c.args.upload.now.why (ap (λ (v : Item). v.log.past) c.in-Ok.ensures.same) c.in-Ok.ensures.why c.requires.pass

pub finish-requires-clause-staged : goal.finish-requires-clause-staged
finish-requires-clause-staged g c present = c.in-Ok.ensures.staged

pub unreachable-requires : goal.unreachable-requires
unreachable-requires g c =
    let present : c.stage_whole.new.upload.version ≡ version_of c.stage_whole.new.item.log.past =
    ap (λ (u : Uploading). u.version) c.in-Ok.ensures.why ∙ c.requires.current.present ∙ sym (ap (λ (v : Item). version_of v.log.past) c.in-Ok.ensures.same) in
    never_cancelled c.finish.result c.in-Ok-Cancelled.field-0-0 c.in-Ok-Cancelled.field-0-1
    (c.in-Ok-Cancelled.is ∙ ap (λ (f : Finished). Ok f) c.in-Ok-Cancelled.field-0-is) (c.finish.ensures.ok present)

pub returns-in-Ok-Done-clause-done : goal.returns-in-Ok-Done-clause-done
returns-in-Ok-Done-clause-done g c = enters_before c.args.by c.args.item.now c.stage_whole.new.item c.finish.new.item c.args.upload.now c.stage_whole.new.upload c.in-Ok-Done.print (ap (λ (v : Item). v.log.past) c.in-Ok.ensures.same) c.in-Ok.ensures.why (c.in-Ok-Done.ensures.done c.in-Ok-Done.print (ap (λ (f : Finished). Ok f) c.in-Ok-Done.field-0-is))

pub returns-in-Ok-Done-clause-base : goal.returns-in-Ok-Done-clause-base
returns-in-Ok-Done-clause-base g c = ap (λ (v : Item). v.base) (c.in-Ok-Done.ensures.saved c.in-Ok-Done.print (ap (λ (f : Finished). Ok f) c.in-Ok-Done.field-0-is))

pub returns-in-Ok-Done-clause-got : goal.returns-in-Ok-Done-clause-got
returns-in-Ok-Done-clause-got g c = all_here_as c.stage_whole.new.item.here c.finish.new.item.here (size_of c.stage_whole.new.item.log.past) (size_of c.args.item.now.log.past) (ap (λ (v : Item). v.here) (c.in-Ok-Done.ensures.saved c.in-Ok-Done.print (ap (λ (f : Finished). Ok f) c.in-Ok-Done.field-0-is))) (sym (ap size_of (ap (λ (v : Item). v.log.past) c.in-Ok.ensures.same))) c.in-Ok.ensures.staged.whole

pub returns-in-Ok-Done-clause-uploads : goal.returns-in-Ok-Done-clause-uploads
returns-in-Ok-Done-clause-uploads g c =
    let bytes = g.R.Remote.staged c.in-Ok.stage in
    record {
      bytes = bytes;
      handed = (c.in-Ok-Done.ensures.handed c.in-Ok-Done.print (ap (λ (f : Finished). Ok f) c.in-Ok-Done.field-0-is)) ∙ ap (λ (ps : Pairs). (c.in-Ok-Done.print, bytes) ∷ ps) c.in-Ok.ensures.handed;
      content = λ s. content_before c.args.item.now c.stage_whole.new.item bytes (ap (λ (v : Item). v.log.past) c.in-Ok.ensures.same) (ap (λ (v : Item). v.pairs) c.in-Ok.ensures.same) c.in-Ok.ensures.slot (c.in-Ok.ensures.staged.content s);
      put = λ s. committed_before c.args.item.now c.stage_whole.new.item bytes (g.R.Remote.outside c.args.remote.now) (g.R.Remote.outside c.stage_whole.new.remote) (g.R.Remote.outside c.finish.new.remote) c.in-Ok-Done.print
          (name_as c.args.item.now c.stage_whole.new.item (ap (λ (v : Item). v.log.past) c.in-Ok.ensures.same) (ap (λ (v : Item). v.names) c.in-Ok.ensures.same)) c.in-Ok.ensures.alone c.in-Ok-Done.ensures.store (c.in-Ok-Done.ensures.put s c.in-Ok-Done.print (ap (λ (f : Finished). Ok f) c.in-Ok-Done.field-0-is));
    }

pub returns-in-Ok-Done-clause-whole : goal.returns-in-Ok-Done-clause-whole
returns-in-Ok-Done-clause-whole g c t s is = handed_through g.R.Object.Object.tells c.args.item.now c.stage_whole.new.item c.finish.new.item (g.R.Remote.outside c.args.remote.now) (g.R.Remote.outside c.stage_whole.new.remote) (g.R.Remote.outside c.finish.new.remote) t c.in-Ok.ensures.slot (ap (λ (v : Item). v.log.past) c.in-Ok.ensures.same) (ap (λ (v : Item). v.pairs) c.in-Ok.ensures.same) c.in-Ok.ensures.handed (c.in-Ok-Done.ensures.whole t s) is

pub returns-in-Ok-Done-clause-why : goal.returns-in-Ok-Done-clause-why
returns-in-Ok-Done-clause-why g c = c.in-Ok-Done.ensures.why ∙ c.in-Ok.ensures.why

pub returns-in-Ok-Done-clause-here : goal.returns-in-Ok-Done-clause-here
returns-in-Ok-Done-clause-here g c p h = ap (λ (v : Item). has v.here p) (c.in-Ok-Done.ensures.saved c.in-Ok-Done.print (ap (λ (f : Finished). Ok f) c.in-Ok-Done.field-0-is)) ∙ c.in-Ok.ensures.here p h

pub returns-in-Ok-Done-clause-limit : goal.returns-in-Ok-Done-clause-limit
returns-in-Ok-Done-clause-limit g c = c.in-Ok-Done.ensures.limit ∙ ap (λ (v : Item). v.log.limit) c.in-Ok.ensures.same

pub returns-in-Ok-Done-clause-slot : goal.returns-in-Ok-Done-clause-slot
returns-in-Ok-Done-clause-slot g c = goes_further c.in-Ok.ensures.slot c.in-Ok-Done.ensures.slot

pub returns-in-Ok-Done-clause-store : goal.returns-in-Ok-Done-clause-store
returns-in-Ok-Done-clause-store g c = store_on c.in-Ok.ensures.store c.in-Ok-Done.ensures.store

pub returns-in-Ok-Done-clause-same : goal.returns-in-Ok-Done-clause-same
returns-in-Ok-Done-clause-same g c = stays_on c.args.item.now c.stage_whole.new.item c.finish.new.item (stays_as c.args.item.now c.stage_whole.new.item c.in-Ok.ensures.same refl) (stays_as c.stage_whole.new.item c.finish.new.item (c.in-Ok-Done.ensures.saved c.in-Ok-Done.print (ap (λ (f : Finished). Ok f) c.in-Ok-Done.field-0-is)) refl)

pub returns-in-Err-finish-clause-err : goal.returns-in-Err-finish-clause-err
returns-in-Err-finish-clause-err g c = ap (λ (v : Item). v.log) c.in-Err-finish.ensures.err ∙ ap (λ (v : Item). v.log) c.in-Ok.ensures.same

pub returns-in-Err-finish-clause-object : goal.returns-in-Err-finish-clause-object
returns-in-Err-finish-clause-object g c = subst (λ (v : Item). IsLaterOf c.args.item.now.base.object v.base.object) (sym c.in-Err-finish.ensures.err) c.in-Ok.ensures.object

pub returns-in-Err-finish-clause-state : goal.returns-in-Err-finish-clause-state
returns-in-Err-finish-clause-state g c = finish_loses Fingerprint c.stage_whole.new.item c.finish.new.item (g.R.Remote.outside c.stage_whole.new.remote) (g.R.Remote.outside c.finish.new.remote) c.args.item.now.base.state c.finish.new.item.base.state c.in-Err-finish.why c.in-Err-finish.ensures.causes (ap (λ (v : Item). v.base.state) c.in-Err-finish.ensures.err ∙ c.in-Ok.ensures.state)

pub returns-in-Err-finish-clause-unsaved : goal.returns-in-Err-finish-clause-unsaved
returns-in-Err-finish-clause-unsaved g c s =
    let bytes = g.R.Remote.staged c.in-Ok.stage in
    commits_before c.args.item.now c.stage_whole.new.item bytes (g.R.Remote.outside c.args.remote.now) (g.R.Remote.outside c.stage_whole.new.remote) (g.R.Remote.outside c.finish.new.remote) (name_as c.args.item.now c.stage_whole.new.item (ap (λ (v : Item). v.log.past) c.in-Ok.ensures.same) (ap (λ (v : Item). v.names) c.in-Ok.ensures.same))
    c.in-Ok.ensures.alone c.in-Err-finish.ensures.store (content_before c.args.item.now c.stage_whole.new.item bytes (ap (λ (v : Item). v.log.past) c.in-Ok.ensures.same) (ap (λ (v : Item). v.pairs) c.in-Ok.ensures.same) c.in-Ok.ensures.slot (c.in-Ok.ensures.staged.content s)) (c.in-Err-finish.ensures.unsaved s)

pub returns-in-Err-finish-clause-may_hand : goal.returns-in-Err-finish-clause-may_hand
returns-in-Err-finish-clause-may_hand g c =
    let bytes = g.R.Remote.staged c.in-Ok.stage in
    hands_before c.args.item.now bytes (g.R.Remote.outside c.args.remote.now) (g.R.Remote.outside c.stage_whole.new.remote) (g.R.Remote.outside c.finish.new.remote) c.in-Ok.ensures.handed
    (λ s. content_before c.args.item.now c.stage_whole.new.item bytes (ap (λ (v : Item). v.log.past) c.in-Ok.ensures.same) (ap (λ (v : Item). v.pairs) c.in-Ok.ensures.same) c.in-Ok.ensures.slot (c.in-Ok.ensures.staged.content s)) c.in-Err-finish.ensures.may_hand

pub returns-in-Err-finish-clause-whole : goal.returns-in-Err-finish-clause-whole
returns-in-Err-finish-clause-whole g c t s is = handed_through g.R.Object.Object.tells c.args.item.now c.stage_whole.new.item c.finish.new.item (g.R.Remote.outside c.args.remote.now) (g.R.Remote.outside c.stage_whole.new.remote) (g.R.Remote.outside c.finish.new.remote) t c.in-Ok.ensures.slot (ap (λ (v : Item). v.log.past) c.in-Ok.ensures.same) (ap (λ (v : Item). v.pairs) c.in-Ok.ensures.same) c.in-Ok.ensures.handed (c.in-Err-finish.ensures.whole t s) is

pub returns-in-Err-finish-clause-causes : goal.returns-in-Err-finish-clause-causes
returns-in-Err-finish-clause-causes g c =
    cause_before c.args.item.now c.stage_whole.new.item c.finish.new.item (g.R.Remote.outside c.args.remote.now) (g.R.Remote.outside c.stage_whole.new.remote) (g.R.Remote.outside c.finish.new.remote) c.in-Err-finish.why
    (record { faults = c.in-Ok.ensures.slot.faults; object = c.in-Ok.ensures.object; state = c.in-Ok.ensures.state; here = c.in-Ok.ensures.here; end = ap (λ (v : Item). base_end_of v.log.past) c.in-Ok.ensures.same })
    c.in-Ok.ensures.store (finish_cause c.stage_whole.new.item c.finish.new.item (g.R.Remote.outside c.stage_whole.new.remote) (g.R.Remote.outside c.finish.new.remote) c.in-Err-finish.why c.in-Err-finish.ensures.causes)

pub returns-in-Err-finish-clause-ends : goal.returns-in-Err-finish-clause-ends
returns-in-Err-finish-clause-ends g c = subst (λ (v : Item). EndsUpload (held_by v.log.past) c.in-Err-finish.why) c.in-Ok.ensures.same c.in-Err-finish.ensures.ends

pub returns-in-Err-finish-clause-why : goal.returns-in-Err-finish-clause-why
returns-in-Err-finish-clause-why g c = c.in-Err-finish.ensures.why ∙ ap (λ (u : Uploading). record u { why = Some c.in-Err-finish.why }) c.in-Ok.ensures.why

pub returns-in-Err-finish-clause-here : goal.returns-in-Err-finish-clause-here
returns-in-Err-finish-clause-here g c p h = ap (λ (v : Item). has v.here p) c.in-Err-finish.ensures.err ∙ c.in-Ok.ensures.here p h

pub returns-in-Err-finish-clause-limit : goal.returns-in-Err-finish-clause-limit
returns-in-Err-finish-clause-limit g c = c.in-Err-finish.ensures.limit ∙ ap (λ (v : Item). v.log.limit) c.in-Ok.ensures.same

pub returns-in-Err-finish-clause-slot : goal.returns-in-Err-finish-clause-slot
returns-in-Err-finish-clause-slot g c = goes_further c.in-Ok.ensures.slot c.in-Err-finish.ensures.slot

pub returns-in-Err-finish-clause-store : goal.returns-in-Err-finish-clause-store
returns-in-Err-finish-clause-store g c = store_on c.in-Ok.ensures.store c.in-Err-finish.ensures.store

pub returns-in-Err-finish-clause-same : goal.returns-in-Err-finish-clause-same
returns-in-Err-finish-clause-same g c = stays_on c.args.item.now c.stage_whole.new.item c.finish.new.item (stays_as c.args.item.now c.stage_whole.new.item c.in-Ok.ensures.same refl) (stays_as c.stage_whole.new.item c.finish.new.item c.in-Err-finish.ensures.err refl)

pub returns-in-Err-clause-err : goal.returns-in-Err-clause-err
returns-in-Err-clause-err g c = ap (λ (v : Item). v.log) c.in-Err.ensures.same

pub returns-in-Err-clause-object : goal.returns-in-Err-clause-object
returns-in-Err-clause-object g c = c.in-Err.ensures.object

pub returns-in-Err-clause-state : goal.returns-in-Err-clause-state
returns-in-Err-clause-state g c = c.in-Err.ensures.state

pub returns-in-Err-clause-unsaved : goal.returns-in-Err-clause-unsaved
returns-in-Err-clause-unsaved g c s = inl c.in-Err.ensures.alone.alone

pub returns-in-Err-clause-may_hand : goal.returns-in-Err-clause-may_hand
returns-in-Err-clause-may_hand g c = inl c.in-Err.ensures.handed

pub returns-in-Err-clause-whole : goal.returns-in-Err-clause-whole
returns-in-Err-clause-whole g c t s is = handed_still g.R.Object.Object.tells c.args.item.now c.stage_whole.new.item (g.R.Remote.outside c.args.remote.now) (g.R.Remote.outside c.stage_whole.new.remote) (ap (λ (v : Item). v.log.past) c.in-Err.ensures.same) (ap (λ (v : Item). v.pairs) c.in-Err.ensures.same) c.in-Err.ensures.handed is

pub returns-in-Err-clause-causes : goal.returns-in-Err-clause-causes
returns-in-Err-clause-causes g c = c.in-Err.ensures.causes

pub returns-in-Err-clause-ends : goal.returns-in-Err-clause-ends
returns-in-Err-clause-ends g c = c.in-Err.ensures.ends

pub returns-in-Err-clause-why : goal.returns-in-Err-clause-why
returns-in-Err-clause-why g c = c.in-Err.ensures.why

pub returns-in-Err-clause-here : goal.returns-in-Err-clause-here
returns-in-Err-clause-here g c p h = c.in-Err.ensures.here p h

pub returns-in-Err-clause-limit : goal.returns-in-Err-clause-limit
returns-in-Err-clause-limit g c = ap (λ (v : Item). v.log.limit) c.in-Err.ensures.same

pub returns-in-Err-clause-slot : goal.returns-in-Err-clause-slot
returns-in-Err-clause-slot g c = c.in-Err.ensures.slot

pub returns-in-Err-clause-store : goal.returns-in-Err-clause-store
returns-in-Err-clause-store g c = c.in-Err.ensures.store

pub returns-in-Err-clause-same : goal.returns-in-Err-clause-same
returns-in-Err-clause-same g c = stays_as c.args.item.now c.stage_whole.new.item c.in-Err.ensures.same refl
