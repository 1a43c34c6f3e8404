use Rattle.std.proofs.Common.{◌∙◌, Some, List, ap, refl, sym, inr, subst}
use Rattle.byte_ranges.specs.Ranges.{has}
use Rattle.vfs_names.specs.declared.fingerprint.Fingerprint.{Fingerprint}
use Rattle.item_core.specs.declared.entry.Entry.{Entry}
use Rattle.item_core.specs.History.{base_end_of, held_by, is_dirty, is_owed, size_of}
use Rattle.item_core.specs.Legal.{EndsUpload}
use Rattle.item_core.specs.Log.{Log}
use Rattle.item_upload.specs.Whole.{IsDropCause}
use Rattle.item_upload.proofs.Carrying.{all_here_as, handed_still, stays_on}
use Rattle.item_upload.proofs.Entering.{commits_started, dropped_full, droppable, enters_dropped, enters_saved, handed_dropped, hands_started, leaves_dropped, owed_dirty, saved_full, started, started_current, started_earlier, started_open, stays_noted, still_open, unbegun_full, uploads_started, whole_started}
use Rattle.item_upload.proofs.Stopping.{cause_before, store_same, supplied_after}
use Rattle.sparse_item.specs.Item.{IsSupplied, Item}
use Rattle.sparse_item.specs.Moves.{GoesOn}
use Rattle.sparse_item.specs.Uploading.{Uploading}
use Rattle.sparse_item.proofs.Moved.{goes_nowhere}
use Rattle.item_upload.proofs.whole.upload.Goals as goal

pub carry_out-requires-clause-current : goal.carry_out-requires-clause-current
carry_out-requires-clause-current g c = started_current c.args.by c.args.item.now c.start.new.item c.in-Ok.upload c.requires.owed (started c.args.by c.args.item.now c.start.new.item c.in-Ok.ensures.same c.in-Ok.ensures.ok) c.in-Ok.ensures.upload

pub carry_out-requires-clause-pass : goal.carry_out-requires-clause-pass
carry_out-requires-clause-pass g c = started_open c.args.by c.args.item.now c.start.new.item c.in-Ok.upload (started c.args.by c.args.item.now c.start.new.item c.in-Ok.ensures.same c.in-Ok.ensures.ok) c.in-Ok.ensures.upload

pub give_up-requires-clause-open : goal.give_up-requires-clause-open
give_up-requires-clause-open g c = still_open c.start.new.item.log.past c.carry_out.new.item.log.past c.args.by.pass c.in-Ok.upload c.carry_out.new.upload (Some c.in-Err-carry_out.why) (ap (λ (l : Log). l.past) c.in-Err-carry_out.ensures.err) c.in-Err-carry_out.ensures.why (started_open c.args.by c.args.item.now c.start.new.item c.in-Ok.upload (started c.args.by c.args.item.now c.start.new.item c.in-Ok.ensures.same c.in-Ok.ensures.ok) c.in-Ok.ensures.upload)

pub give_up-requires-clause-cause : goal.give_up-requires-clause-cause
give_up-requires-clause-cause g c = droppable c.start.new.item.log.past c.carry_out.new.item.log.past c.in-Ok.upload c.carry_out.new.upload c.in-Err-carry_out.why (ap (λ (l : Log). l.past) c.in-Err-carry_out.ensures.err) c.in-Err-carry_out.ensures.why c.in-Err-carry_out.ensures.ends

pub returns-in-Ok-carry_out-clause-past : goal.returns-in-Ok-carry_out-clause-past
returns-in-Ok-carry_out-clause-past g c = enters_saved c.args.by c.args.item.now c.start.new.item c.carry_out.new.item c.in-Ok.upload c.in-Ok-carry_out.print (started c.args.by c.args.item.now c.start.new.item c.in-Ok.ensures.same c.in-Ok.ensures.ok) c.in-Ok.ensures.upload c.in-Ok-carry_out.ensures.done

pub returns-in-Ok-carry_out-clause-dirty : goal.returns-in-Ok-carry_out-clause-dirty
returns-in-Ok-carry_out-clause-dirty g c = ap is_dirty (enters_saved c.args.by c.args.item.now c.start.new.item c.carry_out.new.item c.in-Ok.upload c.in-Ok-carry_out.print (started c.args.by c.args.item.now c.start.new.item c.in-Ok.ensures.same c.in-Ok.ensures.ok) c.in-Ok.ensures.upload c.in-Ok-carry_out.ensures.done)

pub returns-in-Ok-carry_out-clause-owed : goal.returns-in-Ok-carry_out-clause-owed
returns-in-Ok-carry_out-clause-owed g c = ap is_owed (enters_saved c.args.by c.args.item.now c.start.new.item c.carry_out.new.item c.in-Ok.upload c.in-Ok-carry_out.print (started c.args.by c.args.item.now c.start.new.item c.in-Ok.ensures.same c.in-Ok.ensures.ok) c.in-Ok.ensures.upload c.in-Ok-carry_out.ensures.done)

pub returns-in-Ok-carry_out-clause-uploads : goal.returns-in-Ok-carry_out-clause-uploads
returns-in-Ok-carry_out-clause-uploads g c = uploads_started c.args.by c.args.item.now c.start.new.item (g.R.Remote.outside c.args.remote.now) (g.R.Remote.outside c.carry_out.new.remote) c.in-Ok-carry_out.print c.in-Ok.ensures.same (started c.args.by c.args.item.now c.start.new.item c.in-Ok.ensures.same c.in-Ok.ensures.ok) c.in-Ok-carry_out.ensures.uploads

pub returns-in-Ok-carry_out-clause-got : goal.returns-in-Ok-carry_out-clause-got
returns-in-Ok-carry_out-clause-got g c = all_here_as c.carry_out.new.item.here c.carry_out.new.item.here (size_of c.start.new.item.log.past) (size_of c.args.item.now.log.past) refl (sym (ap size_of (started c.args.by c.args.item.now c.start.new.item c.in-Ok.ensures.same c.in-Ok.ensures.ok))) c.in-Ok-carry_out.ensures.got

pub returns-in-Ok-carry_out-clause-full : goal.returns-in-Ok-carry_out-clause-full
returns-in-Ok-carry_out-clause-full g c = saved_full _ _ c.start.result c.in-Ok.upload c.in-Ok-carry_out.print c.in-Ok.is c.start.ensures.full

pub returns-in-Ok-carry_out-clause-whole : goal.returns-in-Ok-carry_out-clause-whole
returns-in-Ok-carry_out-clause-whole g c t s is = whole_started c.args.by g.R.Object.Object.tells c.args.item.now c.start.new.item c.carry_out.new.item (g.R.Remote.outside c.args.remote.now) (g.R.Remote.outside c.carry_out.new.remote) c.in-Ok.ensures.same (started c.args.by c.args.item.now c.start.new.item c.in-Ok.ensures.same c.in-Ok.ensures.ok) (c.in-Ok-carry_out.ensures.whole t s) is

pub returns-in-Ok-carry_out-clause-base : goal.returns-in-Ok-carry_out-clause-base
returns-in-Ok-carry_out-clause-base g c = c.in-Ok-carry_out.ensures.base

pub returns-in-Ok-carry_out-clause-supplied : goal.returns-in-Ok-carry_out-clause-supplied
returns-in-Ok-carry_out-clause-supplied g c = inr (all_here_as c.carry_out.new.item.here c.carry_out.new.item.here (size_of c.start.new.item.log.past) (base_end_of c.carry_out.new.item.log.past) refl (ap base_end_of c.in-Ok-carry_out.ensures.done) c.in-Ok-carry_out.ensures.got)

pub returns-in-Ok-carry_out-clause-here : goal.returns-in-Ok-carry_out-clause-here
returns-in-Ok-carry_out-clause-here g c p h = c.in-Ok-carry_out.ensures.here p (ap (λ (v : Item). has v.here p) c.in-Ok.ensures.same ∙ h)

pub returns-in-Ok-carry_out-clause-limit : goal.returns-in-Ok-carry_out-clause-limit
returns-in-Ok-carry_out-clause-limit g c = c.in-Ok-carry_out.ensures.limit ∙ c.in-Ok.ensures.limit

pub returns-in-Ok-carry_out-clause-slot : goal.returns-in-Ok-carry_out-clause-slot
returns-in-Ok-carry_out-clause-slot g c = subst (λ (v : Item). GoesOn g.F.CacheFile.tells v.slot c.carry_out.new.item.slot) c.in-Ok.ensures.same c.in-Ok-carry_out.ensures.slot

pub returns-in-Ok-carry_out-clause-store : goal.returns-in-Ok-carry_out-clause-store
returns-in-Ok-carry_out-clause-store g c = c.in-Ok-carry_out.ensures.store

pub returns-in-Ok-carry_out-clause-same : goal.returns-in-Ok-carry_out-clause-same
returns-in-Ok-carry_out-clause-same g c = stays_on c.args.item.now c.start.new.item c.carry_out.new.item (stays_noted c.args.item.now c.start.new.item c.in-Ok.ensures.same) c.in-Ok-carry_out.ensures.same

pub returns-in-Err-carry_out-clause-past : goal.returns-in-Err-carry_out-clause-past
returns-in-Err-carry_out-clause-past g c =
    enters_dropped c.args.by c.args.item.now c.carry_out.new.item c.give_up.new.item c.carry_out.new.upload c.in-Err-carry_out.why c.requires.owed (ap (λ (l : Log). l.past) c.in-Err-carry_out.ensures.err ∙ (started c.args.by c.args.item.now c.start.new.item c.in-Ok.ensures.same c.in-Ok.ensures.ok))
    (c.in-Err-carry_out.ensures.why ∙ ap (λ (u : Uploading). record u { why = Some c.in-Err-carry_out.why }) c.in-Ok.ensures.upload) c.give_up.ensures.past

pub returns-in-Err-carry_out-clause-dirty : goal.returns-in-Err-carry_out-clause-dirty
returns-in-Err-carry_out-clause-dirty g c =
    ap is_dirty (enters_dropped c.args.by c.args.item.now c.carry_out.new.item c.give_up.new.item c.carry_out.new.upload c.in-Err-carry_out.why c.requires.owed (ap (λ (l : Log). l.past) c.in-Err-carry_out.ensures.err ∙ (started c.args.by c.args.item.now c.start.new.item c.in-Ok.ensures.same c.in-Ok.ensures.ok))
    (c.in-Err-carry_out.ensures.why ∙ ap (λ (u : Uploading). record u { why = Some c.in-Err-carry_out.why }) c.in-Ok.ensures.upload) c.give_up.ensures.past)
    ∙ owed_dirty c.args.item.now.log.past c.requires.owed

pub returns-in-Err-carry_out-clause-owed : goal.returns-in-Err-carry_out-clause-owed
returns-in-Err-carry_out-clause-owed g c =
    ap is_owed (enters_dropped c.args.by c.args.item.now c.carry_out.new.item c.give_up.new.item c.carry_out.new.upload c.in-Err-carry_out.why c.requires.owed (ap (λ (l : Log). l.past) c.in-Err-carry_out.ensures.err ∙ (started c.args.by c.args.item.now c.start.new.item c.in-Ok.ensures.same c.in-Ok.ensures.ok))
    (c.in-Err-carry_out.ensures.why ∙ ap (λ (u : Uploading). record u { why = Some c.in-Err-carry_out.why }) c.in-Ok.ensures.upload) c.give_up.ensures.past)
    ∙ c.requires.owed

pub returns-in-Err-carry_out-clause-unsaved : goal.returns-in-Err-carry_out-clause-unsaved
returns-in-Err-carry_out-clause-unsaved g c s = commits_started c.args.by c.args.item.now c.start.new.item (g.R.Remote.outside c.args.remote.now) (g.R.Remote.outside c.carry_out.new.remote) c.in-Ok.ensures.same (started c.args.by c.args.item.now c.start.new.item c.in-Ok.ensures.same c.in-Ok.ensures.ok) (c.in-Err-carry_out.ensures.unsaved s)

pub returns-in-Err-carry_out-clause-may_hand : goal.returns-in-Err-carry_out-clause-may_hand
returns-in-Err-carry_out-clause-may_hand g c = hands_started c.args.by c.args.item.now c.start.new.item (g.R.Remote.outside c.args.remote.now) (g.R.Remote.outside c.carry_out.new.remote) c.in-Ok.ensures.same (started c.args.by c.args.item.now c.start.new.item c.in-Ok.ensures.same c.in-Ok.ensures.ok) c.in-Err-carry_out.ensures.may_hand

pub returns-in-Err-carry_out-clause-ends : goal.returns-in-Err-carry_out-clause-ends
returns-in-Err-carry_out-clause-ends g c = subst (λ (xs : List Entry). EndsUpload (held_by xs) c.in-Err-carry_out.why) (started c.args.by c.args.item.now c.start.new.item c.in-Ok.ensures.same c.in-Ok.ensures.ok) c.in-Err-carry_out.ensures.ends

pub returns-in-Err-carry_out-clause-full : goal.returns-in-Err-carry_out-clause-full
returns-in-Err-carry_out-clause-full g c = dropped_full _ _ c.start.result c.in-Ok.upload c.in-Err-carry_out.why c.in-Ok.is c.start.ensures.full

pub returns-in-Err-carry_out-clause-causes : goal.returns-in-Err-carry_out-clause-causes
returns-in-Err-carry_out-clause-causes g c =
    subst (λ (v : Item). IsDropCause c.args.item.now v (g.R.Remote.outside c.args.remote.now) (g.R.Remote.outside c.carry_out.new.remote) c.in-Err-carry_out.why) (sym c.give_up.ensures.same)
    (cause_before c.args.item.now c.start.new.item c.carry_out.new.item (g.R.Remote.outside c.args.remote.now) (g.R.Remote.outside c.args.remote.now) (g.R.Remote.outside c.carry_out.new.remote) c.in-Err-carry_out.why (started_earlier c.args.by c.args.item.now c.start.new.item c.in-Ok.ensures.same (started c.args.by c.args.item.now c.start.new.item c.in-Ok.ensures.same c.in-Ok.ensures.ok)) (store_same (g.R.Remote.outside c.args.remote.now)) c.in-Err-carry_out.ensures.causes)

pub returns-in-Err-carry_out-clause-whole : goal.returns-in-Err-carry_out-clause-whole
returns-in-Err-carry_out-clause-whole g c t s is =
    whole_started c.args.by g.R.Object.Object.tells c.args.item.now c.start.new.item c.give_up.new.item (g.R.Remote.outside c.args.remote.now) (g.R.Remote.outside c.carry_out.new.remote) c.in-Ok.ensures.same (started c.args.by c.args.item.now c.start.new.item c.in-Ok.ensures.same c.in-Ok.ensures.ok)
    (λ before. handed_dropped c.args.by g.R.Object.Object.tells c.start.new.item.slot.told.first c.carry_out.new.item c.give_up.new.item (g.R.Remote.outside c.carry_out.new.remote) c.carry_out.new.upload c.give_up.ensures.same c.give_up.ensures.past (c.in-Err-carry_out.ensures.whole t s before)) is

pub returns-in-Err-carry_out-clause-base : goal.returns-in-Err-carry_out-clause-base
returns-in-Err-carry_out-clause-base g c = leaves_dropped c.args.item.now.base c.start.new.item.base c.carry_out.new.item.base c.give_up.new.item.base c.in-Err-carry_out.why (ap (λ (v : Item). v.base) c.in-Ok.ensures.same) (ap (λ (v : Item). v.base) c.give_up.ensures.same) c.in-Err-carry_out.ensures.object c.in-Err-carry_out.ensures.state

pub returns-in-Err-carry_out-clause-supplied : goal.returns-in-Err-carry_out-clause-supplied
returns-in-Err-carry_out-clause-supplied g c =
    let base = leaves_dropped c.args.item.now.base c.start.new.item.base c.carry_out.new.item.base c.give_up.new.item.base c.in-Err-carry_out.why (ap (λ (v : Item). v.base) c.in-Ok.ensures.same) (ap (λ (v : Item). v.base) c.give_up.ensures.same) c.in-Err-carry_out.ensures.object c.in-Err-carry_out.ensures.state in
    let past = enters_dropped c.args.by c.args.item.now c.carry_out.new.item c.give_up.new.item c.carry_out.new.upload c.in-Err-carry_out.why c.requires.owed (ap (λ (l : Log). l.past) c.in-Err-carry_out.ensures.err ∙ (started c.args.by c.args.item.now c.start.new.item c.in-Ok.ensures.same c.in-Ok.ensures.ok))
    (c.in-Err-carry_out.ensures.why ∙ ap (λ (u : Uploading). record u { why = Some c.in-Err-carry_out.why }) c.in-Ok.ensures.upload) c.give_up.ensures.past in
    supplied_after Fingerprint c.args.item.now.base.state c.give_up.new.item.base.state c.args.item.now.here c.give_up.new.item.here (base_end_of c.args.item.now.log.past) (base_end_of c.give_up.new.item.log.past) c.in-Err-carry_out.why base.1
    (λ p h. ap (λ (v : Item). has v.here p) c.give_up.ensures.same ∙ c.in-Err-carry_out.ensures.here p (ap (λ (v : Item). has v.here p) c.in-Ok.ensures.same ∙ h)) (ap base_end_of past) c.requires.supplied

pub returns-in-Err-carry_out-clause-here : goal.returns-in-Err-carry_out-clause-here
returns-in-Err-carry_out-clause-here g c p h = ap (λ (v : Item). has v.here p) c.give_up.ensures.same ∙ c.in-Err-carry_out.ensures.here p (ap (λ (v : Item). has v.here p) c.in-Ok.ensures.same ∙ h)

pub returns-in-Err-carry_out-clause-limit : goal.returns-in-Err-carry_out-clause-limit
returns-in-Err-carry_out-clause-limit g c = c.give_up.ensures.limit ∙ c.in-Err-carry_out.ensures.limit ∙ c.in-Ok.ensures.limit

pub returns-in-Err-carry_out-clause-slot : goal.returns-in-Err-carry_out-clause-slot
returns-in-Err-carry_out-clause-slot g c = subst (λ (v : Item). GoesOn g.F.CacheFile.tells c.args.item.now.slot v.slot) (sym c.give_up.ensures.same) (subst (λ (v : Item). GoesOn g.F.CacheFile.tells v.slot c.carry_out.new.item.slot) c.in-Ok.ensures.same c.in-Err-carry_out.ensures.slot)

pub returns-in-Err-carry_out-clause-store : goal.returns-in-Err-carry_out-clause-store
returns-in-Err-carry_out-clause-store g c = c.in-Err-carry_out.ensures.store

pub returns-in-Err-carry_out-clause-same : goal.returns-in-Err-carry_out-clause-same
returns-in-Err-carry_out-clause-same g c = stays_on c.args.item.now c.carry_out.new.item c.give_up.new.item (stays_on c.args.item.now c.start.new.item c.carry_out.new.item (stays_noted c.args.item.now c.start.new.item c.in-Ok.ensures.same) c.in-Err-carry_out.ensures.same) (stays_noted c.carry_out.new.item c.give_up.new.item c.give_up.ensures.same)

pub returns-in-Err-clause-past : goal.returns-in-Err-clause-past
returns-in-Err-clause-past g c = c.in-Err.ensures.err

pub returns-in-Err-clause-dirty : goal.returns-in-Err-clause-dirty
returns-in-Err-clause-dirty g c = ap is_dirty c.in-Err.ensures.err ∙ owed_dirty c.args.item.now.log.past c.requires.owed

pub returns-in-Err-clause-owed : goal.returns-in-Err-clause-owed
returns-in-Err-clause-owed g c = ap is_owed c.in-Err.ensures.err ∙ c.requires.owed

pub returns-in-Err-clause-untouched : goal.returns-in-Err-clause-untouched
returns-in-Err-clause-untouched g c = c.in-Err.ensures.same

pub returns-in-Err-clause-uncalled : goal.returns-in-Err-clause-uncalled
returns-in-Err-clause-uncalled g c = refl

pub returns-in-Err-clause-full : goal.returns-in-Err-clause-full
returns-in-Err-clause-full g c = unbegun_full _ _ c.start.result c.in-Err.why c.in-Err.is c.start.ensures.full

pub returns-in-Err-clause-causes : goal.returns-in-Err-clause-causes
returns-in-Err-clause-causes g c = c.in-Err.ensures.causes

pub returns-in-Err-clause-whole : goal.returns-in-Err-clause-whole
returns-in-Err-clause-whole g c t s is = handed_still g.R.Object.Object.tells c.args.item.now c.start.new.item (g.R.Remote.outside c.args.remote.now) (g.R.Remote.outside c.args.remote.now) c.in-Err.ensures.err (ap (λ (v : Item). v.pairs) c.in-Err.ensures.same) refl is

pub returns-in-Err-clause-base : goal.returns-in-Err-clause-base
returns-in-Err-clause-base g c = ap (λ (v : Item). v.base) c.in-Err.ensures.same

pub returns-in-Err-clause-supplied : goal.returns-in-Err-clause-supplied
returns-in-Err-clause-supplied g c =
    subst (λ (v : Item). IsSupplied v.base.state v.here (base_end_of c.start.new.item.log.past)) (sym c.in-Err.ensures.same)
    (subst (λ (xs : List Entry). IsSupplied c.args.item.now.base.state c.args.item.now.here (base_end_of xs)) (sym c.in-Err.ensures.err) c.requires.supplied)

pub returns-in-Err-clause-here : goal.returns-in-Err-clause-here
returns-in-Err-clause-here g c p h = ap (λ (v : Item). has v.here p) c.in-Err.ensures.same ∙ h

pub returns-in-Err-clause-limit : goal.returns-in-Err-clause-limit
returns-in-Err-clause-limit g c = c.in-Err.ensures.limit

pub returns-in-Err-clause-slot : goal.returns-in-Err-clause-slot
returns-in-Err-clause-slot g c = subst (λ (v : Item). GoesOn g.F.CacheFile.tells c.args.item.now.slot v.slot) (sym c.in-Err.ensures.same) (goes_nowhere c.args.item.now.slot)

pub returns-in-Err-clause-store : goal.returns-in-Err-clause-store
returns-in-Err-clause-store g c = store_same (g.R.Remote.outside c.args.remote.now)

pub returns-in-Err-clause-same : goal.returns-in-Err-clause-same
returns-in-Err-clause-same g c = stays_noted c.args.item.now c.start.new.item c.in-Err.ensures.same
