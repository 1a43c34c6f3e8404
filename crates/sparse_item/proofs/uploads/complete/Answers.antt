use Rattle.std.proofs.Common.{◌≡◌, ◌∙◌, ◌||◌, Bool, arith, refl, ap, inl}
use Rattle.byte_ranges.specs.Ranges.{is_in}
use Rattle.item_meta.specs.declared.meta.Meta.{Meta}
use Rattle.base_object.proofs.WholeRead.{later_same}
use Rattle.sparse_item.specs.Fetching.{Lacks}
use Rattle.sparse_item.proofs.Blanked.{adds_all, adds_gap, filled_sound}
use Rattle.sparse_item.proofs.Moved.{goes_further}
use Rattle.sparse_item.proofs.Nexts.{front_all}
use Rattle.sparse_item.proofs.Pulled.{beside_sound, cause_from, disk_cause}
use Rattle.sparse_item.proofs.uploads.complete.Goals as goal

pub returns-in-Ok-blank-clause-stands : goal.returns-in-Ok-blank-clause-stands
returns-in-Ok-blank-clause-stands g c past names saved pairs atime b =
    filled_sound c.args.gap (c.in-Ok.ensures.stands past names saved pairs atime b) c.in-Ok.ensures.settled
    (let e : c.ready.new.meta.base_end ≡ c.args.meta.now.base_end = ap (λ (m : Meta). m.base_end) c.in-Ok.ensures.same in omega (arith, e, c.requires.past)) c.in-Ok-blank.ensures.ok

pub returns-in-Ok-blank-clause-all : goal.returns-in-Ok-blank-clause-all
returns-in-Ok-blank-clause-all g c asks all p = c.in-Ok-blank.ensures.here p ∙ ap (λ (b : Bool). b || is_in c.args.gap p) (c.in-Ok.ensures.all asks all p)

pub returns-in-Ok-blank-clause-got : goal.returns-in-Ok-blank-clause-got
returns-in-Ok-blank-clause-got g c p i lt = adds_all _ _ c.args.gap c.in-Ok-blank.ensures.here p (c.in-Ok.ensures.got p i lt)

pub returns-in-Ok-blank-clause-filled : goal.returns-in-Ok-blank-clause-filled
returns-in-Ok-blank-clause-filled g c = adds_gap _ _ c.args.gap c.in-Ok-blank.ensures.here

pub returns-in-Ok-blank-clause-here : goal.returns-in-Ok-blank-clause-here
returns-in-Ok-blank-clause-here g c p h = adds_all _ _ c.args.gap c.in-Ok-blank.ensures.here p (c.in-Ok.ensures.here p h)

pub returns-in-Ok-blank-clause-goes : goal.returns-in-Ok-blank-clause-goes
returns-in-Ok-blank-clause-goes g c = goes_further c.in-Ok.ensures.goes c.in-Ok-blank.ensures.goes

pub returns-in-Err-blank-clause-stands : goal.returns-in-Err-blank-clause-stands
returns-in-Err-blank-clause-stands g c past names saved pairs atime b =
    beside_sound (c.in-Ok.ensures.stands past names saved pairs atime b) c.in-Err-blank.ensures.beside c.in-Err-blank.ensures.kept (later_same c.ready.new.base.object) (inl refl)

pub returns-in-Err-blank-clause-asks : goal.returns-in-Err-blank-clause-asks
returns-in-Err-blank-clause-asks g c asks all = front_all asks _ _ (c.in-Ok.ensures.asks asks all)

pub returns-in-Err-blank-clause-goes : goal.returns-in-Err-blank-clause-goes
returns-in-Err-blank-clause-goes g c = goes_further c.in-Ok.ensures.goes c.in-Err-blank.ensures.goes

pub returns-in-Err-blank-clause-causes : goal.returns-in-Err-blank-clause-causes
returns-in-Err-blank-clause-causes g c =
    let old = c.args.base.now in
    let mid = c.ready.new.base in
    let lacks = Lacks c.args.meta.now.ranges c.args.part in
    cause_from old mid mid c.args.slot.now c.ready.new.slot c.blank.new.slot c.refusal.result
    (disk_cause lacks mid mid c.ready.new.slot c.blank.new.slot c.in-Err-blank.why c.refusal.result c.blank.result c.in-Err-blank.is c.refusal.ensures c.blank.ensures.fault)
    (λ l. l) c.in-Ok.ensures.state c.in-Ok.ensures.object c.in-Ok.ensures.goes.faults
