use Rattle.std.proofs.Common.{◌∙◌, List, refl, sym, ap}
use Rattle.byte_ranges.specs.Ranges.{has}
use Rattle.downloaders.specs.declared.Ask.{Ask}
use Rattle.downloaders.specs.Orders.{here_in_the_end}
use Rattle.item_meta.specs.declared.meta.Meta.{Meta}
use Rattle.sparse_item.proofs.Nexts.{reads_none}
use Rattle.sparse_item.proofs.Refusals.{no_part}
use Rattle.sparse_item.proofs.Steps.{moved_sound}
use Rattle.sparse_item.proofs.read.ready.Goals as goal

pub returns-in-Ok-clause-stands : goal.returns-in-Ok-clause-stands
returns-in-Ok-clause-stands g c past names saved pairs atime b = moved_sound b c.in-Ok.ensures.moves (ap (λ (m : Meta). m.ranges) c.in-Ok.ensures.same)

pub returns-in-Ok-clause-asks : goal.returns-in-Ok-clause-asks
returns-in-Ok-clause-asks g c asks all = reads_none asks _ _
    (no_part c.args.plan.now c.args.part c.args.meta.now.base_end (λ p. has c.args.meta.now.ranges p) c.args.base.now.crew asks c.if-part.false all) refl

pub returns-in-Ok-clause-all : goal.returns-in-Ok-clause-all
returns-in-Ok-clause-all g c asks all p =
    let none = no_part c.args.plan.now c.args.part c.args.meta.now.base_end (λ p. has c.args.meta.now.ranges p) c.args.base.now.crew asks c.if-part.false all in
    ap (λ (m : Meta). has m.ranges p) c.in-Ok.ensures.same
    ∙ sym (ap (λ (xs : List Ask). here_in_the_end xs c.args.meta.now.base_end (λ q. has c.args.meta.now.ranges q) p) none)

pub returns-in-Err-clause-stands : goal.returns-in-Err-clause-stands
returns-in-Err-clause-stands g c past names saved pairs atime b = moved_sound b c.in-Err.ensures.moves (ap (λ (m : Meta). m.ranges) c.in-Err.ensures.same)
