use Rattle.std.proofs.Common.{◌∙◌, ap, inl, subst, sym}
use Rattle.item_meta.specs.declared.meta.Meta.{Meta}
use Rattle.base_object.specs.Base.{IsBase}
use Rattle.sparse_item.proofs.Putting.{run_lacks}
use Rattle.sparse_item.proofs.Steps.{moved_sound}
use Rattle.sparse_item.proofs.fetch.prepare.Goals as goal

pub returns-in-Some-clause-causes : goal.returns-in-Some-clause-causes
returns-in-Some-clause-causes g c =
    let lost = sym c.state.ensures.state ∙ c.in-Lost.is in
    let facts = subst (λ z. IsBase z c.args.base.now.object c.args.base.now.crew) lost c.state.ensures.facts in
    (run_lacks c.args.meta.now.ranges c.args.part c.in-Some._missing c.in-Some.ensures.first, facts.2, inl lost)

pub returns-in-Ok-clause-stands : goal.returns-in-Ok-clause-stands
returns-in-Ok-clause-stands g c past names saved pairs atime b = moved_sound b c.in-Ok.ensures.moves (ap (λ (x : Meta). x.ranges) c.in-Ok.ensures.same)

pub returns-in-Err-clause-stands : goal.returns-in-Err-clause-stands
returns-in-Err-clause-stands g c past names saved pairs atime b = moved_sound b c.in-Err.ensures.moves (ap (λ (x : Meta). x.ranges) c.in-Err.ensures.same)
