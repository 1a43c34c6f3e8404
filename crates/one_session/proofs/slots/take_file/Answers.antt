use Rattle.std.proofs.Common.{◌∙◌, ap, sym, arith}
use Rattle.vfs_outside.specs.Image.{meta_in}
use Rattle.vfs_outside.specs.Slot.{image}
use Rattle.one_session.specs.Slots.{IsUnused}
use Rattle.one_session.proofs.slots.take_file.Goals as goal

pub fresh-requires-clause-blank : goal.fresh-requires-clause-blank
fresh-requires-clause-blank g c = λ t. let told = g.met.D.CacheDisk.told_by_files t in
    ap (λ x. meta_in (image x)) (c.in-Ok.ensures.told told).same ∙ c.requires.lends.blank told c.args.n (omega arith)

pub returns-in-Ok-clause-unused : goal.returns-in-Ok-clause-unused
returns-in-Ok-clause-unused g c = record {
  slot = ap (λ x. x.slot_id.0) c.fresh.ensures;
  past = ap (λ x. x.log.past) c.fresh.ensures;
  places = ap (λ x. x.log.limit) c.fresh.ensures;
  names = ap (λ x. x.names) c.fresh.ensures;
  pairs = ap (λ x. x.pairs) c.fresh.ensures;
  faults = ap (λ x. x.slot.faults) c.fresh.ensures ∙ c.in-Ok.ensures.counts.faults;
  blank = λ t. let told = g.met.D.CacheDisk.told_by_files t in
      ap (λ x. meta_in x.slot.told.first) c.fresh.ensures ∙ ap (λ x. meta_in x.first) (c.in-Ok.ensures.told told).same ∙ c.requires.lends.blank told c.args.n (omega arith);
  fresh = ap (λ x. x.saved) c.fresh.ensures;
}
