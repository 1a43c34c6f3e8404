use Rattle.std.proofs.Common.{◌≡◌, ◌≤◌, ◌^◌, [], arith, subst, sym}
use Rattle.std.specs.List.{AllByRecursion}
use Rattle.sparse_item.specs.Item.{Item}
use Rattle.writeback_queue.specs.declared.entry.QueueTerms.{QueueTerms}
use Rattle.one_session.proofs.Queued.{none_queued}
use Rattle.one_session.proofs.files.Files.new.Goals as goal

pub invariant_of-result : goal.invariant_of-result
invariant_of-result g c = (
  c.new-2.ensures.items,
  omega (arith, c.new.ensures.len),
  subst (λ l. AllByRecursion (λ (item : Item). item.log.limit ≡ c.args.limit) l) (sym c.new.ensures.items) tt,
  none_queued _ _ _ c.new.ensures.items c.new-3.ensures.entries,
  subst (λ (t : QueueTerms). t.write_back ≤ 2 ^ 62) (sym c.new-3.ensures.terms) c.requires.small,
)
