use Rattle.std.proofs.Common.{◌≡◌, ◌∙◌, sym, subst, arith}
use Rattle.std.specs.List.{AllByRecursion}
use Rattle.sparse_item.specs.Item.{Item}
use Rattle.one_session.specs.Queued.{IsQueued, owed_item}
use Rattle.one_session.proofs.files.Files.reserve_file.Goals as goal

pub invariant_of-self : goal.invariant_of-self
invariant_of-self g c = (
  c.self.invariant.0,
  omega (arith, c.reserve.ensures.len, c.self.invariant.1),
  subst (λ l. AllByRecursion (λ (item : Item). item.log.limit ≡ c.self.inside.limit) l) (sym c.reserve.ensures.items) c.self.invariant.2,
  subst (λ l. IsQueued c.self.inside.queue.terms (owed_item l) c.self.inside.queue.entries) (sym c.reserve.ensures.items) c.self.invariant.3,
  c.self.invariant.4,
)

pub invariant_of-self-2 : goal.invariant_of-self-2
invariant_of-self-2 g c = (
  c.reserve-2.ensures.items ∙ c.self.invariant.0,
  omega (arith, c.reserve.ensures.len, c.self.invariant.1, c.reserve-2.ensures.capacity),
  subst (λ l. AllByRecursion (λ (item : Item). item.log.limit ≡ c.self.inside.limit) l) (sym c.reserve.ensures.items) c.self.invariant.2,
  subst (λ l. IsQueued c.self.inside.queue.terms (owed_item l) c.self.inside.queue.entries) (sym c.reserve.ensures.items) c.self.invariant.3,
  c.self.invariant.4,
)
