use Rattle.std.proofs.Common.{◌+◌, get_or, sym, ◌∙◌, arith}
use Rattle.cleaner.proofs.Order.{sorted_is, before_is}
use Rattle.cleaner.proofs.turn.order.Goals as goal

pub returns-in-Ok : goal.returns-in-Ok
returns-in-Ok c =
    let items = c.sort.new.self.items in
    sorted_is _ _ c.in-Ok.ensures.permutation
    (λ k d inside. sym (before_is (get_or items (k + 1) d) (get_or items k d)) ∙ c.in-Ok.ensures.sorted k d (omega arith) inside)
