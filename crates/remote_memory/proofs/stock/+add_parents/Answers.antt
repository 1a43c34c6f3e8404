use Rattle.std.proofs.Common.{refl, sym, subst, length, eqb-true, IfSome}
use Rattle.vfs_names.specs.Path.{IsParent}
use Rattle.remote_memory.specs.Nodes.{AddsAbove}
use Rattle.remote_memory.specs.declared.node.Kept.TheVariants as kept
use Rattle.remote_memory.specs.declared.node.Node.{Node}
use Rattle.remote_memory.proofs.Beneath.{above_first, above_next, adds_no_parent, adds_parent, not_zero}
use Rattle.remote_memory.proofs.Choices.{ok_moves}
use Rattle.remote_memory.proofs.stock.+add_parents.Goals as goal

pub returns-then-is_root : goal.returns-then-is_root
returns-then-is_root t c = adds_no_parent c.args.path.now c.args.nodes.now.items
    (λ q n. above_first q c.in-Some.parent c.args.path.now (subst (λ f. IfSome f (λ p. IsParent p c.args.path.now)) c.in-Some.is c.in-Ok.ensures.parent)
    (eqb-true (length c.in-Some.parent) 0 (sym c.if-is_root.ensures)) n)

pub returns : goal.returns
returns t c =
    let node : Node = record { path = c.in-Ok-copy.copy; kept = kept.Dir } in
    ok_moves c.add_parents.result
    (λ a. adds_parent c.args.path.now c.in-Some.parent c.args.nodes.now.items c.add_parents.new.nodes.items node
    (λ q. above_next q c.in-Some.parent c.args.path.now (subst (λ f. IfSome f (λ p. IsParent p c.args.path.now)) c.in-Some.is c.in-Ok.ensures.parent)
    (not_zero (length c.in-Some.parent) c.if-is_root.ensures))
    c.in-Ok-copy.ensures refl
    (subst (λ l. AddsAbove c.in-Some.parent l c.add_parents.new.nodes.items) c.in-Ok-push.ensures.items a))
    c.add_parents.ensures
