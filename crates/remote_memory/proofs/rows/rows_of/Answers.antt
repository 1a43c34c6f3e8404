use Rattle.std.proofs.Common.{◌≡◌, ◌<◌, ◌+◌, ◌∙◌, ◌++◌, ap, sym, subst, arith, length, take, [], ◌∷◌}
use Rattle.std.proofs.lemmas.List.{take_more}
use Rattle.remote_memory.specs.Nodes.{ListsDir}
use Rattle.remote_memory.specs.declared.node.Node.{Node}
use Rattle.remote_memory.proofs.Listed.{lists_none}
use Rattle.remote_memory.proofs.rows.rows_of.Goals as goal

pub loop-node-init : goal.loop-node-init
loop-node-init c = subst (ListsDir c.args.dir.now []) (sym c.new-rows.ensures.items) (lists_none c.args.dir.now)

pub loop-node-preserved : goal.loop-node-preserved
loop-node-preserved c =
    let i = c.loop-node.node-index in
    let nodes = c.args.nodes.now in
    let inside : c.loop-node.node-index < length c.args.nodes.now = omega arith in
    let one : take (i + 1) nodes ≡ take i nodes ++ c.node-item.result ∷ [] = take_more nodes i c.node-item.result inside ∙ ap (λ (x : Node). take i nodes ++ x ∷ []) (sym c.node-item.is) in
    subst (λ l. ListsDir c.args.dir.now l c.add_node.new.rows.items) (sym one) (c.in-Ok.ensures (take i nodes) c.loop-node.invariant)
