use Rattle.std.proofs.Common.{rules, not}
use Rattle.std.proofs.lemmas.Fn.{filter_same}
use Rattle.remote_memory.specs.Nodes.{gives_way}
use Rattle.remote_memory.specs.declared.node.Node.{Node}
use Rattle.remote_memory.proofs.stock.clear_way.Goals as goal

pub returns-clause-items : goal.returns-clause-items
returns-clause-items c = filter_same _ (λ (n : Node). not (gives_way c.args.path.now n.path)) _ (λ x b f r. search rules) _ _ c.retain.ensures.filtered
