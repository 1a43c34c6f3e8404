use Rattle.std.proofs.Common.{◌++◌, ◌∙◌, ap, ◌∷◌, []}
use Rattle.remote_memory.proofs.Puts.{node_stands}
use Rattle.remote_memory.proofs.node.put_node.Goals as goal

pub returns : goal.returns
returns c = node_stands c.args.nodes.now.items c.push_reserved.new.self.items c.args.node c.requires.path
    (c.push_reserved.ensures.items ∙ ap (λ l. l ++ c.args.node ∷ []) c.take_path.ensures.items)
