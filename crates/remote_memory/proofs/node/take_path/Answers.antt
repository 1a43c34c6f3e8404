use Rattle.std.proofs.Common.{rules, not}
use Rattle.std.proofs.lemmas.Fn.{filter_same}
use Rattle.vfs_names.specs.Path.{same_text}
use Rattle.remote_memory.specs.declared.node.Node.{Node}
use Rattle.remote_memory.proofs.node.take_path.Goals as goal

pub returns-clause-items : goal.returns-clause-items
returns-clause-items c = filter_same _ (λ (n : Node). not (same_text c.args.path.now n.path)) _ (λ x b f r. search rules) _ _ c.retain.ensures.filtered
