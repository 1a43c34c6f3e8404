use Rattle.std.proofs.Common.{take}
use Rattle.remote_memory.specs.Nodes.{ListsDir}
use Rattle.remote_memory.proofs.rows.rows_of.Given as goal

abbrev pub invariant-loop-node : goal.invariant-loop-node
invariant-loop-node l = ListsDir l.dir (take l.node-index l.nodes) l.rows.items
