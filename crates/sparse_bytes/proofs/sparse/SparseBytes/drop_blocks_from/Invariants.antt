use Rattle.std.proofs.Common.{◌≡◌, ℕ, ◌<◌}
use Rattle.std.specs.BTreeMap.{btree_map_len}
use Rattle.sparse_bytes.specs.Bytes.{block_of}
use Rattle.sparse_bytes.proofs.sparse.SparseBytes.drop_blocks_from.Given as goal

abbrev pub invariant-loop-last : goal.invariant-loop-last
invariant-loop-last l = (k : ℕ) → k < l.number → block_of l.self k ≡ block_of l.initial.self k

abbrev pub decreases-loop-last : goal.decreases-loop-last
decreases-loop-last l = btree_map_len l.self.blocks
