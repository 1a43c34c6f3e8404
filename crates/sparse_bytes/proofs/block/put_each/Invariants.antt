use Rattle.std.proofs.Common.{◌≡◌, ℕ, ◌+◌, ◌<◌, slice_index}
use Rattle.vfs_names.specs.Payload.{payload_byte}
use Rattle.sparse_bytes.proofs.block.put_each.Given as goal

abbrev pub invariant-loop-i : goal.invariant-loop-i
invariant-loop-i l = (k : ℕ) → k < l.i → slice_index l.part k ≡ payload_byte l.payload (l.from + k)
