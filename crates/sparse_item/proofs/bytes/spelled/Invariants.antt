use Rattle.std.proofs.Common.{◌≡◌, ℕ, ◌<◌, length}
use Rattle.std.specs.Prelude.{slice_index}
use Rattle.vfs_names.specs.Payload.{payload_byte}
use Rattle.sparse_item.proofs.bytes.spelled.Given as goal

abbrev pub invariant-loop-i : goal.invariant-loop-i
invariant-loop-i l = (length l.bytes.items ≡ l.i) × ((k : ℕ) → k < l.i → slice_index l.bytes.items k ≡ payload_byte l.payload k)
