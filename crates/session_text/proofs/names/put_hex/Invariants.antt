use Rattle.std.proofs.Common.{◌≡◌, ◌++◌}
use Rattle.std.specs.Slice.Iter.{chunks_rest, chunks_size}
use Rattle.hex.specs.Hex.{encode_lower}
use Rattle.session_text.specs.Printed.{Keeps}
use Rattle.session_text.proofs.names.put_hex.Given as goal

abbrev pub invariant-loop-piece : goal.invariant-loop-piece
invariant-loop-piece l = (l.out ++ encode_lower (chunks_rest l.piece-iterator) ≡ l.fn.out ++ encode_lower l.bytes) × (chunks_size l.piece-iterator ≡ 64) × Keeps l.fn.out l.out
