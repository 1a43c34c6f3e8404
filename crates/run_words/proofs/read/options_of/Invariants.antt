use Rattle.std.proofs.Common.{length, map, string_bytes}
use Rattle.run_words.proofs.Loop.{Reads}
use Rattle.run_words.proofs.read.options_of.Given as goal

abbrev pub invariant-loop-rest : goal.invariant-loop-rest
invariant-loop-rest l = Reads (map string_bytes l.fn.words) (map string_bytes l.rest) l.values

abbrev pub decreases-loop-rest : goal.decreases-loop-rest
decreases-loop-rest l = length l.rest
