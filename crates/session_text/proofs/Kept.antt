-- A blob that only grows keeps its old bytes at its front.
use Rattle.std.proofs.Common.{ℕ, List, arith}
use Rattle.std.proofs.lemmas.Grind.{common_steps}
use Rattle.session_text.specs.Printed.{Keeps}

pub kept_on : (old mid new : List ℕ) → Keeps old mid → Keeps mid new → Keeps old new
kept_on old mid new h k = record { front = grind (arith, common_steps, h.front, k.front) }
