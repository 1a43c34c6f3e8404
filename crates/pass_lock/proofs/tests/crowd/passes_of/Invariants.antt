use Rattle.std.proofs.Common.{◌≡◌, ◌+◌}
use Rattle.std.specs.Prelude.{All}
use Rattle.pass_lock.specs.Passes.{lock_id, number_of, made_by, IsPassOf}
use Rattle.pass_lock.proofs.tests.crowd.passes_of.Given as goal

abbrev pub invariant-loop-number : goal.invariant-loop-number
invariant-loop-number l = record {
  first : IsPassOf (lock_id l.lock) 0 l.first;
  made : made_by l.first ≡ l.number + 1;
  passes : All (λ p. IsPassOf (lock_id l.lock) (number_of p) p) l.passes.items;
}
