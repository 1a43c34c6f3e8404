use Rattle.std.proofs.Common.{◌≡◌}
use Rattle.pass_lock.specs.Passes.{lock_id, number_of, made_by, IsPassOf}
use Rattle.bench_locks.proofs.passes.lock_many.Given as goal

abbrev pub invariant-loop : goal.invariant-loop
invariant-loop g l = record {
  pass : IsPassOf (lock_id l.lock) (number_of l.initial.pass) l.pass;
  made : made_by l.pass ≡ made_by l.initial.pass;
}
