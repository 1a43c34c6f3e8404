use Rattle.pass_lock.specs.Passes.{lock_id, number_of, IsPassOf}
use Rattle.pass_lock.proofs.tests.crowd.add_many.Given as goal

abbrev pub invariant-loop-word : goal.invariant-loop-word
invariant-loop-word g l = IsPassOf (lock_id l.lock) (number_of l.initial.pass) l.pass
