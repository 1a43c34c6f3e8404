use Rattle.std.proofs.Common.{vec_len}
use Rattle.remote_memory.specs.Stores.{MetOthers}
use Rattle.remote_memory.proofs.remote.MemoryRemote.meet_others.Given as goal

abbrev pub invariant-loop-planned : goal.invariant-loop-planned
invariant-loop-planned l = MetOthers l.initial.self l.self

abbrev pub decreases-loop-planned : goal.decreases-loop-planned
decreases-loop-planned l = vec_len l.self.planned
