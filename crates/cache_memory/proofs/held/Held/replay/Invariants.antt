use Rattle.std.proofs.Common.{◌≡◌, take}
use Rattle.cache_memory.specs.Helds.{told_of, with_calls}
use Rattle.cache_memory.proofs.held.Held.replay.Given as goal

abbrev pub invariant-loop-call : goal.invariant-loop-call
invariant-loop-call l = told_of l.self ≡ with_calls (take l.call-index l.calls) (told_of l.initial.self)
