use Rattle.vfs_outside.proofs.Calls.{call_fails}
use Rattle.remote_memory.proofs.remote.MemoryRemoteRemote.stage.Goals as goal

pub returns-in-Err-clause-call : goal.returns-in-Err-clause-call
returns-in-Err-clause-call c = call_fails (λ w h. h) c.begin.ensures.call c.in-Err.is
