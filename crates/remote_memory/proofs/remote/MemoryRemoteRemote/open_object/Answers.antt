use Rattle.vfs_outside.specs.Store.{IsFile}
use Rattle.vfs_outside.specs.Told.{Finds}
use Rattle.vfs_outside.proofs.Calls.{call_fails, call_later, missing_fails, told_fails, told_later}
use Rattle.remote_memory.specs.Nodes.{fingerprint_of}
use Rattle.remote_memory.specs.Stores.{outside_of}
use Rattle.remote_memory.specs.declared.object.MemoryObject.{MemoryObject}
use Rattle.remote_memory.proofs.remote.MemoryRemoteRemote.open_object.Goals as goal

pub returns-in-Ok-clause-call : goal.returns-in-Ok-clause-call
returns-in-Ok-clause-call c = call_later c.begin.ensures.call c.open_now.ensures.call

pub returns-in-Ok-clause-told : goal.returns-in-Ok-clause-told
returns-in-Ok-clause-told c = λ t. told_later (λ (o : MemoryObject). Finds (fingerprint_of o.stored) o.stored.bytes c.args.path.now) (λ s. ¬ (IsFile (s c.args.path.now)))
    (outside_of c.args.self.now) (outside_of c.begin.new.self) (outside_of c.open_now.new.self) c.open_now.result c.begin.ensures.alone c.open_now.ensures.call.counts.others c.open_now.ensures.told

pub returns-in-Err-clause-call : goal.returns-in-Err-clause-call
returns-in-Err-clause-call c = call_fails missing_fails c.begin.ensures.call c.in-Err.is

pub returns-in-Err-clause-told : goal.returns-in-Err-clause-told
returns-in-Err-clause-told c = λ t. told_fails c.begin.ensures.call c.begin.ensures.alone c.in-Err.is
