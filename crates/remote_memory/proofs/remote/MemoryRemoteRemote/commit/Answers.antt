use Rattle.std.proofs.Common.{Some}
use Rattle.vfs_names.specs.declared.fingerprint.Fingerprint.{Fingerprint}
use Rattle.vfs_outside.specs.Store.{CanPut, File}
use Rattle.vfs_outside.specs.Told.{Puts}
use Rattle.vfs_outside.proofs.Calls.{call_fails, call_later, missing_fails, told_fails, told_later}
use Rattle.remote_memory.specs.Stores.{outside_of, outside_with}
use Rattle.remote_memory.proofs.remote.MemoryRemoteRemote.commit.Goals as goal

pub returns-in-Ok-clause-call : goal.returns-in-Ok-clause-call
returns-in-Ok-clause-call c = call_later c.begin.ensures.call (c.commit.ensures.call c.begin.new.self.faults c.begin.new.self.others)

pub returns-in-Ok-clause-told : goal.returns-in-Ok-clause-told
returns-in-Ok-clause-told c = told_later (λ (print : Fingerprint). Puts c.args.path.now (Some (File print c.args.stage.bytes))) (λ s. ¬ (CanPut c.args.path.now s))
    (outside_of c.args.self.now) (outside_of c.begin.new.self) (outside_with c.commit.new.self c.begin.new.self.faults c.begin.new.self.others) c.commit.result
    c.begin.ensures.alone (c.commit.ensures.call c.begin.new.self.faults c.begin.new.self.others).counts.others (c.commit.ensures.told c.begin.new.self.faults c.begin.new.self.others)

pub returns-in-Err-clause-call : goal.returns-in-Err-clause-call
returns-in-Err-clause-call c = call_fails missing_fails c.begin.ensures.call c.in-Err.is

pub returns-in-Err-clause-told : goal.returns-in-Err-clause-told
returns-in-Err-clause-told c = told_fails c.begin.ensures.call c.begin.ensures.alone c.in-Err.is
