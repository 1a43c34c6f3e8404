use Rattle.std.proofs.Common.{◌≢◌, Some}
use Rattle.vfs_outside.specs.Store.{Dir}
use Rattle.vfs_outside.specs.Told.{Shows}
use Rattle.vfs_outside.specs.declared.listing.Listing.{Listing}
use Rattle.vfs_outside.proofs.Calls.{call_fails, call_later, missing_fails, told_fails, told_later}
use Rattle.remote_memory.specs.Stores.{outside_of, outside_with}
use Rattle.remote_memory.proofs.remote.MemoryRemoteRemote.list.Goals as goal

pub returns-in-Ok-clause-call : goal.returns-in-Ok-clause-call
returns-in-Ok-clause-call c = call_later c.begin.ensures.call (c.list.ensures.call c.begin.new.self.faults c.begin.new.self.others)

pub returns-in-Ok-clause-told : goal.returns-in-Ok-clause-told
returns-in-Ok-clause-told c = λ t. told_later (λ (listing : Listing). Shows c.args.dir.now listing) (λ s. s c.args.dir.now ≢ Some Dir)
    (outside_of c.args.self.now) (outside_of c.begin.new.self) (outside_with c.list.new.self c.begin.new.self.faults c.begin.new.self.others) c.list.result
    c.begin.ensures.alone (c.list.ensures.call c.begin.new.self.faults c.begin.new.self.others).counts.others (c.list.ensures.told c.begin.new.self.faults c.begin.new.self.others)

pub returns-in-Err-clause-call : goal.returns-in-Err-clause-call
returns-in-Err-clause-call c = call_fails missing_fails c.begin.ensures.call c.in-Err.is

pub returns-in-Err-clause-told : goal.returns-in-Err-clause-told
returns-in-Err-clause-told c = λ t. told_fails c.begin.ensures.call c.begin.ensures.alone c.in-Err.is
