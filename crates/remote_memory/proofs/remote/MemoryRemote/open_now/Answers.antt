use Rattle.remote_memory.proofs.remote.MemoryRemote.open_now.Goals as goal

pub returns-clause-call : goal.returns-clause-call
returns-clause-call c = c.open_object.ensures.call c.args.self.now.faults c.args.self.now.others

pub returns-clause-told : goal.returns-clause-told
returns-clause-told c = c.open_object.ensures.told c.args.self.now.faults c.args.self.now.others
