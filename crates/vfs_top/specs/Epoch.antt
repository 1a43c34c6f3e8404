-- What is kept of an epoch.
use Rattle.std.specs.Prelude.{List, map}
use Rattle.session_text.specs.declared.reply.Record.{Record}
use Rattle.vfs_outside.specs.declared.tree.TreeEntry.{TreeEntry}
use Rattle.writeback_queue.specs.declared.entry.QueueEntry.{QueueEntry}
use Rattle.one_session.specs.State.{History, Step}
use Rattle.one_session.specs.declared.log.EpochLog.{EpochLog}
pub use Rattle.one_session.specs.Logs.{history_of}

-- the tree's history, the files' histories by number, the queue's history, and the records of the calls in their order, beside each what its
-- call did to the objects behind the files
pub record Epoch : Type 0 where
  pub tree : List TreeEntry
  pub files : List History
  pub queue : List QueueEntry
  pub records : List Record
  pub steps : List Step

abbrev pub epoch_of : {O F S : Type 0} → EpochLog O F S → Epoch
epoch_of log = record {
  tree = log.tree.items;
  files = map history_of log.files.items;
  queue = log.queue.items;
  records = log.records.items;
  steps = log.steps.items;
}
