use Rattle.vfs_top.proofs.Breaking.{breaks_still}
use Rattle.vfs_top.proofs.runner.run.Goals as goal

pub returns-then-status-eq8-clause-starved : goal.returns-then-status-eq8-clause-starved
returns-then-status-eq8-clause-starved g c = λ e. record {
  between = g.K.Sink.written c.do_words-status.new.sink;
  front = breaks_still _ _ _ _ _ _ _ _ _ _ _ (c.do_words-status.ensures.starved c.if-status-eq8.true);
  text = c.write_no_memory.ensures;
}
