use Rattle.vfs_top.proofs.Told.{to_the_end}
use Rattle.vfs_top.proofs.phase.end_phase.Goals as goal

pub returns-in-Err-clause-text : goal.returns-in-Err-clause-text
returns-in-Err-clause-text g c = rw (c.next_moment-moment.ensures.now, c.records-records.ensures, to_the_end) at c.in-Err.ensures
