use Rattle.vfs_top.proofs.phase.do_line.Goals as goal

pub returns-in-Tick-clause-does : goal.returns-in-Tick-clause-does
returns-in-Tick-clause-does g c = rw c.in-Tick.is (c.tick.ensures.ticks (g.D.CacheDisk.disk c.args.disk.now))
