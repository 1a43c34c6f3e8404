use Rattle.pass_lock.proofs.lock.PassLock.part.Given as goal

abbrev pub ghosts-part_at : goal.ghosts-part_at
ghosts-part_at g a = record { number = a.number }
