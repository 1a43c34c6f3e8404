use Rattle.std.proofs.Common.{refl}
use Rattle.vfs_top.proofs.prepare.prepare.Goals as goal

pub returns-in_default-clause-stops : goal.returns-in_default-clause-stops
returns-in_default-clause-stops g c = (λ row. c.in_default.ensures.refused row.0 row.1, refl)
