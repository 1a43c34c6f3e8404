use Rattle.std.proofs.Common.{[], subst, sym}
use Rattle.one_session.specs.Served.{Fits, Knows}
use Rattle.vfs_top.specs.Going.{IsUntouched}
use Rattle.vfs_top.proofs.Begun.{fits_still, untouched_still}
use Rattle.vfs_top.proofs.script.begin.Goals as goal

pub returns-in-Ok-reserve-clause-new : goal.returns-in-Ok-reserve-clause-new
returns-in-Ok-reserve-clause-new g c =
    λ handed. subst (Fits 1 (Knows g.F.CacheFile.tells g.O.Object.tells handed) []) (sym c.in-Ok-reserve.ensures.ok) (fits_still _ [] c.in-Ok.session c.reserve.new.self.room (c.in-Ok.ensures.fits handed))

pub returns-in-Ok-reserve-clause-untouched : goal.returns-in-Ok-reserve-clause-untouched
returns-in-Ok-reserve-clause-untouched g c =
    subst IsUntouched (sym c.in-Ok-reserve.ensures.ok) (untouched_still c.in-Ok.session c.reserve.new.self.room (record { tree = c.in-Ok.ensures.tree; items = c.in-Ok.ensures.untouched; steps = c.in-Ok.ensures.steps; queue = c.in-Ok.ensures.queue }))
