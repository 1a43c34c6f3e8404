use Rattle.std.proofs.Common.{ap}
use Rattle.one_session.specs.Served.{Knows}
use Rattle.one_session.specs.Views.{histories}
use Rattle.one_session.proofs.Served.{fits_none}
use Rattle.one_session.proofs.session.OneSession.new.Goals as goal

pub returns-in-Ok-clause-fits : goal.returns-in-Ok-clause-fits
returns-in-Ok-clause-fits g c = λ handed. fits_none (Knows g.F.CacheFile.tells g.O.Object.tells handed) _ c.in-Ok.ensures.tree (ap histories c.in-Ok.ensures.files) c.in-Ok.ensures.handles c.new-in-Ok.ensures.items
