use Rattle.sparse_item.proofs.Moved.{goes_further}
use Rattle.sparse_item.proofs.fetch.supply.Goals as goal

pub returns-in-Ok-clause-stands : goal.returns-in-Ok-clause-stands
returns-in-Ok-clause-stands g c past names saved pairs atime b =
    c.bring.ensures.stands past names saved pairs atime (c.in-Ok.ensures.stands past names saved pairs atime b)

pub returns-in-Ok-clause-goes : goal.returns-in-Ok-clause-goes
returns-in-Ok-clause-goes g c = goes_further c.in-Ok.ensures.goes c.bring.ensures.goes
