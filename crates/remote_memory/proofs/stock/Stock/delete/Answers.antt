use Rattle.remote_memory.proofs.Beneath.{deleted_gone}
use Rattle.remote_memory.proofs.stock.Stock.delete.Goals as goal

pub returns-clause-gone : goal.returns-clause-gone
returns-clause-gone c = deleted_gone c.args.path.now c.args.self.now.nodes.items c.take_away.new.nodes.items c.requires c.take_away.ensures
