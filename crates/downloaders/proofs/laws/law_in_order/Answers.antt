use Rattle.downloaders.proofs.InOrder.{reads_tile}
use Rattle.downloaders.proofs.laws.law_in_order.Goals as goal

pub returns : goal.returns
returns c direct ends asks x e = reads_tile c.args.plan.now c.args.size direct ends asks c.requires x e
