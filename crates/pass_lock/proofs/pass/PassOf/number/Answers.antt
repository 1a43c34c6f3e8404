use Rattle.pass_lock.proofs.Numbers.{Has-first}
use Rattle.pass_lock.proofs.pass.PassOf.number.Goals as goal

pub returns-clause-held : goal.returns-clause-held
returns-clause-held g c = Has-first _ _ c.args.self.now.named
