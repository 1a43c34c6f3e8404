use Rattle.remote_folder.proofs.Numbers.{not_parsed, other_spelling}
use Rattle.remote_folder.proofs.stage_name.number_of.Goals as goal

pub returns-in_default-clause-none : goal.returns-in_default-clause-none
returns-in_default-clause-none c = λ n small e. not_parsed n c.args.word.now c.parse.result _ small e c.parse.ensures.value.0 c.in_default.is

pub returns-else-eq-clause-none : goal.returns-else-eq-clause-none
returns-else-eq-clause-none c = λ n small e. other_spelling n c.in-Ok.n c.args.word.now c.format.result.now c.eq.result c.parse.result small e c.parse.ensures.value.0 c.in-Ok.is c.format.ensures.text c.eq.ensures c.if-eq.false
