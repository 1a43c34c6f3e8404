use Rattle.session_script.specs.Script.{lines_of}
use Rattle.session_script.proofs.Singles.{same_first}
use Rattle.session_script.proofs.laws.one_refusal.Goals as goal

pub returns : goal.returns
returns c = λ text l m a b. same_first (lines_of text) l m a b
