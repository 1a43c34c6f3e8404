use Rattle.session_script.specs.Script.{lines_of}
use Rattle.session_script.proofs.Singles.{same_script}
use Rattle.session_script.proofs.laws.one_script.Goals as goal

pub returns : goal.returns
returns c = λ text a b. same_script (lines_of text) a b
