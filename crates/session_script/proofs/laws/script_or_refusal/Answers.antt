use Rattle.session_script.specs.Script.{lines_of}
use Rattle.session_script.proofs.Singles.{never_both}
use Rattle.session_script.proofs.laws.script_or_refusal.Goals as goal

pub returns : goal.returns
returns c = λ text script line why. never_both (lines_of text) script line why
