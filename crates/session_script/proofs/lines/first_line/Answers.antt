use Rattle.session_script.proofs.Splits.{line_before, last_line}
use Rattle.session_script.proofs.lines.first_line.Goals as goal

pub returns-in-Some-clause-lines : goal.returns-in-Some-clause-lines
returns-in-Some-clause-lines c = line_before c.args.text.now c.cut.result.0.now c.without_return.result.now c.in-Some.rest.now (rw c.in-Some.is at c.cut.ensures.parts) c.cut.ensures.before c.without_return.ensures.stripped

pub returns-in-None-clause-lines : goal.returns-in-None-clause-lines
returns-in-None-clause-lines c = last_line c.args.text.now c.cut.result.0.now (rw c.in-None.is at c.cut.ensures.parts) c.cut.ensures.before c.requires
