use Rattle.std.proofs.Common.{ap, refl, Err}
use Rattle.session_script.specs.declared.why.ScriptError.TheVariants as ScriptError
use Rattle.session_script.proofs.Readings.{same_error, refused_here, all_read}
use Rattle.session_script.proofs.read.read_script.Goals as goal

pub returns-in-Err-clause-refused : goal.returns-in-Err-clause-refused
returns-in-Err-clause-refused c = λ line why e. c.loop-rest.invariant.refused line why (refused_here _ line _ _ _ why c.first_line.ensures.lines c.if-not-is_quiet.ensures (c.in-Err.ensures.refused line why (ap Err (same_error c.in-Err.error (ScriptError.Refused line why) (Err c.in-Err.error) refl e))))

pub returns-clause-found : goal.returns-clause-found
returns-clause-found c = all_read c.args.text.now c.loop-rest.rest.now _ c.from_lines.result c.loop-rest.lines.items c.loop-rest.invariant.found c.loop-rest-test.ensures c.from_lines.ensures
