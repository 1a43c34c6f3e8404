use Rattle.std.proofs.Common.{arith}
use Rattle.session_script.proofs.Counts.{no_byte, no_len, too_big}
use Rattle.session_script.proofs.payload.counted.Goals as goal

pub returns-in_default-number_of-clause-none : goal.returns-in_default-number_of-clause-none
returns-in_default-number_of-clause-none c = no_byte c.args.text.now c.cut.result.0.now c.in-Some.len.now c.args.most (omega arith) (rw c.in-Some.is at c.cut.ensures.parts) c.cut.ensures.before c.in_default-number_of.ensures.none

pub returns-in_default-number_of-2-clause-none : goal.returns-in_default-number_of-2-clause-none
returns-in_default-number_of-2-clause-none c = no_len c.args.text.now c.cut.result.0.now c.in-Some.len.now c.args.most (omega arith) (rw c.in-Some.is at c.cut.ensures.parts) c.cut.ensures.before c.in_default-number_of-2.ensures.none

pub returns-else-byte-from-clause-none : goal.returns-else-byte-from-clause-none
returns-else-byte-from-clause-none c = too_big c.args.text.now c.cut.result.0.now c.in-Some.len.now c.args.most c.in-Some-number_of.byte (omega arith) (rw c.in-Some.is at c.cut.ensures.parts) c.cut.ensures.before c.in-Some-number_of.ensures.found.0 c.in-Some-number_of.ensures.found.1 (omega arith)
