use Rattle.session_script.proofs.Escapes.{escape_more, stuck_at}
use Rattle.session_script.proofs.escape.unescape.Goals as goal

pub loop-byte-preserved : goal.loop-byte-preserved
loop-byte-preserved c = escape_more c.args.word.now c.loop-byte.bytes.items c.loop-byte.rest.now c.in-Some.after.now c.push.new.self.items c.in-Some.byte c.loop-byte.invariant c.in-Some.ensures.found c.in_ok-push.ensures.items

pub returns-else-is_empty-clause-none : goal.returns-else-is_empty-clause-none
returns-else-is_empty-clause-none c = stuck_at c.args.word.now c.loop-byte.bytes.items c.loop-byte.rest.now c.loop-byte.invariant c.in_default.ensures.none c.if-is_empty.ensures
