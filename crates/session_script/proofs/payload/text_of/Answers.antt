use Rattle.std.proofs.Common.{sym, subst}
use Rattle.std.specs.Str.{IsUtf8}
use Rattle.session_script.proofs.Paths.{other_text}
use Rattle.session_script.proofs.payload.text_of.Goals as goal

pub returns-in_default-from_utf8-clause-none : goal.returns-in_default-from_utf8-clause-none
returns-in_default-from_utf8-clause-none c = other_text c.args.letters.now c.in-Some.bytes.items (rw c.in-Some.is at c.in_ok-bytes.ensures.found) (λ u. c.in_default-from_utf8.ensures.cases.0 (subst IsUtf8 (sym c.deref.ensures.value) u))
