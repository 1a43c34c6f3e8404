use Rattle.std.proofs.Common.{sym, ◌∙◌, ap, subst, refl}
use Rattle.std.specs.Str.{IsUtf8, bytes_eq}
use Rattle.vfs_names.specs.Path.{is_path}
use Rattle.session_script.proofs.Paths.{unspelled, not_utf8, not_a_path}
use Rattle.session_script.proofs.path.path_of.Goals as goal

pub returns-in_default-clause-none : goal.returns-in_default-clause-none
returns-in_default-clause-none c = unspelled c.args.word.now (c.if-eq.ensures ∙ ap (bytes_eq c.args.word.now) c.as_slice.ensures) (rw c.in_default.is at c.in_ok-bytes.ensures.none)

pub returns-in_default-from_utf8-clause-none : goal.returns-in_default-from_utf8-clause-none
returns-in_default-from_utf8-clause-none c = not_utf8 c.args.word.now c.in-Some.bytes.items (c.if-eq.ensures ∙ ap (bytes_eq c.args.word.now) c.as_slice.ensures) (rw c.in-Some.is at c.in_ok-bytes.ensures.found) (λ u. c.in_default-from_utf8.ensures.cases.0 (subst IsUtf8 (sym c.deref.ensures.value) u))

pub returns-in-Err-BadName-clause-none : goal.returns-in-Err-BadName-clause-none
returns-in-Err-BadName-clause-none c = not_a_path c.args.word.now c.in-Some.bytes.items (c.if-eq.ensures ∙ ap (bytes_eq c.args.word.now) c.as_slice.ensures) (rw c.in-Some.is at c.in_ok-bytes.ensures.found) (ap is_path (sym (c.in-Ok.ensures.cases.0 ∙ c.deref.ensures.value)) ∙ c.in-Err-BadName.ensures.bad.0 (rw c.in-Err-BadName.field-0-is refl))
