use Rattle.std.proofs.Common.{inl, []}
use Rattle.session_script.proofs.Misfits.{exit_by}
use Rattle.session_script.proofs.verbs.file_alone.Goals as goal

pub returns-in_err-path-clause-bad : goal.returns-in_err-path-clause-bad
returns-in_err-path-clause-bad c = exit_by c.from_residual.result c.in_err-path.field-0.0 c.from_residual.ensures.1 (λ why m. inl (m)) (c.in_err-path.ensures.bad ([]))
