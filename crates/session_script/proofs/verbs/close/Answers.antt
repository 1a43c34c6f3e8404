use Rattle.std.proofs.Common.{inl, []}
use Rattle.session_script.proofs.Misfits.{exit_by}
use Rattle.session_script.proofs.verbs.close.Goals as goal

pub returns-in_err-h-clause-bad : goal.returns-in_err-h-clause-bad
returns-in_err-h-clause-bad c = exit_by c.from_residual.result c.in_err-h.field-0.0 c.from_residual.ensures.1 (λ why m. inl (m)) (c.in_err-h.ensures.bad ([]))
