use Rattle.std.proofs.Common.{inl, [], ◌∷◌}
use Rattle.session_script.specs.Faults.{number}
use Rattle.session_script.proofs.Misfits.{exit_by, after_handle}
use Rattle.session_script.proofs.verbs.size_call.Goals as goal

pub returns-in_err-h-clause-bad : goal.returns-in_err-h-clause-bad
returns-in_err-h-clause-bad c = exit_by c.from_residual.result c.in_err-h.field-0.0 c.from_residual.ensures.1 (λ why m. inl (m)) (c.in_err-h.ensures.bad (number ∷ []))

pub returns-in_err-size-clause-bad : goal.returns-in_err-size-clause-bad
returns-in_err-size-clause-bad c = exit_by c.from_residual-in_err-size.result c.in_err-size.field-0.0 c.from_residual-in_err-size.ensures.1 (λ why m. inl (after_handle c.args.words.now c.handle.new.words c.in_ok-h.h c.in_ok-h.ensures.found (number ∷ []) why (m))) (c.in_err-size.ensures.bad ([]))
