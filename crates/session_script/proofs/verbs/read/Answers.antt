use Rattle.std.proofs.Common.{inl, [], ◌∷◌}
use Rattle.session_script.specs.Faults.{number}
use Rattle.session_script.proofs.Misfits.{exit_by, after_handle, after_number}
use Rattle.session_script.proofs.verbs.read.Goals as goal

pub returns-in_err-h-clause-bad : goal.returns-in_err-h-clause-bad
returns-in_err-h-clause-bad c = exit_by c.from_residual.result c.in_err-h.field-0.0 c.from_residual.ensures.1 (λ why m. inl (m)) (c.in_err-h.ensures.bad (number ∷ number ∷ []))

pub returns-in_err-pos-clause-bad : goal.returns-in_err-pos-clause-bad
returns-in_err-pos-clause-bad c = exit_by c.from_residual-in_err-pos.result c.in_err-pos.field-0.0 c.from_residual-in_err-pos.ensures.1 (λ why m. inl (after_handle c.args.words.now c.handle.new.words c.in_ok-h.h c.in_ok-h.ensures.found (number ∷ number ∷ []) why (m))) (c.in_err-pos.ensures.bad (number ∷ []))

pub returns-in_err-len-clause-bad : goal.returns-in_err-len-clause-bad
returns-in_err-len-clause-bad c = exit_by c.from_residual-in_err-len.result c.in_err-len.field-0.0 c.from_residual-in_err-len.ensures.1 (λ why m. inl (after_handle c.args.words.now c.handle.new.words c.in_ok-h.h c.in_ok-h.ensures.found (number ∷ number ∷ []) why (after_number c.handle.new.words c.number.new.words c.in_ok-pos.pos c.in_ok-pos.ensures.found (number ∷ []) why (m)))) (c.in_err-len.ensures.bad ([]))
