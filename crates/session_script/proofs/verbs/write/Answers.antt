use Rattle.std.proofs.Common.{inl, [], ◌∷◌}
use Rattle.session_script.specs.Faults.{number, payload}
use Rattle.session_script.proofs.Misfits.{exit_by, after_handle, after_number}
use Rattle.session_script.proofs.verbs.write.Goals as goal

pub returns-in_err-h-clause-bad : goal.returns-in_err-h-clause-bad
returns-in_err-h-clause-bad c = exit_by c.from_residual.result c.in_err-h.field-0.0 c.from_residual.ensures.1 (λ why m. inl (m)) (c.in_err-h.ensures.bad (number ∷ payload ∷ []))

pub returns-in_err-pos-clause-bad : goal.returns-in_err-pos-clause-bad
returns-in_err-pos-clause-bad c = exit_by c.from_residual-in_err-pos.result c.in_err-pos.field-0.0 c.from_residual-in_err-pos.ensures.1 (λ why m. inl (after_handle c.args.words.now c.handle.new.words c.in_ok-h.h c.in_ok-h.ensures.found (number ∷ payload ∷ []) why (m))) (c.in_err-pos.ensures.bad (payload ∷ []))

pub returns-in_err-payload-clause-bad : goal.returns-in_err-payload-clause-bad
returns-in_err-payload-clause-bad c = exit_by c.from_residual-in_err-payload.result c.in_err-payload.field-0.0 c.from_residual-in_err-payload.ensures.1 (λ why m. inl (after_handle c.args.words.now c.handle.new.words c.in_ok-h.h c.in_ok-h.ensures.found (number ∷ payload ∷ []) why (after_number c.handle.new.words c.number.new.words c.in_ok-pos.pos c.in_ok-pos.ensures.found (payload ∷ []) why (m)))) (c.in_err-payload.ensures.bad ([]))
