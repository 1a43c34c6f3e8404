use Rattle.std.proofs.Common.{inl, [], ◌∷◌}
use Rattle.session_script.specs.Faults.{file, access}
use Rattle.session_script.proofs.Misfits.{exit_by, after_handle, after_file}
use Rattle.session_script.proofs.verbs.open_call.Goals as goal

pub returns-in_err-h-clause-bad : goal.returns-in_err-h-clause-bad
returns-in_err-h-clause-bad c = exit_by c.from_residual.result c.in_err-h.field-0.0 c.from_residual.ensures.1 (λ why m. inl (m)) (c.in_err-h.ensures.bad (file ∷ access ∷ []))

pub returns-in_err-path-clause-bad : goal.returns-in_err-path-clause-bad
returns-in_err-path-clause-bad c = exit_by c.from_residual-in_err-path.result c.in_err-path.field-0.0 c.from_residual-in_err-path.ensures.1 (λ why m. inl (after_handle c.args.words.now c.handle.new.words c.in_ok-h.h c.in_ok-h.ensures.found (file ∷ access ∷ []) why (m))) (c.in_err-path.ensures.bad (access ∷ []))

pub returns-in_err-access-clause-bad : goal.returns-in_err-access-clause-bad
returns-in_err-access-clause-bad c = exit_by c.from_residual-in_err-access.result c.in_err-access.field-0.0 c.from_residual-in_err-access.ensures.1 (λ why m. inl (after_handle c.args.words.now c.handle.new.words c.in_ok-h.h c.in_ok-h.ensures.found (file ∷ access ∷ []) why (after_file c.handle.new.words c.file.new.words c.in_ok-path.path c.in_ok-path.ensures.found (access ∷ []) why (m)))) (c.in_err-access.ensures.bad ([]))
