use Rattle.std.proofs.Common.{inl, [], ◌∷◌}
use Rattle.session_script.specs.Faults.{file}
use Rattle.session_script.proofs.Misfits.{exit_by, after_file}
use Rattle.session_script.proofs.verbs.rename.Goals as goal

pub returns-in_err-from-clause-bad : goal.returns-in_err-from-clause-bad
returns-in_err-from-clause-bad c = exit_by c.from_residual.result c.in_err-from.field-0.0 c.from_residual.ensures.1 (λ why m. inl (m)) (c.in_err-from.ensures.bad (file ∷ []))

pub returns-in_err-to-clause-bad : goal.returns-in_err-to-clause-bad
returns-in_err-to-clause-bad c = exit_by c.from_residual-in_err-to.result c.in_err-to.field-0.0 c.from_residual-in_err-to.ensures.1 (λ why m. inl (after_file c.args.words.now c.file.new.words c.in_ok-from.from c.in_ok-from.ensures.found (file ∷ []) why (m))) (c.in_err-to.ensures.bad ([]))
