use Rattle.std.proofs.Common.{◌≡◌, ◌∙◌, sym, subst, true, false}
use Rattle.vfs_outside.specs.RowName.{IsRowName}
use Rattle.remote_memory.proofs.Listed.{child_one}
use Rattle.remote_memory.proofs.rows.name_in.Goals as goal

pub returns-else-is_row_name-clause-none : goal.returns-else-is_row_name-clause-none
returns-else-is_row_name-clause-none c = λ name ok e.
    clash (c.if-is_row_name.ensures.1 (subst IsRowName (sym (child_one c.args.dir.now c.in-Some.rest.now name (sym c.in-Some.ensures.some ∙ e))) ok)) where
      clash : false ≡ true → ⊥
      clash h = cc
