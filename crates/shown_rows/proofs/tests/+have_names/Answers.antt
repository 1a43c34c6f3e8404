use Rattle.std.proofs.Common.{ap, sym, subst, ◌∙◌}
use Rattle.std.specs.List.{list_any}
use Rattle.vfs_names.specs.Path.{same_text}
use Rattle.vfs_outside.specs.Outside.{HasNames}
use Rattle.vfs_outside.specs.RowName.{IsRowName}
use Rattle.vfs_outside.specs.declared.listing.Row.{Row}
use Rattle.shown_rows.proofs.tests.+have_names.Goals as goal

pub returns : goal.returns
returns t c holds =
    let later = c.in-Some.later.now in
    let named = subst IsRowName c.as_slice-name.ensures (c.is_row_name-named.ensures.0 c.if-not-named.false) in
    let differs = ap (λ name. list_any (λ (other : Row). same_text other.name name) later) (sym c.as_slice-name.ensures) ∙ sym c.has_name-again.ensures ∙ c.if-again.false in
    subst HasNames (sym c.in-Some.ensures.cases.0) (named, differs, c.have_names.ensures holds)
