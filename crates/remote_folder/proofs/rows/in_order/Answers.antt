use Rattle.std.proofs.Common.{◌∙◌, sym, subst}
use Rattle.vfs_outside.specs.Outside.{HasNames}
use Rattle.remote_folder.specs.Rows.{IsAscending}
use Rattle.remote_folder.proofs.Ordered.{bare_ascending, has_names, strictly_sorted}
use Rattle.remote_folder.proofs.rows.in_order.Goals as goal

pub returns-in-Ok-clause-names : goal.returns-in-Ok-clause-names
returns-in-Ok-clause-names c = subst HasNames (sym (c.from_vec.ensures ∙ c.in-Ok.ensures))
    (has_names c.sort_once.new.found.items (strictly_sorted c.args.found.items c.sort_once.new.found.items c.sort_once.ensures))

pub returns-in-Ok-clause-ascending : goal.returns-in-Ok-clause-ascending
returns-in-Ok-clause-ascending c = subst IsAscending (sym (c.from_vec.ensures ∙ c.in-Ok.ensures))
    (bare_ascending c.sort_once.new.found.items (strictly_sorted c.args.found.items c.sort_once.new.found.items c.sort_once.ensures))
