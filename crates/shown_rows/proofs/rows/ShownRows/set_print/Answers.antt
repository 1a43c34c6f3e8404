use Rattle.std.proofs.Common.{ap, ◌∙◌, refl, subst, cond, Some, IsSome}
use Rattle.std.proofs.lemmas.Map.Text.{hash_map_updates_text}
use Rattle.vfs_names.specs.Path.{same_text}
use Rattle.shown_rows.specs.Shown.{shown_in}
use Rattle.shown_rows.specs.declared.rows.Shown.TheVariants.{Object}
use Rattle.shown_rows.proofs.rows.ShownRows.set_print.Goals as goal

pub returns : goal.returns
returns c name =
    let set = Some (Object c.args.print) in
    let updates = (c.get_mut.follows.holds (Object c.args.print)).3 (subst IsSome c.in-Some.ensures.value refl) in
    hash_map_updates_text c.as_str.result.now c.args.self.now.map (c.get_mut.follows.lender (Object c.args.print)) set updates name
    ∙ ap (λ text. cond (same_text text name) set (shown_in c.args.self.now name)) c.as_str.ensures.text
