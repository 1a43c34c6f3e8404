use Rattle.std.proofs.Common.{ap, ◌∙◌, cond, None}
use Rattle.std.proofs.lemmas.Map.Text.{hash_map_updates_text}
use Rattle.vfs_names.specs.Path.{same_text}
use Rattle.shown_rows.specs.Shown.{shown_in}
use Rattle.shown_rows.proofs.rows.ShownRows.remove.Goals as goal

pub returns : goal.returns
returns c name = hash_map_updates_text c.as_str.result.now c.args.self.now.map c.swap_remove.new.self None c.swap_remove.ensures.updates name
    ∙ ap (λ text. cond (same_text text name) None (shown_in c.args.self.now name)) c.as_str.ensures.text
