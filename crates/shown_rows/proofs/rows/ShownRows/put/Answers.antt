use Rattle.std.proofs.Common.{ap, ◌∙◌, cond, Some, string_bytes}
use Rattle.std.proofs.lemmas.Map.Text.{hash_map_updates_text}
use Rattle.vfs_names.specs.Path.{same_text}
use Rattle.shown_rows.specs.Shown.{shown_in}
use Rattle.shown_rows.proofs.rows.ShownRows.put.Goals as goal

pub returns : goal.returns
returns c name =
    hash_map_updates_text (string_bytes c.in_ok-text.text) c.args.self.now.map c.insert.new.self (Some c.of.result) c.in-Ok.ensures.updates name
    ∙ ap (λ text. cond (same_text text name) (Some c.of.result) (shown_in c.args.self.now name)) c.in_ok-text.ensures
    ∙ ap (λ shown. cond (same_text c.args.row.now.name name) (Some shown) (shown_in c.args.self.now name)) c.of.ensures
