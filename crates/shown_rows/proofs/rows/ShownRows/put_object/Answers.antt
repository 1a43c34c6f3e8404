use Rattle.std.proofs.Common.{Some, string_bytes}
use Rattle.std.proofs.lemmas.Map.Text.{hash_map_updates_text}
use Rattle.shown_rows.specs.declared.rows.Shown.TheVariants.{Object}
use Rattle.shown_rows.proofs.rows.ShownRows.put_object.Goals as goal

pub returns : goal.returns
returns c name = hash_map_updates_text (string_bytes c.args.name) c.args.self.now.map c.insert.new.self
    (Some (Object c.args.print)) c.in-Ok.ensures.updates name
