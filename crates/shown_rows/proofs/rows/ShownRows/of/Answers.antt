use Rattle.std.proofs.Common.{◌<◌, ◌∙◌, ap, sym, arith, cond, length, Some}
use Rattle.vfs_names.specs.Path.{same_text}
use Rattle.shown_rows.specs.Shown.{shown_of}
use Rattle.shown_rows.proofs.Listed.{has_name, next_shown}
use Rattle.shown_rows.proofs.rows.ShownRows.of.Goals as goal

pub put-requires : goal.put-requires
put-requires c =
    let inside : c.loop-row.row-index < length c.args.rows.now = omega arith in
    has_name c.args.rows.now c.loop-row.row-index c.row-item.result inside c.row-item.is c.requires

pub loop-row-preserved : goal.loop-row-preserved
loop-row-preserved c name =
    let inside : c.loop-row.row-index < length c.args.rows.now = omega arith in
    let row = c.row-item.result in
    c.in_ok-put.ensures name
    ∙ ap (cond (same_text row.name name) (Some (shown_of row))) (c.loop-row.invariant name)
    ∙ sym (next_shown c.args.rows.now c.loop-row.row-index row inside c.row-item.is c.requires name)
