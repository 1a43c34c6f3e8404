use Rattle.std.proofs.Common.{◌≡◌, ◌∙◌, ap, sym, subst, None}
use Rattle.vfs_outside.specs.RowName.{IsRowName}
use Rattle.vfs_outside.specs.Store.{child}
use Rattle.vfs_outside.specs.Told.{row_of}
use Rattle.remote_memory.specs.Nodes.{AddsNode}
use Rattle.remote_memory.proofs.Choices.{ok_moves}
use Rattle.remote_memory.proofs.Listed.{adds_again, adds_none, adds_row}
use Rattle.remote_memory.proofs.rows.add_node.Goals as goal

pub returns-in-None : goal.returns-in-None
returns-in-None c = adds_none c.args.dir.now c.args.node.now c.args.rows.now.items
    (λ name ok e. c.in-None.ensures.none name ok (c.as_bytes-2.ensures.value ∙ c.as_str-2.ensures.text ∙ e ∙ ap (λ d. child d name) (sym (c.as_bytes.ensures.value ∙ c.as_str.ensures.text))))

pub returns-in-Some-row_at : goal.returns-in-Some-row_at
returns-in-Some-row_at c = adds_again c.args.dir.now c.in-Some.name.now c.args.node.now c.args.rows.now.items c.in-Some-row_at._row.now
    (sym (c.as_bytes-2.ensures.value ∙ c.as_str-2.ensures.text) ∙ c.in-Some.ensures.some.0 ∙ ap (λ d. child d c.in-Some.name.now) (c.as_bytes.ensures.value ∙ c.as_str.ensures.text))
    (sym (c.in-Some-row_at.ensures ∙ ap (row_of c.in-Some.name.now) c.as_slice.ensures.value))

pub returns-in-Ok : goal.returns-in-Ok
returns-in-Ok c = ok_moves c.push_row.result
    (λ e. subst (AddsNode c.args.dir.now c.args.node.now c.args.rows.now.items) (sym e) (adds_row c.args.dir.now c.args.node.now c.args.rows.now.items c.in-Ok.row place named free c.in-Ok.ensures.shows))
    c.push_row.ensures where
      place : c.args.node.now.path ≡ child c.args.dir.now c.in-Ok.row.name
      place = sym (c.as_bytes-2.ensures.value ∙ c.as_str-2.ensures.text) ∙ c.in-Some.ensures.some.0 ∙ ap (λ d. child d c.in-Some.name.now) (c.as_bytes.ensures.value ∙ c.as_str.ensures.text)
          ∙ ap (child c.args.dir.now) (sym c.in-Ok.ensures.name)

      named : IsRowName c.in-Ok.row.name
      named = subst IsRowName (sym c.in-Ok.ensures.name) c.in-Some.ensures.some.1

      free : row_of c.in-Ok.row.name c.args.rows.now.items ≡ None
      free = ap (λ n. row_of n c.args.rows.now.items) c.in-Ok.ensures.name ∙ sym (c.in-None-row_at.ensures ∙ ap (row_of c.in-Some.name.now) c.as_slice.ensures.value)
