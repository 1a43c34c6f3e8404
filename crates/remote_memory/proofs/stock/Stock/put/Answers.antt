use Rattle.std.proofs.Common.{◌++◌, ◌∙◌, ap, sym, subst, not, [], ◌∷◌}
use Rattle.std.specs.Prelude.{filter}
use Rattle.vfs_outside.specs.Store.{File}
use Rattle.remote_memory.specs.Nodes.{AddsAbove, gives_way}
use Rattle.remote_memory.specs.declared.node.Kept.TheVariants as kept
use Rattle.remote_memory.specs.declared.node.Node.{Node}
use Rattle.remote_memory.proofs.Beneath.{put_stands}
use Rattle.remote_memory.proofs.stock.Stock.put.Goals as goal

pub returns-clause-stands : goal.returns-clause-stands
returns-clause-stands c =
    let file : Node = record { path = c.in-Ok.copy; kept = kept.File (record { mtime = c.args.mtime; rev = c.in-Some.rev; bytes = c.args.bytes }) } in
    let test = λ (n : Node). not (gives_way c.args.path n.path) in
    put_stands c.args.path c.args.self.now.nodes.items c.add_parents.new.nodes.items c.append.new.self.items file (File c.print-print.result c.args.bytes) c.requires
    (c.in-Ok-append.ensures.items ∙ ap (λ l. l ++ c.add_parents.new.nodes.items) (c.clear_way.ensures.items ∙ ap (filter test) c.reserve.ensures.items))
    (subst (λ l. AddsAbove c.args.path l c.add_parents.new.nodes.items) (c.in-Ok-push.ensures.items ∙ ap (λ l. l ++ file ∷ []) c.new-added.ensures.items) c.in-Ok-add_parents.ensures)
    c.in-Ok.ensures
    (ap (λ p. File p c.args.bytes) (sym c.print-print.ensures))
