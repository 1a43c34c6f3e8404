use Rattle.std.proofs.Common.{Some, ◌∷◌, ap, sym, ◌∙◌}
use Rattle.atomic_table.specs.Table.{rest}
use Rattle.pass_lock.specs.Slots.{out_with}
use Rattle.pass_lock.proofs.lock.PassLock.lock.Goals as goal

pub exchange-requires : goal.exchange-requires
exchange-requires g c =
    let t = c.take.ensures.took in
    let empty = c.args.pass.now.carries ∙ ap out_with c.requires.free in
    let out = t.2 ∙ ap (λ l. (0, Some t.0) ∷ l) empty in
    (c.take.ensures.same.0 ∙ c.requires.own, (Some t.0, out ∙ ap (λ l. (0, Some t.0) ∷ rest l) (sym out)))
