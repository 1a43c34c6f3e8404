use Rattle.std.proofs.Common.{Some, [], ◌∷◌, ◌++◌, ap, ◌∙◌}
use Rattle.pass_lock.proofs.Keeps.{begins}
use Rattle.pass_lock.proofs.lock.PassLock.new.Goals as goal

pub new-requires : goal.new-requires
new-requires g c =
    let items = c.in_default.ensures.items ∙ ap (λ l. l ++ Some c.args.state ∷ []) c.new-slots.ensures.items in
    rw (items, c.of-key.ensures) (begins g.S.Logged.entries g.S.Logged.belongs g.S.Logged.terms c.args.state c.count.result c.count.ensures c.requires.alone)
