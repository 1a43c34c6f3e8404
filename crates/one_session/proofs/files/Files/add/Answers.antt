use Rattle.std.proofs.Common.{◌≡◌, ◌∙◌, ◌-◌, ◌++◌, ◌∷◌, [], ap, sym, subst, arith, min, vec_len, vec_capacity}
use Rattle.std.specs.List.{AllByRecursion}
use Rattle.sparse_item.specs.Item.{Item}
use Rattle.one_session.specs.Queued.{IsQueued, owed_item}
use Rattle.one_session.proofs.Queued.{owed_end, queued_along}
use Rattle.one_session.proofs.Shelves.{limits_end}
use Rattle.one_session.proofs.files.Files.add.Goals as goal

pub unwrap-requires : goal.unwrap-requires
unwrap-requires g c =
    let e : min (vec_capacity c.self.inside.files) (vec_capacity c.self.inside.logs) - vec_len c.self.inside.files ≡ c.args.self.now.spare = ap (λ v. v.spare) c.self.view_is in
    c.push.ensures.succeeds (omega (arith, c.requires.spare, e))

pub invariant_of-self : goal.invariant_of-self
invariant_of-self g c =
    let e : min (vec_capacity c.self.inside.files) (vec_capacity c.self.inside.logs) - vec_len c.self.inside.files ≡ c.args.self.now.spare = ap (λ v. v.spare) c.self.view_is in (
      c.self.invariant.0,
      omega (arith, c.requires.spare, e, c.push.ensures.upper_bound),
      subst (λ l. AllByRecursion (λ (item : Item). item.log.limit ≡ c.self.inside.limit) l) (sym (rw c.unwrap.ensures at c.push.ensures.items))
          (limits_end c.self.inside.limit c.self.inside.files.items c.args.file (c.requires.limit ∙ sym (ap (λ v. v.limit) c.self.view_is)) c.self.invariant.2),
      subst (λ l. IsQueued c.self.inside.queue.terms (owed_item l) c.self.inside.queue.entries) (sym (rw c.unwrap.ensures at c.push.ensures.items))
          (queued_along c.self.inside.queue.terms (owed_item c.self.inside.files.items) (owed_item (c.self.inside.files.items ++ c.args.file ∷ [])) c.self.inside.queue.entries
          (owed_end c.self.inside.files.items c.args.file c.requires.owed) c.self.invariant.3),
      c.self.invariant.4,
    )
