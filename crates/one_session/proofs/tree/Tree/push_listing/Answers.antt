use Rattle.std.proofs.Common.{arith, ap, ◌∙◌, ◌≡◌, ◌≤◌, ◌+◌, ◌-◌, ℕ, min, vec_len, vec_capacity}
use Rattle.one_session.proofs.Listings.{told_listed}
use Rattle.one_session.proofs.tree.Tree.push_listing.Goals as goal

pub invariant_of-self : goal.invariant_of-self
invariant_of-self c = (
  told_listed c.self.inside.entries.items _ c.args.by c.args.root c.args.listing c.self.inside.handles c.self.inside.listed c.self.inside.rows _ c.requires.root c.put_entry.ensures.items c.requires.rows c.self.invariant.0,
  fits _ _ _ _ _ c.put_entry.ensures.capacity c.put_entry.ensures.len (spared _ _ (ap (λ v. v.spare) c.self.view_is) c.requires.place) c.self.invariant.1,
) where
  fits : {n' : ℕ} (n handles a b limit : ℕ) → a ≤ b → n' ≡ n + 1 → 1 ≤ min a limit - (n + handles) → n + handles ≤ min a limit → n' + handles ≤ min b limit
  fits n handles a b limit le e room h = grind (arith, le, e, room, h)

  spared : {p : ℕ} (a b : ℕ) → a ≡ b → p ≤ b → p ≤ a
  spared a b e h = omega (arith, e, h)
