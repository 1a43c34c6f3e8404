use Rattle.std.proofs.Common.{arith, ap, ◌∙◌, ◌≡◌, ◌<◌, ◌≤◌, ℕ, true, min, vec_len, vec_capacity}
use Rattle.one_session.specs.Tree.{is_close, handles_of}
use Rattle.one_session.proofs.Listings.{told_more, room_by}
use Rattle.one_session.proofs.tree.Tree.push.Goals as goal

closes : (c : goal.After-put_entry) → is_close c.args.entry.kind ≡ true → 0 < c.self.inside.handles
closes c h = omega (arith, c.self.invariant.0.counted, c.requires.close h, ap (λ v. handles_of v.entries) c.self.view_is)

pub invariant_of-self : goal.invariant_of-self
invariant_of-self c = (
  told_more c.self.inside.entries.items _ c.args.entry c.self.inside.handles _ c.self.inside.listed c.self.inside.rows _ c.put_entry.ensures.items c.handles_after-self-inside.ensures c.reprint.ensures
      c.self.invariant.0 (closes c) c.requires.unlisted,
  rw (c.put_entry.ensures.len, c.handles_after-self-inside.ensures) (fits _ _ _ _ c.put_entry.ensures.capacity
      (room_by c.args.entry.kind (min (vec_capacity c.self.inside.entries) c.self.inside.limit) (vec_len c.self.inside.entries) c.self.inside.handles (spared _ _ (ap (λ v. v.spare) c.self.view_is) c.requires.place) c.self.invariant.1 (closes c))),
) where
  fits : (n a b limit : ℕ) → a ≤ b → n ≤ min a limit → n ≤ min b limit
  fits n a b limit le h = grind (arith, le, h)

  spared : {p : ℕ} (a b : ℕ) → a ≡ b → p ≤ b → p ≤ a
  spared a b e h = omega (arith, e, h)
