use Rattle.std.proofs.Common.{arith, ap, ◌∙◌, ◌≡◌, ◌≤◌, ◌+◌, ◌-◌, ℕ, Some, false, true, if◌then◌else◌, min, refl, vec_len, vec_capacity}
use Rattle.vfs_names.specs.Path.{same_text}
use Rattle.vfs_outside.specs.declared.tree.TreeKind.TheVariants.{Stored}
use Rattle.shown_rows.specs.Shown.{shown_in}
use Rattle.shown_rows.specs.declared.Shown.TheVariants.{Object}
use Rattle.one_session.specs.Calls.{in_tree}
use Rattle.one_session.proofs.Listings.{told_more}
use Rattle.one_session.proofs.tree.Tree.push_stored.Goals as goal

pub invariant_of-self : goal.invariant_of-self
invariant_of-self c = (
  told_more c.self.inside.entries.items _ (in_tree c.args.by (Stored c.args.path c.args.print)) c.self.inside.handles c.self.inside.handles c.self.inside.listed c.self.inside.rows _ c.put_entry.ensures.items refl
      (λ path. c.put_object.ensures path ∙ ap (λ name. if same_text name path then Some (Object c.args.print) else shown_in c.self.inside.rows path) c.requires.name)
      c.self.invariant.0 (λ e. absurd (no e)) refl,
  fits _ _ _ _ _ c.put_entry.ensures.capacity c.put_entry.ensures.len (spared _ _ (ap (λ v. v.spare) c.self.view_is) c.requires.place) c.self.invariant.1,
) where
  no : false ≡ true → ⊥
  no e = cc

  fits : {n' : ℕ} (n handles a b limit : ℕ) → a ≤ b → n' ≡ n + 1 → 1 ≤ min a limit - (n + handles) → n + handles ≤ min a limit → n' + handles ≤ min b limit
  fits n handles a b limit le e room h = grind (arith, le, e, room, h)

  spared : {p : ℕ} (a b : ℕ) → a ≡ b → p ≤ b → p ≤ a
  spared a b e h = omega (arith, e, h)
