-- What stands after a node was put.
use Rattle.std.proofs.Common.{◌≡◌, ◌≢◌, ◌∙◌, ap, refl, ◌++◌, not, Bool, true, false, List, [], ◌∷◌, Option, Some, None}
use Rattle.std.specs.Prelude.{filter, if◌then◌else◌}
use Rattle.std.specs.Option.{option_or}
use Rattle.vfs_names.specs.Path.{same_text}
use Rattle.vfs_outside.specs.Store.{Dir, SameStore, Thing, with}
use Rattle.remote_memory.specs.Nodes.{node_at, store_of, thing_in, thing_of}
use Rattle.remote_memory.specs.declared.node.Node.{Node}
use Rattle.remote_memory.proofs.Beneath.{at_root, one_thing, or_none, things-append, things_left}

-- a node was put in the place of those of its path
pub node_stands : (old new : List Node) (node : Node) → node.path ≢ [] → new ≡ filter (λ (n : Node). not (same_text node.path n.path)) old ++ node ∷ []
    → SameStore (store_of new) (with node.path (Some (thing_of node.kept)) (store_of old))
node_stands old new node ne e [] = root (same_text node.path []) (at_root node.path ne) where
  root : (s : Bool) → s ≡ false → Some Dir ≡ (if s then Some (thing_of node.kept) else Some Dir)
  root true x = absurd (cc)
  root false x = refl
node_stands old new node ne e (b ∷ bs) =
    let q = b ∷ bs in
    ap (λ l. thing_in (node_at l q)) e ∙ things-append (filter (λ (n : Node). not (same_text node.path n.path)) old) (node ∷ []) q
    ∙ ap (λ o. option_or o (thing_in (node_at (node ∷ []) q))) (things_left (same_text node.path) old q)
    ∙ ap (λ o. option_or (if same_text node.path q then None else thing_in (node_at old q)) o) (one_thing (same_text node.path q) node)
    ∙ decide (same_text node.path q) (thing_in (node_at old q)) where
      decide : (s : Bool) (o : Option Thing) → option_or (if s then None else o) (if s then Some (thing_of node.kept) else None) ≡ (if s then Some (thing_of node.kept) else o)
      decide true o = refl
      decide false o = or_none o
