-- What a file's book shows once an object was given.
use Rattle.std.proofs.Common.{◌≡◌, ℕ, List, ◌∷◌, ap, ◌∙◌}
use Rattle.vfs_names.specs.declared.fingerprint.Fingerprint.{Fingerprint}
use Rattle.item_core.specs.Log.{Log}
use Rattle.item_image.specs.Premise.{Pairs}
use Rattle.base_object.specs.Base.{Base}
use Rattle.sparse_item.specs.Item.{Item}

-- the object stands behind the file, and nothing else has changed
pub given_item : {v new : Item} {pairs : Pairs} {base b : Base} {log : Log} (old : Item) (pair : Fingerprint × List ℕ) → v ≡ record old { log = log }
    → new ≡ record v { log = new.log; pairs = pairs; base = base } → pairs ≡ pair ∷ v.pairs → base ≡ b
    → new ≡ record old { log = new.log; pairs = pair ∷ old.pairs; base = b }
given_item {v = v} {new = new} {base = base} {b = b} old pair same noted more bound =
    noted ∙ ap (λ (ps : Pairs). record v { log = new.log; pairs = ps; base = base }) more
    ∙ ap (λ (x : Base). record v { log = new.log; pairs = pair ∷ v.pairs; base = x }) bound
    ∙ ap (λ (x : Item). record x { log = new.log; pairs = pair ∷ x.pairs; base = b }) same
