-- No row of a listing has the name of a stage's file; how its path is put together.
use Rattle.std.proofs.Common.{◌≡◌, ◌∙◌, ap, append_assoc, ℕ, ◌++◌, ◌&&◌, Bool, true, false, List, [], ◌∷◌}
use Rattle.std.specs.Prelude.{codes, decimal}
use Rattle.vfs_names.specs.Path.{is_name}
use Rattle.vfs_outside.specs.RowName.{IsRowName}
use Rattle.remote_folder.specs.Names.{stage_name, stage_path}

and_false : (b : Bool) → (b && false) ≡ true → ⊥
and_false true h = absurd (cc)
and_false false h = absurd (cc)

pub stage_hidden : (number : ℕ) → ¬ (IsRowName (stage_name number))
unfolding is_name
stage_hidden number h = and_false _ h.is_one

pub path_of_pieces : (folder first second third digits : List ℕ) (number : ℕ) → first ≡ folder ++ 47 ∷ [] → second ≡ first ++ codes ".vfs-stage-" → third ≡ second ++ digits → digits ≡ decimal number
    → third ≡ stage_path folder number
path_of_pieces folder first second third digits number a b c d =
    let prefix : List ℕ = codes ".vfs-stage-" in
    c ∙ ap (λ l. l ++ digits) (b ∙ ap (λ l. l ++ prefix) a) ∙ ap (λ l. ((folder ++ 47 ∷ []) ++ prefix) ++ l) d
    ∙ append_assoc (folder ++ 47 ∷ []) prefix (decimal number) ∙ append_assoc folder (47 ∷ []) (prefix ++ decimal number)
