use Rattle.std.proofs.Common.{ℕ, List, [], Bor, sym, ap, ◌∙◌}
use Rattle.std.proofs.lemmas.List.{take_all}
use Rattle.std.proofs.lemmas.List.Folds.{list_any_at}
use Rattle.std.specs.List.{list_any}
use Rattle.vfs_names.specs.Path.{same_text}
use Rattle.item_meta.proofs.Keys.{list_any-map}
use Rattle.item_meta.proofs.object.is_among.Goals as goal

pub returns-then-eq : goal.returns-then-eq
returns-then-eq c =
    let names = c.args.names.now in
    let test = λ (name : Bor (List ℕ)). same_text c.args.key.now name.now in
    sym (list_any-map (same_text c.args.key.now) (λ (name : Bor (List ℕ)). name.now) names
    ∙ list_any_at test names c.loop-name.name-index (record { ref_ptr = (0, 0); now = [] }) c.loop-name-test.true (sym c.eq.ensures ∙ c.if-eq.true))

pub returns : goal.returns
returns c =
    let names = c.args.names.now in
    let test = λ (name : Bor (List ℕ)). same_text c.args.key.now name.now in
    sym (list_any-map (same_text c.args.key.now) (λ (name : Bor (List ℕ)). name.now) names
    ∙ ap (list_any test) (sym (take_all c.loop-name.name-index names c.loop-name-test.false)) ∙ c.loop-name.invariant)
