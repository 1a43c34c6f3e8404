use Rattle.std.proofs.Common.{ℕ, List, Bor, ap, map, string_bytes, sym, ◌∙◌}
use Rattle.std.specs.List.{list_all, list_any}
use Rattle.vfs_names.specs.Path.{same_text}
use Rattle.item_meta.proofs.Keys.{all_left, first_fails}
use Rattle.item_meta.proofs.object.are_among.Goals as goal

pub returns-then-not-is_among : goal.returns-then-not-is_among
returns-then-not-is_among c =
    let test = λ (k : List ℕ). list_any (same_text k) (map (λ (name : Bor (List ℕ)). name.now) c.args.names.now) in
    let left = c.loop-key.key-iterator in
    sym (all_left test c.args.members.now.entries left c.loop-key.invariant
    ∙ first_fails test left _ c.in-Some.key.now c.as_str.result.now c.in-Some.ensures.steps c.as_str.ensures.value (sym c.is_among.ensures ∙ c.if-not-is_among.true))

pub returns : goal.returns
returns c =
    let test = λ (k : List ℕ). list_any (same_text k) (map (λ (name : Bor (List ℕ)). name.now) c.args.names.now) in
    sym (all_left test c.args.members.now.entries c.loop-key.key-iterator c.loop-key.invariant ∙ ap (λ ks. list_all test (map string_bytes ks)) c.in-None.ensures.steps.0)
