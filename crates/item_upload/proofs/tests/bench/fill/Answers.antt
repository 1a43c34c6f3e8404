use Rattle.std.proofs.Common.{◌≡◌, ◌∙◌, ◌≤◌, ◌++◌, ℕ, List, true, length, sym, ap, arith}
use Rattle.item_core.specs.History.{is_dirty, size_of}
use Rattle.item_upload.specs.Blocks.{IsStep}
use Rattle.item_upload.specs.declared.blocks.Step.TheVariants as steps
use Rattle.item_upload.proofs.Standing.{small_staged, was_true}
use Rattle.sparse_item.specs.Item.{Item}
use Rattle.item_upload.proofs.tests.bench.fill.Goals as goal

pub returns-in-Ok-clause-staged : goal.returns-in-Ok-clause-staged
returns-in-Ok-clause-staged g c =
    let old = c.args.book.now in
    let new = c.block.new.item in
    let bytes = c.in-Ok-Bytes.bytes in
    let step : IsStep g.F.CacheFile.tells g.R.Object.Object.tells old c.args.upload.now 0 (steps.Bytes bytes) = rw c.in-Ok-Bytes.field-0-is at c.in-Ok-Bytes.ensures.step in
    let same : c.as_slice.result.now ≡ bytes = c.as_slice.ensures in
    let size : length c.as_slice.result.now ≡ length bytes = ap length same in
    let before = g.R.Remote.staged c.args.stage in
    let dirty : is_dirty old.log.past ≡ true = sym c.look-look.ensures.dirty ∙ was_true c.look-look.result.dirty c.if-not-look.false in
    let small : size_of old.log.past ≤ 131072 = omega (arith, c.look-look.ensures.size, c.if-look-gt131072.false) in
    small_staged old new bytes (g.R.Remote.staged c.append.new.stage) before (g.R.Remote.stage_len c.append.new.stage)
    (ap (λ (v : Item). v.log.past) c.in-Ok-Bytes.ensures.same) (ap (λ (v : Item). v.pairs) c.in-Ok-Bytes.ensures.same) c.in-Ok-Bytes.ensures.slot dirty small step.1 step.2
    (c.in-Ok-Bytes.ensures.got step.0) (omega (arith, c.in-Ok.ensures.longer, c.requires, size))
    (λ t. c.in-Ok.ensures.staged t ∙ ap (λ (xs : List ℕ). before ++ xs) same)
    (λ t. sym (g.met.R.Remote.told_stages t c.args.stage) ∙ c.requires)
