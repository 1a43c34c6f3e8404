use Rattle.std.proofs.Common.{take, get_or, ap, sym, ◌∙◌}
use Rattle.std.proofs.lemmas.List.{take_more, take_all}
use Rattle.serde_json.proofs.Views.{view-Array}
use Rattle.serde_json.specs.Data.{array}
use Rattle.serde_json.specs.View.{items_view}
use Rattle.item_meta.specs.Value.{spans_items}
use Rattle.item_meta.proofs.Spans.{pushed}
use Rattle.item_meta.proofs.write.ranges_value.Goals as goal

pub loop-span-preserved : goal.loop-span-preserved
loop-span-preserved c =
    let i = c.loop-span.span-index in
    let span = get_or c.args.spans.now i (record { start = 0; end = 0 }) in
    ap items_view c.in_ok-push.ensures.ok
    ∙ pushed _ _ (take i c.args.spans.now) span c.loop-span.invariant c.in_ok-pair.ensures
    ∙ ap spans_items (sym (take_more c.args.spans.now i (record { start = 0; end = 0 }) c.loop-span-test.true))

pub returns : goal.returns
returns c = view-Array _ ∙ ap array (c.loop-span.invariant ∙ ap spans_items (take_all _ c.args.spans.now c.loop-span-test.false))
