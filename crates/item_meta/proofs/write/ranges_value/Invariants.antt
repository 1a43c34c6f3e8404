use Rattle.std.proofs.Common.{◌≡◌, take}
use Rattle.serde_json.specs.View.{items_view}
use Rattle.item_meta.specs.Value.{spans_items}
use Rattle.item_meta.proofs.write.ranges_value.Given as goal

abbrev pub invariant-loop-span : goal.invariant-loop-span
invariant-loop-span l = items_view l.list.items ≡ spans_items (take l.span-index l.spans)
