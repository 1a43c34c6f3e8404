use Rattle.std.proofs.Common.{◌≡◌, ◌++◌, drop, option_map}
use Rattle.serde_json.specs.View.{items_view}
use Rattle.item_meta.specs.Object.{all_spans}
use Rattle.item_meta.proofs.fields.spans_of.Given as goal

abbrev pub invariant-loop-item : goal.invariant-loop-item
invariant-loop-item l = all_spans (items_view l.items) ≡ option_map (λ rest. l.spans.items ++ rest) (all_spans (items_view (drop l.item-index l.items)))
