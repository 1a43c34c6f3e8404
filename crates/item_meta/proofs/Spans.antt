-- The JSON value of a list of spans, as it grows.
use Rattle.std.proofs.Common.{◌≡◌, List, [], ◌∷◌, ◌++◌, refl, ap, sym, ◌∙◌}
use Rattle.byte_ranges.specs.declared.Span.{Span}
use Rattle.serde_json.specs.Data.{Data, Items, no_items, item}
use Rattle.serde_json.specs.View.{items_view}
use Rattle.serde_json.specs.declared.value.Value.{Value}
use Rattle.serde_json.specs.View.{view}
use Rattle.item_meta.specs.Value.{span_data, spans_items}

-- one more item at the end
abbrev pub with_item : Items → Data → Items
with_item no_items d = item d no_items
with_item (item e rest) d = item e (with_item rest d)

pub items_view-push : (vs : List Value) (v : Value) → items_view (vs ++ v ∷ []) ≡ with_item (items_view vs) (view v)
items_view-push [] v = refl
items_view-push (w ∷ vs) v = ap (item (view w)) (items_view-push vs v)

pub spans_items-push : (spans : List Span) (span : Span) → spans_items (spans ++ span ∷ []) ≡ with_item (spans_items spans) (span_data span)
spans_items-push [] span = refl
spans_items-push (s ∷ spans) span = ap (item (span_data s)) (spans_items-push spans span)

-- a pushed value that is one more span's
pub pushed : (vs : List Value) (v : Value) (spans : List Span) (span : Span) → items_view vs ≡ spans_items spans → view v ≡ span_data span → items_view (vs ++ v ∷ []) ≡ spans_items (spans ++ span ∷ [])
pushed vs v spans span same one = items_view-push vs v ∙ ap (λ ds. with_item ds (view v)) same ∙ ap (with_item (spans_items spans)) one ∙ sym (spans_items-push spans span)
