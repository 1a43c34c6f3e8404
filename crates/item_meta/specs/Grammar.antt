-- Which texts are metadata, and of which.
use Rattle.std.specs.Prelude.{◌≡◌, ℕ, List, IsUtf8}
use Rattle.item_meta.specs.declared.meta.Meta.{Meta}
use Rattle.item_meta.specs.InRange.{IsMeta, FitsTypes}
use Rattle.item_meta.specs.Text.{meta_text}

-- The text is UTF-8, and the one of these metadata, which are in range.
pub record IsTextOf (meta : Meta) (text : List ℕ) : Type 0 where
  pub utf8 : IsUtf8 text
  pub fits : FitsTypes meta
  pub in_range : IsMeta meta
  pub spelled : text ≡ meta_text meta
