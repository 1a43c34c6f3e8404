-- What a write needs of a file's history, and what it adds.
use Rattle.std.proofs.Common.{◌≡◌, ◌<◌, ℕ, ◌||◌, Bool, true, List, ap, ◌∙◌}
use Rattle.byte_ranges.specs.Ranges.{has, is_in}
use Rattle.byte_ranges.specs.declared.Span.{Span}
use Rattle.vfs_names.specs.Payload.{payload_len}
use Rattle.vfs_names.specs.declared.payload.Payload.{Payload}
use Rattle.vfs_names.specs.declared.who.By.{By}
use Rattle.item_core.specs.declared.entry.Entry.{Entry}
use Rattle.item_core.specs.declared.entry.FileKind.TheVariants as kinds
use Rattle.item_core.specs.History.{opens_by}
use Rattle.item_core.specs.Legal.{Allows, IsLegal}
use Rattle.sparse_item.specs.Answers.{Adds, IsWritable}
use Rattle.sparse_item.proofs.Kept.{opened_kept}

-- a pass that has a handle may write so much
pub may_write : (past : List Entry) (pos : ℕ) (payload : Payload) (by : By) → IsLegal past → 0 < opens_by by.pass past → IsWritable pos (payload_len payload)
    → Allows past (kinds.Write pos payload) by
may_write past pos payload by legal own fits = (opened_kept past by.pass legal own, own, fits.0, fits.1)

-- what was here still is
pub adds_grow : (here here' : List Span) (span : Span) → Adds here here' span → (p : ℕ) → has here p ≡ true → has here' p ≡ true
adds_grow here here' span adds p h = adds p ∙ ap (λ (b : Bool). b || is_in span p) h
