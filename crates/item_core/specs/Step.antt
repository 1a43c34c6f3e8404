-- How the counters that stand beside a history change by an entry, and what they are to be.
use Rattle.std.specs.Prelude.{◌≡◌, ℕ, ◌+◌, ◌-◌, ◌≤◌, ◌==◌, ◌^◌, ◌||◌, ◌&&◌, Bool, false, if◌then◌else◌, List}
use Rattle.vfs_names.specs.Payload.{payload_len}
use Rattle.item_core.specs.declared.entry.Entry.{Entry}
use Rattle.item_core.specs.declared.entry.FileKind.{FileKind}
use Rattle.item_core.specs.declared.entry.FileKind.TheVariants.{Write}
use Rattle.item_core.specs.declared.facts.Facts.{Facts}
use Rattle.item_core.specs.Effects.{size_after, base_end_after, held_after, kept_after, dirty_after, raises, is_opened, is_closed, is_start, is_end}
use Rattle.item_core.specs.History.{size_of, base_end_of, held_by, is_kept, version_of, is_dirty, opens_of, is_modified, begun_of}
use Rattle.item_core.specs.Legal.{IsLegal}

-- the end of what is written fits
abbrev pub EndFits : FileKind → Type 0
EndFits (Write pos payload) = pos + payload_len payload ≤ 2 ^ 40
EndFits _ = Unit {0}

-- a counter that some kinds raise
abbrev pub raised : Bool → ℕ → ℕ
raised more old = if more then old + 1 else old

-- a counter that some kinds raise and others lower
abbrev pub moved : Bool → Bool → ℕ → ℕ
moved more less old = if more then old + 1 else (if less then old - 1 else old)

abbrev pub modified_after : FileKind → ℕ → Bool → Bool
modified_after kind opens old = if is_closed kind && (opens == 1) then false else raises kind || old

-- the facts after an entry, from those before it
abbrev pub facts_after : FileKind → Facts → Facts
facts_after kind old = record {
  version = raised (raises kind) old.version;
  size = size_after kind old.size;
  base_end = base_end_after kind old.size old.base_end;
  held = held_after kind old.held;
  kept = kept_after kind old.kept;
  dirty = dirty_after kind old.dirty;
  modified = modified_after kind old.opens old.modified;
  opens = moved (is_opened kind) (is_closed kind) old.opens;
  begun = moved (is_start kind) (is_end kind) old.begun;
}

-- what stands beside the entries is what follows from them
pub record IsTold (past : List Entry) (facts : Facts) : Type 0 where
  pub legal : IsLegal past
  pub version : facts.version ≡ version_of past
  pub size : facts.size ≡ size_of past
  pub base_end : facts.base_end ≡ base_end_of past
  pub held : facts.held ≡ held_by past
  pub kept : facts.kept ≡ is_kept past
  pub dirty : facts.dirty ≡ is_dirty past
  pub modified : facts.modified ≡ is_modified past
  pub opens : facts.opens ≡ opens_of past
  pub begun : facts.begun ≡ begun_of past
