-- The plain facts of a file that its metadata tell.
use Rattle.std.specs.Prelude.{◌≡◌, ℕ, if◌then◌else◌, Bool, Option, Some, List, [], ◌∷◌}
use Rattle.vfs_names.specs.declared.fingerprint.Fingerprint.{Fingerprint}
use Rattle.item_core.specs.declared.entry.Entry.{Entry}
use Rattle.item_core.specs.declared.entry.FileKind.{FileKind}
use Rattle.item_core.specs.declared.entry.FileKind.TheVariants.{Adopt}
use Rattle.item_core.specs.Effects.{raises}
use Rattle.item_core.specs.History.{size_of, base_end_of, held_by, is_dirty}
use Rattle.item_core.specs.Names.{name_of}
use Rattle.item_meta.specs.InRange.{IsMeta}
use Rattle.item_meta.specs.declared.meta.Meta.{Meta}

-- the time of the last change after an entry: an adopted object's own, or the moment at which a version began
abbrev pub mtime_after : FileKind → ℕ → ℕ → ℕ
mtime_after (Adopt print) now old = print.mtime
mtime_after kind now old = if raises kind then now else old

-- the time of the last change, or the one that was saved when the epoch began
abbrev pub mtime_of : ℕ → List Entry → ℕ
mtime_of saved [] = saved
mtime_of saved (e ∷ older) = mtime_after e.kind e.by.now (mtime_of saved older)

pub record MetaFacts : Type 0 where
  pub name : Option (List ℕ)
  pub size : ℕ
  pub base_end : ℕ
  pub held : Option Fingerprint
  pub dirty : Bool
  pub mtime : ℕ

-- the facts of a history with the paths beside it
abbrev pub facts_of : ℕ → List Entry → List (List ℕ) → MetaFacts
facts_of saved past names = record {
  name = name_of past names;
  size = size_of past;
  base_end = base_end_of past;
  held = held_by past;
  dirty = is_dirty past;
  mtime = mtime_of saved past;
}

-- the metadata have these facts, and are in range
pub record HasFacts (facts : MetaFacts) (meta : Meta) : Type 0 where
  pub path : facts.name ≡ Some meta.path
  pub size : meta.size ≡ facts.size
  pub base_end : meta.base_end ≡ facts.base_end
  pub base : meta.base ≡ facts.held
  pub dirty : meta.dirty ≡ facts.dirty
  pub mtime : meta.mtime ≡ facts.mtime
  pub fits : IsMeta meta
