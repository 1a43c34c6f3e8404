-- Which metadata are in range.
use Rattle.std.specs.Prelude.{◌≡◌, ◌≢◌, ℕ, ◌+◌, ◌<◌, ◌≤◌, ◌^◌, Bool, true, false, List, [], length, Option, Some, None, ⊤}
use Rattle.byte_ranges.specs.declared.Span.{Span}
use Rattle.byte_ranges.specs.Ranges.{IsCanonical, IsBelow, Covers}
use Rattle.hex.specs.Hex.{IsBytes}
use Rattle.vfs_names.specs.Path.{is_path}
use Rattle.vfs_names.specs.declared.fingerprint.Fingerprint.{Fingerprint}
use Rattle.item_meta.specs.declared.meta.Intent.{Intent}
use Rattle.item_meta.specs.declared.meta.Meta.{Meta}

-- a path other than the root
abbrev pub IsFile : List ℕ → Type 0
IsFile path = (is_path path ≡ true) × (path ≢ [])

abbrev pub IsSize : ℕ → Type 0
IsSize n = n ≤ 2 ^ 40

-- the size of the base, or 0 where there is none
abbrev pub base_size : Option Fingerprint → ℕ
base_size None = 0
base_size (Some print) = print.size

-- neither the file nor its base ends before it
abbrev pub IsBaseEnd : ℕ → Option Fingerprint → ℕ → Type 0
IsBaseEnd size base base_end = (base_end ≤ size) × (base_end ≤ base_size base)

-- sorted spans that don't touch, none past the file's end
abbrev pub ArePresent : ℕ → List Span → Type 0
ArePresent size ranges = IsCanonical ranges × IsBelow size ranges

-- the file is all of its base, and no more
abbrev pub IsAllBase : ℕ → Option Fingerprint → ℕ → Type 0
IsAllBase size None base_end = ⊥
IsAllBase size (Some print) base_end = (size ≡ print.size) × (base_end ≡ print.size)

-- a file that is not dirty is all of its base
abbrev pub IsMark : ℕ → Option Fingerprint → ℕ → Bool → Type 0
IsMark size base base_end dirty = dirty ≡ false → IsAllBase size base base_end

-- the intent has bytes, and they lie within the file, are present, and make it dirty
pub record IsIntent (size : ℕ) (ranges : List Span) (dirty : Bool) (intent : Intent) : Type 0 where
  pub some : 0 < length intent.bytes
  pub most : length intent.bytes ≤ 131072
  pub within : intent.pos + length intent.bytes ≤ size
  pub present : Covers ranges
      (record { start = intent.pos; end = intent.pos + length intent.bytes })
  pub marked : dirty ≡ true

abbrev pub IsPending : ℕ → List Span → Bool → Option Intent → Type 0
IsPending size ranges dirty None = ⊤
IsPending size ranges dirty (Some intent) = IsIntent size ranges dirty intent

-- The metadata are in range.
pub record IsMeta (meta : Meta) : Type 0 where
  pub path : IsFile meta.path
  pub size : IsSize meta.size
  pub base : IsSize (base_size meta.base)
  pub base_end : IsBaseEnd meta.size meta.base meta.base_end
  pub ranges : ArePresent meta.size meta.ranges
  pub dirty : IsMark meta.size meta.base meta.base_end meta.dirty
  pub intent : IsPending meta.size meta.ranges meta.dirty meta.intent

-- ---- what the types of the fields say

abbrev pub FitsBase : Option Fingerprint → Type 0
FitsBase None = ⊤
FitsBase (Some print) = (print.mtime < 2 ^ 64) × (print.rev < 2 ^ 64)

abbrev pub FitsIntent : Option Intent → Type 0
FitsIntent None = ⊤
FitsIntent (Some intent) = IsBytes intent.bytes

-- Moments and revisions are below 2^64, and the intent's bytes below 256.
pub record FitsTypes (meta : Meta) : Type 0 where
  pub mtime : meta.mtime < 2 ^ 64
  pub atime : meta.atime < 2 ^ 64
  pub base : FitsBase meta.base
  pub intent : FitsIntent meta.intent
