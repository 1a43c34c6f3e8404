-- What the laws of legal histories speak of.
use Rattle.std.specs.Prelude.{◌≡◌, ℕ, Bool, true, false, not, List, ◌∷◌, ◌++◌}
use Rattle.std.specs.List.{AllByRecursion}
use Rattle.item_core.specs.declared.entry.Entry.{Entry}
use Rattle.item_core.specs.declared.entry.FileKind.{FileKind}
use Rattle.item_core.specs.declared.entry.FileKind.TheVariants.{Recovered, Bind, Adopt, Read, Stat, Opened, Closed, Rename, UploadStart, Uploaded, UploadDropped, Evict, Discard, Refused}
use Rattle.item_core.specs.Effects.{raises}
use Rattle.item_core.specs.History.{size_of}
use Rattle.item_core.specs.Content.{Known, byte_at}

-- an entry that says nothing of content or size
abbrev pub is_quiet : FileKind → Bool
is_quiet (Read pos len) = true
is_quiet Stat = true
is_quiet (Opened access) = true
is_quiet Closed = true
is_quiet (Bind print) = true
is_quiet (Rename path) = true
is_quiet (UploadStart version) = true
is_quiet (UploadDropped start why) = true
is_quiet (Uploaded start print) = true
is_quiet (Refused verb why) = true
is_quiet _ = false

-- dirty data ends by these alone
abbrev pub ends_dirt : FileKind → Bool
ends_dirt (Uploaded start print) = true
ends_dirt Discard = true
ends_dirt _ = false

-- an entry that may stand between the start of an upload and its end: it begins no new version, and neither brings other content nor ends it
abbrev pub keeps_content : FileKind → Bool
keeps_content (Recovered size base_end dirty base) = false
keeps_content Evict = false
keeps_content Discard = false
keeps_content (Adopt print) = false
keeps_content kind = not (raises kind)

-- what stands between a start and the end of its upload keeps the content, and so size and bytes are those of the start
pub record IsWhole (mid : List Entry) (start : Entry) (older : List Entry) : Type 0 where
  pub between : AllByRecursion (λ e. keeps_content e.kind ≡ true) mid
  pub size : size_of (mid ++ start ∷ older) ≡ size_of older
  pub bytes : (known : Known) (p : ℕ) → byte_at known (mid ++ start ∷ older) p ≡ byte_at known older p
