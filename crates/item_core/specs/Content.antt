-- The bytes of a file, found by going back from the newest entry.
use Rattle.std.specs.Prelude.{◌≡◌, ◌≤◌, ◌<◌, ℕ, zero, suc, ◌+◌, ◌-◌, ◌&&◌, nat_lt, nat_le, if◌then◌else◌, Option, Some, None, List, [], ◌∷◌, length, slice_index, unwrap_or}
use Rattle.std.specs.List.{AllByRecursion}
use Rattle.vfs_names.specs.Payload.{payload_len, payload_byte}
use Rattle.vfs_names.specs.Fingerprint.{Agree}
use Rattle.vfs_names.specs.declared.fingerprint.Fingerprint.{Fingerprint}
use Rattle.item_core.specs.declared.entry.Entry.{Entry}
use Rattle.item_core.specs.declared.entry.FileKind.{FileKind}
use Rattle.item_core.specs.declared.entry.FileKind.TheVariants.{Create, Recovered, Adopt, Write, SetSize, Uploaded}
use Rattle.item_core.specs.History.{size_of}

-- What the bytes come from: each fingerprint's content, and at the start of an epoch the saved bytes, None where none was saved.
pub record Known : Type 0 where
  pub content : Fingerprint → List ℕ
  pub saved : ℕ → Option ℕ

-- the byte that the base object gives: none from the base end on
abbrev pub base_byte : Known → ℕ → Option Fingerprint → ℕ → ℕ
base_byte known base_end None p = 0
base_byte known base_end (Some base) p = if nat_lt p base_end then slice_index (known.content base) p else 0

-- the byte at p after an entry, from the byte before it
abbrev pub byte_after : Known → FileKind → ℕ → ℕ → ℕ
byte_after known Create p old = 0
byte_after known (Recovered size base_end dirty base) p old = unwrap_or (known.saved p) (base_byte known base_end base p)
byte_after known (Adopt print) p old = if nat_lt p print.size then slice_index (known.content print) p else 0
byte_after known (Write pos payload) p old = if nat_le pos p && nat_lt p (pos + payload_len payload) then payload_byte payload (p - pos) else old
byte_after known (SetSize n) p old = if nat_le n p then 0 else old
byte_after known _ p old = old

-- the byte at p, for p below the size of a kept file
abbrev pub byte_at : Known → List Entry → ℕ → ℕ
byte_at known [] p = 0
byte_at known (e ∷ older) p = byte_after known e.kind p (byte_at known older p)

-- n bytes from a position on
abbrev pub bytes_at : Known → List Entry → ℕ → ℕ → List ℕ
bytes_at known past pos zero = []
bytes_at known past pos (suc n) = byte_at known past pos ∷ bytes_at known past (suc pos) n

-- the whole content
abbrev pub content_of : Known → List Entry → List ℕ
content_of known past = bytes_at known past 0 (size_of past)

-- the contents are those of these objects, which were told
abbrev pub HasPairs : Known → List (Fingerprint × List ℕ) → Type 0
HasPairs known pairs = AllByRecursion (λ pair. known.content pair.0 ≡ pair.1) pairs

-- a fingerprint names one content: fingerprints that agree have one list, as long as they say
pub record IsFaithful (known : Known) : Type 0 where
  pub same : (a b : Fingerprint) → Agree a b → known.content a ≡ known.content b
  pub sized : (print : Fingerprint) → length (known.content print) ≡ print.size

-- the saved bytes lie below the size that was saved
abbrev pub SavedFits : Known → FileKind → Type 0
SavedFits known (Recovered size base_end dirty base) = (p : ℕ) → size ≤ p → known.saved p ≡ None
SavedFits known _ = Unit {0}

abbrev pub IsFitting : Known → List Entry → Type 0
IsFitting known [] = Unit {0}
IsFitting known (e ∷ older) = SavedFits known e.kind × IsFitting known older

-- what was uploaded is the file's content
abbrev pub SavesContent : Known → List Entry → FileKind → Type 0
SavesContent known past (Uploaded start print) = (p : ℕ) → p < size_of past → slice_index (known.content print) p ≡ byte_at known past p
SavesContent known past _ = Unit {0}

-- each upload saved the content that the file had then
abbrev pub IsSavedWhole : Known → List Entry → Type 0
IsSavedWhole known [] = Unit {0}
IsSavedWhole known (e ∷ older) = SavesContent known older e.kind × IsSavedWhole known older
