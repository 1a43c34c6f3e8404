-- What the parts of a file's book come to.
use Rattle.std.specs.Prelude.{ℕ, Bool, false, is_some, Option, Some, None, List, [], map, reverse}
use Rattle.std.specs.declared.snapshot.Snapshot.{Snapshot}
use Rattle.byte_ranges.specs.declared.Span.{Span}
use Rattle.vfs_names.specs.declared.fingerprint.Fingerprint.{Fingerprint}
use Rattle.item_image.specs.Premise.{Pairs}
use Rattle.item_meta.specs.declared.meta.Meta.{Meta}

-- the fingerprints and bytes of the objects that were given, the newest first
abbrev pub pairs_of : {O : Type 0} → (O → Fingerprint) → (O → List ℕ) → List (Snapshot O) → Pairs
pairs_of {O} print bytes given = map (λ (s : Snapshot O). (print s.value, bytes s.value)) (reverse given)

-- the bytes that are in the slot's file
abbrev pub here_of : Option Meta → List Span
here_of None = []
here_of (Some meta) = meta.ranges

-- a write is saved whose data isn't there yet
abbrev pub pending_of : Option Meta → Bool
pending_of None = false
pending_of (Some meta) = is_some meta.intent
