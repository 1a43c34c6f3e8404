-- What one step of a write leaves: the part of a payload that lies in one block.
use Rattle.std.specs.Prelude.{◌≡◌, ℕ, ◌+◌, ◌-◌, ◌/◌, ◌%◌, ◌<◌, ◌≤◌, ◌&&◌, nat_lt, nat_le, if◌then◌else◌, List, length, slice_index}
use Rattle.vfs_names.specs.Payload.{payload_byte}
use Rattle.vfs_names.specs.declared.payload.Payload.{Payload}
use Rattle.sparse_bytes.specs.declared.sparse.SparseBytes.{SparseBytes}
use Rattle.sparse_bytes.specs.Bytes.{block_of}

-- the bytes f, but from low on and before high those of a payload that begins at pos
abbrev pub written_between : (ℕ → ℕ) → ℕ → Payload → ℕ → ℕ → ℕ → ℕ
written_between f pos payload low high p = if nat_le low p && nat_lt p high then payload_byte payload (p - pos) else f p

-- the bytes are those of the payload from `from` on
abbrev pub HoldsPayload : List ℕ → Payload → ℕ → Type 0
HoldsPayload bytes payload from = (i : ℕ) → i < length bytes → slice_index bytes i ≡ payload_byte payload (from + i)

-- the blocks hold each position from low on and before high
abbrev pub HasRoom : SparseBytes → ℕ → ℕ → Type 0
HasRoom s low high = (p : ℕ) → low ≤ p → p < high → p % 4096 < length (block_of s (p / 4096))

-- no block of new is shorter than it was
abbrev pub IsGrown : SparseBytes → SparseBytes → Type 0
IsGrown old new = (number : ℕ) → length (block_of old number) ≤ length (block_of new number)

-- each block is as long as it was
abbrev pub SameLengths : SparseBytes → SparseBytes → Type 0
SameLengths old new = (number : ℕ) → length (block_of new number) ≡ length (block_of old number)
