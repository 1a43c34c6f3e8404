-- The bytes that a `SparseBytes` holds, and what a write and a cut make of bytes.
use Rattle.std.specs.Prelude.{◌≡◌, ℕ, zero, suc, ◌+◌, ◌-◌, ◌/◌, ◌%◌, ◌&&◌, nat_lt, nat_le, if◌then◌else◌, List, [], ◌∷◌, Option, Some, None, Vec, slice_index}
use Rattle.std.specs.Ordering.{nat_cmp}
use Rattle.std.specs.BTreeMap.{get}
use Rattle.std.specs.declared.alloc.Global.{Global}
use Rattle.vfs_names.specs.Payload.{payload_len, payload_byte}
use Rattle.vfs_names.specs.declared.payload.Payload.{Payload}
use Rattle.sparse_bytes.specs.declared.sparse.SparseBytes.{SparseBytes}

-- what a block holds: nothing where there is none
abbrev pub bytes_in : Option (Vec ℕ Global) → List ℕ
bytes_in None = []
bytes_in (Some block) = block.items

-- what the block of a number holds
abbrev pub block_of : SparseBytes → ℕ → List ℕ
block_of s number = bytes_in (get nat_cmp s.blocks number)

-- the byte at p: 0 where no block reaches
unfoldable pub byte_of : SparseBytes → ℕ → ℕ
byte_of s p = slice_index (block_of s (p / 4096)) (p % 4096)

-- the byte at each position p is f p
abbrev pub HasBytes : SparseBytes → (ℕ → ℕ) → Type 0
HasBytes s f = (p : ℕ) → byte_of s p ≡ f p

-- n bytes from a position on
abbrev pub bytes_from : (ℕ → ℕ) → ℕ → ℕ → List ℕ
bytes_from f pos zero = []
bytes_from f pos (suc n) = f pos ∷ bytes_from f (suc pos) n

-- the bytes f with a payload written over them from a position on
abbrev pub written : (ℕ → ℕ) → ℕ → Payload → ℕ → ℕ
written f pos payload p = if nat_le pos p && nat_lt p (pos + payload_len payload) then payload_byte payload (p - pos) else f p

-- the bytes f below n, and 0 from there on
abbrev pub cut_at : (ℕ → ℕ) → ℕ → ℕ → ℕ
cut_at f n p = if nat_le n p then 0 else f p
