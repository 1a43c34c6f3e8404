-- The length and the bytes of a payload.
use Rattle.std.specs.Prelude.{ℕ, ◌+◌, ◌*◌, ◌%◌, length, slice_index}
use Rattle.vfs_names.specs.declared.payload.Payload.{Payload}
use Rattle.vfs_names.specs.declared.payload.Payload.TheVariants.{Bytes, Fill, Pattern}

abbrev pub payload_len : Payload → ℕ
payload_len (Bytes bytes) = length bytes
payload_len (Fill byte len) = len
payload_len (Pattern seed len) = len

-- the byte at i
abbrev pub payload_byte : Payload → ℕ → ℕ
payload_byte (Bytes bytes) i = slice_index bytes i
payload_byte (Fill byte len) i = byte
payload_byte (Pattern seed len) i = (seed + 7 * i) % 251
