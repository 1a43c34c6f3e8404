-- What blocks of bytes hold of an image's data, and what single calls do.
use Rattle.std.specs.Prelude.{◌≡◌, ℕ, ◌+◌, Bool, true, false, Some, length}
use Rattle.sparse_bytes.specs.Bytes.{byte_of}
use Rattle.sparse_bytes.specs.declared.sparse.SparseBytes.{SparseBytes}
use Rattle.vfs_outside.specs.Image.{Image, data_in}
use Rattle.vfs_outside.specs.declared.file_call.FileCall.{FileCall}
use Rattle.vfs_outside.specs.declared.file_call.FileCall.TheVariants.{Quiet, Saved, Wrote, Cleared}

-- each byte of the data that was written is there
abbrev pub HasData : SparseBytes → Image → Type 0
HasData blocks image = (p b : ℕ) → data_in image p ≡ Some b → byte_of blocks p ≡ b

-- where the bytes of a call end
abbrev pub end_of : FileCall → ℕ
end_of Quiet = 0
end_of (Saved text) = 0
end_of (Wrote pos bytes) = pos + length bytes
end_of (Cleared keep) = 0

-- the calls that change the metadata
abbrev pub sets_meta : FileCall → Bool
sets_meta Quiet = false
sets_meta (Saved text) = true
sets_meta (Wrote pos bytes) = false
sets_meta (Cleared keep) = true
