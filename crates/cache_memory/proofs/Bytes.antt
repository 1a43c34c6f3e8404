-- What is read from the blocks.
use Rattle.std.proofs.Common.{◌≡◌, ℕ, zero, suc, ◌+◌, ◌<◌, ◌∙◌, ap, refl, arith, List, length, slice_index}
use Rattle.sparse_bytes.specs.Bytes.{bytes_from, byte_of}
use Rattle.sparse_bytes.specs.declared.sparse.SparseBytes.{SparseBytes}
use Rattle.vfs_outside.specs.Image.{Image}
use Rattle.vfs_outside.specs.Slot.{Reads}
use Rattle.cache_memory.specs.Stored.{HasData}

pub length-bytes_from : (f : ℕ → ℕ) (pos n : ℕ) → length (bytes_from f pos n) ≡ n
length-bytes_from f pos zero = refl
length-bytes_from f pos (suc n) = ap suc (length-bytes_from f (suc pos) n)

pub bytes_from-at : (f : ℕ → ℕ) (pos n i : ℕ) → i < n → slice_index (bytes_from f pos n) i ≡ f (pos + i)
bytes_from-at f pos zero i h = absurd (omega arith)
bytes_from-at f pos (suc n) zero h = ap f (let e : pos ≡ pos + 0 = omega arith in e)
bytes_from-at f pos (suc n) (suc i) h = bytes_from-at f (suc pos) n i (omega arith) ∙ ap f (let e : suc pos + i ≡ pos + suc i = omega arith in e)

pub reads_blocks : (blocks : SparseBytes) (i : Image) (pos n : ℕ) (bytes : List ℕ) → HasData blocks i → bytes ≡ bytes_from (byte_of blocks) pos n → Reads i pos bytes
reads_blocks blocks i pos n bytes h e k b lt is =
    let size : length bytes ≡ n = ap length e ∙ length-bytes_from (byte_of blocks) pos n in
    ap (λ l. slice_index l k) e ∙ bytes_from-at (byte_of blocks) pos n k (omega arith) ∙ h (pos + k) b is
