-- What the calls on a slot's file leave: its metadata's text and its data.
use Rattle.std.specs.Prelude.{ℕ, ◌+◌, ◌-◌, ◌&&◌, nat_le, nat_lt, if◌then◌else◌, Bool, true, false, Option, Some, None, List, [], ◌∷◌, length, slice_index}
use Rattle.vfs_outside.specs.declared.file_call.FileCall.{FileCall}
use Rattle.vfs_outside.specs.declared.file_call.FileCall.TheVariants.{Quiet, Saved, Wrote, Cleared}

-- the calls that were made on a slot's file, the newest first
abbrev pub Image : Type 0
Image = List FileCall

-- n bytes from pos on have the place p among them
abbrev pub is_within : ℕ → ℕ → ℕ → Bool
is_within pos n p = nat_le pos p && nat_lt p (pos + n)

abbrev pub meta_after : FileCall → Option (List ℕ) → Option (List ℕ)
meta_after Quiet old = old
meta_after (Saved text) old = Some text
meta_after (Wrote pos bytes) old = old
meta_after (Cleared keep) old = None

-- the metadata's text, where there is any
abbrev pub meta_in : Image → Option (List ℕ)
meta_in [] = None
meta_in (c ∷ older) = meta_after c (meta_in older)

abbrev pub data_after : FileCall → ℕ → Option ℕ → Option ℕ
data_after Quiet p old = old
data_after (Saved text) p old = old
data_after (Wrote pos bytes) p old = if is_within pos (length bytes) p then Some (slice_index bytes (p - pos)) else old
data_after (Cleared true) p old = old
data_after (Cleared false) p old = None

-- the byte of the data at p; none where nobody wrote it since the data was last dropped, where it may be any
abbrev pub data_in : Image → ℕ → Option ℕ
data_in [] p = None
data_in (c ∷ older) p = data_after c p (data_in older p)
