-- Which metadata a call saves next.
use Rattle.std.specs.Prelude.{◌≡◌, ℕ, ◌+◌, ◌<◌, ◌&&◌, ◌||◌, max, min, nat_lt, true, false, Some, None, List, [], length, slice_index}
use Rattle.byte_ranges.specs.Ranges.{has, is_in}
use Rattle.byte_ranges.specs.declared.Span.{Span}
use Rattle.vfs_names.specs.Payload.{payload_byte, payload_len}
use Rattle.vfs_names.specs.declared.fingerprint.Fingerprint.{Fingerprint}
use Rattle.vfs_names.specs.declared.payload.Payload.{Payload}
use Rattle.item_meta.specs.declared.meta.Meta.{Meta}

-- a file that is made here
abbrev pub fresh_meta : List ℕ → ℕ → Meta
fresh_meta path now = record {
  path = path;
  size = 0;
  base_end = 0;
  ranges = [];
  base = None;
  dirty = true;
  mtime = now;
  atime = now;
  intent = None;
}

-- a file that is an object, of which nothing is here
abbrev pub adopted_meta : List ℕ → Fingerprint → ℕ → Meta
adopted_meta path print now = record {
  path = path;
  size = print.size;
  base_end = print.size;
  ranges = [];
  base = Some print;
  dirty = false;
  mtime = print.mtime;
  atime = now;
  intent = None;
}

-- a write of these bytes is an intent, and its range counts as there
pub record IsGrown (pos : ℕ) (bytes : List ℕ) (now : ℕ) (old new : Meta) : Type 0 where
  pub same : new ≡ record old { size = max old.size (pos + length bytes); ranges = new.ranges; dirty = true; mtime = now; atime = now; intent = Some (record { pos = pos; bytes = bytes }) }
  pub ranges : (p : ℕ) → has new.ranges p ≡ (has old.ranges p || is_in (record { start = pos; end = pos + length bytes }) p)

-- the file ends at n, and none of its bytes from there on is there
pub record IsCut (n now : ℕ) (old new : Meta) : Type 0 where
  pub same : new ≡ record old { size = n; base_end = min n old.base_end; ranges = new.ranges; dirty = true; mtime = now; atime = now; intent = None }
  pub ranges : (p : ℕ) → has new.ranges p ≡ (has old.ranges p && nat_lt p n)

-- the span's bytes are there as well
pub record IsFetched (span : Span) (old new : Meta) : Type 0 where
  pub same : new ≡ record old { ranges = new.ranges; intent = None }
  pub ranges : (p : ℕ) → has new.ranges p ≡ (has old.ranges p || is_in span p)

-- the file has another path
abbrev pub renamed_meta : List ℕ → Meta → Meta
renamed_meta path old = record old { path = path; intent = None }

-- the file is what was uploaded as this object
abbrev pub uploaded_meta : Fingerprint → Meta → Meta
uploaded_meta print old = record old { base_end = old.size; base = Some print; dirty = false; intent = None }

-- a pending intent is done
abbrev pub settled_meta : Meta → Meta
settled_meta old = record old { intent = None }

-- the file was used then
abbrev pub touched_meta : ℕ → Meta → Meta
touched_meta now old = record old { atime = now }

-- the payload's bytes
pub record IsBytes (payload : Payload) (bytes : List ℕ) : Type 0 where
  pub len : length bytes ≡ payload_len payload
  pub each : (i : ℕ) → i < length bytes → slice_index bytes i ≡ payload_byte payload i
