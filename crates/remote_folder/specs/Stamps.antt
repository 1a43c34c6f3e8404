-- A file's modification time.
use Rattle.std.specs.Prelude.{ℕ, ◌+◌, ◌-◌, ◌*◌, ◌/◌, ◌^◌, min, ℤ, pos, negsuc}

-- whole milliseconds since 1970, at most 2^64 - 1, of seconds since then and nanoseconds from there on; 0 for a moment before
abbrev pub millis : ℤ → ℤ → ℕ
millis (pos secs) (pos nanos) = min (secs * 1000 + nanos / 1000000) (2 ^ 64 - 1)
millis (pos secs) (negsuc nanos) = 0
millis (negsuc secs) nanos = 0
