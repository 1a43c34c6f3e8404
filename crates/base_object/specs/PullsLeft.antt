-- A number that falls with each pull of a span, so that a loop of pulls ends.
use Rattle.std.specs.Prelude.{ℕ, zero, suc, ◌+◌, ◌-◌, ◌*◌, Bool, min, if◌then◌else◌, Option, Some, None}
use Rattle.byte_ranges.specs.declared.Span.{Span}
use Rattle.downloaders.specs.declared.Downloader.{Downloader}
use Rattle.downloaders.specs.Crew.{Team}
use Rattle.downloaders.specs.Rules.{near}

-- how many of n bytes from `from` on aren't here
abbrev pub count_absent : (ℕ → Bool) → ℕ → ℕ → ℕ
count_absent here from zero = 0
count_absent here from (suc n) = (if here from then 0 else 1) + count_absent here (from + 1) n

-- the first of n bytes from `from` on that isn't here, or the place after them
abbrev pub first_absent : (ℕ → Bool) → ℕ → ℕ → ℕ
first_absent here from zero = from
first_absent here from (suc n) = if here from then first_absent here (from + 1) n else from

-- how far the downloader has to go that comes to a byte
abbrev pub way_to : ℕ → Option Downloader → ℕ
way_to f None = 0
way_to f (Some d) = f - d.pos

-- how many bytes of the span stand below the base end
abbrev pub bytes_below : Span → ℕ → ℕ
bytes_below span base_end = min span.end base_end - span.start

-- Each pull brings a byte of the span that wasn't here, or comes nearer to the first of them, which is at most 1,048,576
-- bytes away from a downloader that comes to it.
abbrev pub pulls_left : (ℕ → Bool) → Span → ℕ → Team → ℕ
pulls_left here span base_end team =
    count_absent here span.start (bytes_below span base_end) * 1048577
    + way_to (first_absent here span.start (bytes_below span base_end))
    (near (first_absent here span.start (bytes_below span base_end)) team)
