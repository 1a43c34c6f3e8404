-- The rules by which a crew makes the bytes of a span present.
use Rattle.std.specs.Prelude.{◌≡◌, ℕ, ◌+◌, ◌-◌, ◌*◌, ◌<◌, ◌≤◌, ◌==◌, Bool, true, false, ◌&&◌, ◌||◌, nat_lt, nat_le, min, if◌then◌else◌, List, [], ◌∷◌, Option, Some, None}
use Rattle.std.specs.List.{find}
use Rattle.byte_ranges.specs.declared.Span.{Span}
use Rattle.byte_ranges.specs.Ranges.{is_in}
use Rattle.downloaders.specs.declared.Ask.{Ask}
use Rattle.downloaders.specs.declared.Ask.TheVariants.{Done, Request, Pull}
use Rattle.downloaders.specs.declared.Downloader.{Downloader}
use Rattle.downloaders.specs.declared.Limit.{Limit}
use Rattle.downloaders.specs.declared.Limit.TheVariants.{Off, Same, Most}
use Rattle.downloaders.specs.declared.Plan.{Plan}
use Rattle.downloaders.specs.Crew.{Team, IsOpen, member_at, new_run, after_request, after_pull}

-- f is the first byte of the span below the base end that isn't here
pub record IsFirstMissing (here : ℕ → Bool) (span : Span) (base_end f : ℕ) : Type 0 where
  pub from : span.start ≤ f
  pub to : f < span.end
  pub below : f < base_end
  pub missing : here f ≡ false
  pub before : (p : ℕ) → span.start ≤ p → p < f → here p ≡ true

-- each byte of the span below the base end is here
abbrev pub AllHere : (ℕ → Bool) → Span → ℕ → Type 0
AllHere here span base_end = (p : ℕ) → is_in span p ≡ true → p < base_end → here p ≡ true

-- how many bytes a downloader may read over to come to a missing one
abbrev pub gap_of : Team → ℕ
gap_of team = if team.direct then 0 else 1048576

abbrev pub reaches : ℕ → ℕ → Downloader → Bool
reaches gap f d = nat_le d.pos f && nat_le (f - d.pos) gap

-- the most recently used downloader that comes to the byte f
abbrev pub near : ℕ → Team → Option Downloader
near f team = find (reaches (gap_of team) f) team.list

-- the size of a downloader's request after one of size c
abbrev pub next_size : Limit → ℕ → ℕ
next_size Off c = min (2 * c) 1099511627776
next_size Same c = min c 1099511627776
next_size (Most l) c = min (if nat_lt c l then min (2 * c) l else c) 1099511627776

-- the size of a new downloader's request, of which `left` bytes stand below the base end
abbrev pub first_size : Option ℕ → ℕ → ℕ
first_size None left = left
first_size (Some chunk) left = chunk

abbrev pub later_size : Option ℕ → Limit → ℕ → ℕ → ℕ
later_size None limit left c = left
later_size (Some chunk) limit left c = next_size limit c

-- a request of a size from f on, as far as the base end
abbrev pub request : ℕ → ℕ → ℕ → ℕ → Ask
request run f size base_end = Request run f (min base_end (f + size)) size

-- how much a downloader pulls at once: a direct reader's takes no byte past the span
abbrev pub pull_len : Team → Span → ℕ → Downloader → ℕ
pull_len team span base_end d =
    min (min 131072 (d.end - d.pos)) (if team.direct then min span.end base_end - d.pos else 131072)

-- with no downloader near, a new one asks; one at the end of its request asks again; else it pulls
abbrev pub ask_by : Plan → Team → Span → ℕ → ℕ → Option Downloader → Ask
ask_by plan team span base_end f None =
    request (new_run team) f (first_size plan.chunk (base_end - f)) base_end
ask_by plan team span base_end f (Some d) =
    if d.pos == d.end
    then request d.run f (later_size plan.chunk plan.limit (base_end - f) d.chunk) base_end
    else Pull d.run d.pos (pull_len team span base_end d)

-- what is asked for the sake of the missing byte f
abbrev pub ask_for : Plan → Team → Span → ℕ → ℕ → Ask
ask_for plan team span base_end f = ask_by plan team span base_end f (near f team)

-- what the rules say at this set of present bytes and this crew
abbrev pub IsNext : Plan → (ℕ → Bool) → Team → Span → ℕ → Ask → Type 0
IsNext plan here team span base_end Done = AllHere here span base_end
IsNext plan here team span base_end ask =
    (f : ℕ) × IsFirstMissing here span base_end f × (ask ≡ ask_for plan team span base_end f)

-- the bytes that are here after it: a pull stores those below the base end
abbrev pub here_after : Ask → ℕ → (ℕ → Bool) → ℕ → Bool
here_after (Pull run pos len) base_end here p =
    here p || (nat_le pos p && nat_lt p (min (pos + len) base_end))
here_after ask base_end here p = here p

abbrev pub team_after : Ask → Team → Team
team_after Done team = team
team_after (Request run start end chunk) team = after_request run start end chunk team
team_after (Pull run pos len) team = after_pull run len team

-- The asks that the rules make until all is here, each at what the ones before it leave.
abbrev pub AreAsks : Plan → Span → ℕ → (ℕ → Bool) → Team → List Ask → Type 0
AreAsks plan span base_end here team [] = AllHere here span base_end
AreAsks plan span base_end here team (Done ∷ rest) = ⊥
AreAsks plan span base_end here team (ask ∷ rest) =
    IsNext plan here team span base_end ask
    × AreAsks plan span base_end (λ p. here_after ask base_end here p) (team_after ask team) rest

abbrev pub first_ask : List Ask → Ask
first_ask [] = Done
first_ask (ask ∷ rest) = ask

-- a chunk that is given has a byte
abbrev pub HasChunk : Option ℕ → Type 0
HasChunk None = Unit {0}
HasChunk (Some chunk) = 1 ≤ chunk

abbrev pub StandsAt : ℕ → ℕ → Option Downloader → Type 0
StandsAt pos len None = ⊥
StandsAt pos len (Some d) = (d.pos ≡ pos) × (pos + len ≤ d.end)

-- what `requested` or `pulled` asks of an ask that was done
abbrev pub IsDoable : Team → Ask → Type 0
IsDoable team Done = Unit {0}
IsDoable team (Request run start end chunk) = (start < end) × (1 ≤ chunk) × IsOpen run team
IsDoable team (Pull run pos len) =
    (1 ≤ len) × (len ≤ 131072) × StandsAt pos len (member_at run team)
