-- Whole lists of asks: their requests, and reads one after another.
use Rattle.std.specs.Prelude.{◌≡◌, ℕ, Some, ◌<◌, ◌≤◌, Bool, false, List, [], ◌∷◌, ◌++◌}
use Rattle.downloaders.specs.declared.Ask.{Ask}
use Rattle.downloaders.specs.declared.Ask.TheVariants.{Request}
use Rattle.downloaders.specs.declared.Limit.TheVariants.{Off}
use Rattle.downloaders.specs.declared.Plan.{Plan}
use Rattle.downloaders.specs.Crew.{Team}
use Rattle.downloaders.specs.Rules.{here_after, team_after, AreAsks}

-- the requests of these asks, each by its start and its end
abbrev pub requests_in : List Ask → List (ℕ × ℕ)
requests_in [] = []
requests_in (Request run start end chunk ∷ rest) = (start, end) ∷ requests_in rest
requests_in (ask ∷ rest) = requests_in rest

-- the bytes that are here after all of these asks
abbrev pub here_in_the_end : List Ask → ℕ → (ℕ → Bool) → ℕ → Bool
here_in_the_end [] base_end here p = here p
here_in_the_end (ask ∷ rest) base_end here p =
    here_in_the_end rest base_end (λ q. here_after ask base_end here q) p

-- the crew after all of these asks
abbrev pub team_in_the_end : List Ask → Team → Team
team_in_the_end [] team = team
team_in_the_end (ask ∷ rest) team = team_in_the_end rest (team_after ask team)

-- each request starts at a byte that isn't here when it is made
abbrev pub StartAbsent : ℕ → (ℕ → Bool) → List Ask → Type 0
StartAbsent base_end here [] = Unit {0}
StartAbsent base_end here (Request run start end chunk ∷ rest) =
    (here start ≡ false) × StartAbsent base_end here rest
StartAbsent base_end here (ask ∷ rest) =
    StartAbsent base_end (λ p. here_after ask base_end here p) rest

-- Reads one after another, from `from` and each to the next of these ends: their asks in all.
abbrev pub AreReads : Plan → ℕ → (ℕ → Bool) → Team → ℕ → List ℕ → List Ask → Type 0
AreReads plan base_end here team from [] asks = asks ≡ []
AreReads plan base_end here team from (to ∷ later) asks =
    (now : List Ask) × (rest : List Ask) × (asks ≡ now ++ rest) × (from < to) × (to ≤ base_end)
    × AreAsks plan (record { start = from; end = to }) base_end here team now
    × AreReads plan base_end (λ p. here_in_the_end now base_end here p) (team_in_the_end now team)
    to later rest

-- where the last of these reads ends
abbrev pub last_end : ℕ → List ℕ → ℕ
last_end from [] = from
last_end from (to ∷ later) = last_end to later

-- requests that cover once what stands between two places: each begins where one ended
abbrev pub Tiles : ℕ → ℕ → List (ℕ × ℕ) → Type 0
Tiles from to [] = from ≡ to
Tiles from to (r ∷ rest) = (r.0 ≡ from) × (r.0 < r.1) × Tiles r.1 to rest

-- a crew with no downloader yet
abbrev pub no_one : Bool → Team
no_one direct = record { direct = direct; list = [] }

-- the plan of this chunk whose requests double
abbrev pub doubling : ℕ → Plan
doubling chunk = record { chunk = Some chunk; limit = Off }
