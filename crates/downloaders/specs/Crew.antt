-- A crew of downloaders, and what a request, a pull or an end does to it.
use Rattle.std.specs.Prelude.{◌≡◌, ℕ, zero, suc, ◌+◌, ◌<◌, ◌≤◌, ◌==◌, Bool, true, false, not, nat_lt, if◌then◌else◌, List, [], ◌∷◌, length, Option, Some, None, ◌⊎◌}
use Rattle.std.specs.List.{find, filter, list_any, All}
use Rattle.downloaders.specs.declared.Downloader.{Downloader}

-- what contracts see of a crew
pub record Team : Type 0 where
  -- whether it is a direct reader's
  pub direct : Bool
  -- the most recently used first
  pub list : List Downloader

-- how many downloaders it may have
abbrev pub places : Team → ℕ
places team = if team.direct then 1 else 4

abbrev pub is_at : ℕ → Downloader → Bool
is_at run d = d.run == run

-- the downloader of this number
abbrev pub member_at : ℕ → Team → Option Downloader
member_at run team = find (is_at run) team.list

-- whether a downloader has this number
abbrev pub has_run : ℕ → List Downloader → Bool
has_run run list = list_any (is_at run) list

-- the others
abbrev pub without : ℕ → List Downloader → List Downloader
without run list = filter (λ d. not (is_at run d)) list

-- the first of n numbers from k on that no downloader has, or else the number after them
abbrev pub free_from : ℕ → ℕ → List Downloader → ℕ
free_from zero k list = k
free_from (suc n) k list = if has_run k list then free_from n (k + 1) list else k

abbrev pub least_free : List Downloader → ℕ
least_free list = free_from (length list) 0 list

-- the number of the least recently used
abbrev pub last_run : List Downloader → ℕ
last_run [] = 0
last_run (d ∷ []) = d.run
last_run (d ∷ e ∷ rest) = last_run (e ∷ rest)

-- the number that a new downloader takes: the least free one, or that of the one that gives way
abbrev pub new_run : Team → ℕ
new_run team =
    if nat_lt (length team.list) (places team) then least_free team.list else last_run team.list

-- the downloader goes to the front, in the place of the one with its number
abbrev pub in_front : Downloader → Team → Team
in_front d team = record { direct = team.direct; list = d ∷ without d.run team.list }

abbrev pub after_request : ℕ → ℕ → ℕ → ℕ → Team → Team
after_request run start end chunk team =
    in_front (record { run = run; pos = start; end = end; chunk = chunk }) team

abbrev pub on_by : ℕ → Downloader → Downloader
on_by len d = record { run = d.run; pos = d.pos + len; end = d.end; chunk = d.chunk }

abbrev pub front_by : ℕ → Option Downloader → Team → Team
front_by len None team = team
front_by len (Some d) team = in_front (on_by len d) team

-- the downloader of this number has pulled len bytes
abbrev pub after_pull : ℕ → ℕ → Team → Team
after_pull run len team = front_by len (member_at run team) team

abbrev pub after_end : ℕ → Team → Team
after_end run team = record { direct = team.direct; list = without run team.list }

-- a request may be made at this number: a downloader has it, or a new one takes it
abbrev pub IsOpen : ℕ → Team → Type 0
IsOpen run team = (has_run run team.list ≡ true) ⊎ (run ≡ new_run team)

abbrev pub IsAhead : ℕ → Option Downloader → Type 0
IsAhead len None = ⊥
IsAhead len (Some d) = d.pos + len ≤ d.end

-- the downloader of this number has so many bytes of its request left
abbrev pub HasLeft : ℕ → ℕ → Team → Type 0
HasLeft run len team = IsAhead len (member_at run team)

-- no two downloaders have one number
abbrev pub AreApart : List Downloader → Type 0
AreApart [] = Unit {0}
AreApart (d ∷ rest) = (has_run d.run rest ≡ false) × AreApart rest

-- what is true of every crew
pub record IsTeam (team : Team) : Type 0 where
  pub room : length team.list ≤ places team
  pub apart : AreApart team.list
  pub runs : All (λ d. d.run < places team) team.list
  pub ends : All (λ d. d.pos ≤ d.end) team.list
  pub chunks : All (λ d. 1 ≤ d.chunk) team.list
