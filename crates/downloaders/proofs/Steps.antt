-- One step of the rules.
use Rattle.std.proofs.Common.{◌≡◌, ℕ, ◌+◌, ◌-◌, ◌<◌, ◌≤◌, ◌==◌, Bool, true, nat_lt, nat_le, List, [], ◌∷◌, Option, Some, None, refl, sym, ◌∙◌, ap, arith, ◌⊎◌, inl, inr}
use Rattle.std.specs.Option.{IfSome}
use Rattle.std.specs.List.{find}
use Rattle.std.proofs.lemmas.Bool.{cases_Bool, cases_order, eqb-false, leb-true, ltb-true, and_parts, true≢false, not-true, not-false}
use Rattle.byte_ranges.specs.declared.Span.{Span}
use Rattle.byte_ranges.specs.Ranges.{has, lacks, IsFirstRun, IsFirstRunIn}
use Rattle.byte_ranges.proofs.Spans.{in_from}
use Rattle.downloaders.specs.declared.Ask.{Ask}
use Rattle.downloaders.specs.declared.Ask.TheVariants.{Done, Request, Pull}
use Rattle.downloaders.specs.declared.Downloader.{Downloader}
use Rattle.downloaders.specs.declared.Limit.{Limit}
use Rattle.downloaders.specs.declared.Limit.TheVariants.{Off, Same, Most}
use Rattle.downloaders.specs.declared.Plan.{Plan}
use Rattle.downloaders.specs.Crew.{Team, member_at, IsTeam}
use Rattle.downloaders.specs.Rules.{IsFirstMissing, AllHere, gap_of, reaches, near, next_size, first_size, later_size, pull_len, ask_by, ask_for, IsNext, AreAsks, first_ask, HasChunk, IsDoable}
use Rattle.downloaders.proofs.Teams.{All-found, found_passes, found_has, found_at}

pub first_once : (here : ℕ → Bool) (span : Span) (base_end f g : ℕ) → IsFirstMissing here span base_end f → IsFirstMissing here span base_end g → f ≡ g
first_once here span base_end f g a b = elim (cases_order f g) [
  | inl e ↦ e
  | inr (inl l) ↦ absurd (true≢false (sym (b.before f a.from l) ∙ a.missing))
  | inr (inr l) ↦ absurd (true≢false (sym (a.before g b.from l) ∙ b.missing))
]

pub not_all : (here : ℕ → Bool) (span : Span) (base_end f : ℕ) → AllHere here span base_end → IsFirstMissing here span base_end f → ⊥
not_all here span base_end f all a = true≢false (sym (all f (in_from span f a.from a.to) a.below) ∙ a.missing)

pub asks_some : (plan : Plan) (team : Team) (span : Span) (base_end f : ℕ) (o : Option Downloader) → ask_by plan team span base_end f o ≡ Done → ⊥
asks_some plan team span base_end f None e = cc
asks_some plan team span base_end f (Some d) e = elim (cases_Bool (d.pos == d.end)) [
  | inl t ↦ no_request _ _ _ _ (rw t at e)
  | inr t ↦ no_pull _ _ _ (rw t at e)
]
  where
    no_request : (run start end chunk : ℕ) → Request run start end chunk ≡ Done → ⊥
    no_request run start end chunk e = cc

    no_pull : (run pos len : ℕ) → Pull run pos len ≡ Done → ⊥
    no_pull run pos len e = cc

pub next_at : (plan : Plan) (here : ℕ → Bool) (team : Team) (span : Span) (base_end f : ℕ) (a : Ask) → IsFirstMissing here span base_end f → a ≡ ask_for plan team span base_end f → IsNext plan here team span base_end a
next_at plan here team span base_end f Done first e = absurd (asks_some plan team span base_end f (near f team) (sym e))
next_at plan here team span base_end f (Request run start end chunk) first e = (f, first, e)
next_at plan here team span base_end f (Pull run pos len) first e = (f, first, e)

pub next_cases : (plan : Plan) (here : ℕ → Bool) (team : Team) (span : Span) (base_end : ℕ) (a : Ask) → IsNext plan here team span base_end a → (AllHere here span base_end × (a ≡ Done)) ⊎ ((f : ℕ) × IsFirstMissing here span base_end f × (a ≡ ask_for plan team span base_end f))
next_cases plan here team span base_end Done n = inl (n, refl)
next_cases plan here team span base_end (Request run start end chunk) n = inr n
next_cases plan here team span base_end (Pull run pos len) n = inr n

pub next_once : (plan : Plan) (here : ℕ → Bool) (team : Team) (span : Span) (base_end : ℕ) (a b : Ask) → IsNext plan here team span base_end a → IsNext plan here team span base_end b → a ≡ b
next_once plan here team span base_end a b m n = elim (next_cases plan here team span base_end a m) [
  | inl x ↦ elim (next_cases plan here team span base_end b n) [
    | inl y ↦ x.1 ∙ sym y.1
    | inr y ↦ absurd (not_all here span base_end y.0 x.0 y.1)
  ]
  | inr x ↦ elim (next_cases plan here team span base_end b n) [
    | inl y ↦ absurd (not_all here span base_end x.0 y.0 x.1)
    | inr y ↦ x.2 ∙ ap (ask_for plan team span base_end) (first_once here span base_end x.0 y.0 x.1 y.1) ∙ sym y.2
  ]
]

pub first_is : (plan : Plan) (here : ℕ → Bool) (team : Team) (span : Span) (base_end : ℕ) (a : Ask) (asks : List Ask) → IsNext plan here team span base_end a → AreAsks plan span base_end here team asks → a ≡ first_ask asks
first_is plan here team span base_end a [] n all = next_once plan here team span base_end a Done n all
first_is plan here team span base_end a (Done ∷ rest) n all = absurd all
first_is plan here team span base_end a (Request run start end chunk ∷ rest) n all = next_once plan here team span base_end a (Request run start end chunk) n all.0
first_is plan here team span base_end a (Pull run pos len ∷ rest) n all = next_once plan here team span base_end a (Pull run pos len) n all.0

-- what a search for the first missing byte among sorted spans says
pub none_missing : (set : List Span) (span : Span) (base_end : ℕ) → IsFirstRunIn (lacks set) span None → AllHere (λ p. has set p) span base_end
none_missing set span base_end h p i b = not-false (has set p) (h p i)

pub some_missing : (set : List Span) (span gap : Span) (base_end : ℕ) → span.end ≤ base_end → IsFirstRun (lacks set) span gap → IsFirstMissing (λ p. has set p) span base_end gap.start
some_missing set span gap base_end l h = record {
  from = h.from;
  to = omega (arith, h.some, h.to);
  below = omega (arith, h.some, h.to);
  missing = not-true (has set gap.start) (h.passes gap.start (in_from gap gap.start (omega arith) (omega (arith, h.some))));
  before = λ p a b. not-false (has set p) (h.before p a b);
}

pub next_size_some : (limit : Limit) (c : ℕ) → 1 ≤ c → 1 ≤ next_size limit c
next_size_some Off c h = omega arith
next_size_some Same c h = omega arith
next_size_some (Most l) c h = elim (cases_Bool (nat_lt c l)) [
  | inl t ↦ let less : c < l = ltb-true c l t in rw t (omega arith)
  | inr t ↦ rw t (omega arith)
]

pub first_size_some : (chunk : Option ℕ) (left : ℕ) → HasChunk chunk → 1 ≤ left → 1 ≤ first_size chunk left
first_size_some None left h l = l
first_size_some (Some c) left h l = h

pub later_size_some : (chunk : Option ℕ) (limit : Limit) (left c : ℕ) → 1 ≤ c → 1 ≤ left → 1 ≤ later_size chunk limit left c
later_size_some None limit left c h l = l
later_size_some (Some k) limit left c h l = next_size_some limit c h

pub reached : (gap f : ℕ) (d : Downloader) → reaches gap f d ≡ true → (d.pos ≤ f) × (f - d.pos ≤ gap)
reached gap f d h =
    let both = and_parts (nat_le d.pos f) (nat_le (f - d.pos) gap) h in
    (leb-true d.pos f both.0, leb-true (f - d.pos) gap both.1)

pub pull_some : (team : Team) (span : Span) (base_end f : ℕ) (d : Downloader) → d.pos < d.end → d.pos ≤ f → f < span.end → f < base_end → (1 ≤ pull_len team span base_end d) × (pull_len team span base_end d ≤ 131072) × (d.pos + pull_len team span base_end d ≤ d.end)
pull_some team span base_end f d some at to below = elim (cases_Bool team.direct) [
  | inl t ↦ rw t (omega arith, omega arith, omega arith)
  | inr t ↦ rw t (omega arith, omega arith, omega arith)
]

pub doable_by : (plan : Plan) (team : Team) (span : Span) (base_end f : ℕ) (o : Option Downloader) → HasChunk plan.chunk → IsTeam team → f < span.end → f < base_end → near f team ≡ o → IsDoable team (ask_by plan team span base_end f o)
doable_by plan team span base_end f None has ok to below at =
    let size = first_size_some plan.chunk (base_end - f) has (omega arith) in
    (omega (arith, size), size, inr refl)
doable_by plan team span base_end f (Some d) has ok to below at =
    let near' = reached (gap_of team) f d (found_passes (reaches (gap_of team) f) team.list d at) in
    let order : d.pos ≤ d.end = All-found (λ e. e.pos ≤ e.end) (reaches (gap_of team) f) team.list d at ok.ends in
    let old : 1 ≤ d.chunk = All-found (λ e. 1 ≤ e.chunk) (reaches (gap_of team) f) team.list d at ok.chunks in
    elim (cases_Bool (d.pos == d.end)) [
      | inl t ↦
          let size = later_size_some plan.chunk plan.limit (base_end - f) d.chunk old (omega arith) in
          rw t (omega (arith, size), size, inl (found_has (reaches (gap_of team) f) team.list d at))
      | inr t ↦
          let more : d.pos < d.end = below_end d.pos d.end order (eqb-false d.pos d.end t) in
          let pull = pull_some team span base_end f d more near'.0 to below in
          let member : member_at d.run team ≡ Some d = found_at (reaches (gap_of team) f) team.list d ok.apart at in
          rw t (pull.0, pull.1, rw member (refl, pull.2))
    ]
  where
    below_end : (a b : ℕ) → a ≤ b → (a ≡ b → ⊥) → a < b
    below_end a b l n = elim (cases_order a b) [
      | inl e ↦ absurd (n e)
      | inr (inl h) ↦ h
      | inr (inr h) ↦ absurd (omega arith)
    ]

pub doable : (plan : Plan) (team : Team) (span : Span) (base_end f : ℕ) (a : Ask) → HasChunk plan.chunk → IsTeam team → f < span.end → f < base_end → a ≡ ask_for plan team span base_end f → IsDoable team a
doable plan team span base_end f a has ok to below e =
    rw e (doable_by plan team span base_end f (near f team) has ok to below refl)

pub near_order : (team : Team) (f : ℕ) (o : Option Downloader) → IsTeam team → o ≡ near f team → IfSome o (λ d. (d.pos ≤ f) × (d.pos ≤ d.end))
near_order team f None ok e = tt
near_order team f (Some d) ok e =
    let found : find (reaches (gap_of team) f) team.list ≡ Some d = sym e in (
      (reached (gap_of team) f d (found_passes (reaches (gap_of team) f) team.list d found)).0,
      All-found (λ d'. d'.pos ≤ d'.end) (reaches (gap_of team) f) team.list d found ok.ends,
    )
