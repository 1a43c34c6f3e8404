-- The asks that begin with a request go on with its first pull.
use Rattle.std.proofs.Common.{◌≡◌, ℕ, ◌-◌, ◌<◌, ◌≤◌, ◌==◌, Bool, false, min, List, [], ◌∷◌, Option, Some, None, refl, sym, ◌∙◌, ap, subst, arith, inl, inr}
use Rattle.std.proofs.lemmas.Bool.{cases_Bool, ne_eqb}
use Rattle.byte_ranges.specs.declared.Span.{Span}
use Rattle.downloaders.specs.declared.Ask.{Ask}
use Rattle.downloaders.specs.declared.Ask.TheVariants.{Done, Request, Pull}
use Rattle.downloaders.specs.declared.Downloader.{Downloader}
use Rattle.downloaders.specs.declared.Plan.{Plan}
use Rattle.downloaders.specs.Crew.{Team, IsOpen, IsTeam, in_front, after_request}
use Rattle.downloaders.specs.Rules.{IsFirstMissing, gap_of, reaches, near, pull_len, ask_by, ask_for, IsNext, AreAsks, first_ask}
use Rattle.downloaders.proofs.Teams.{found_passes, open_low, places_most}
use Rattle.downloaders.proofs.Steps.{next_at, first_is, reached}
use Rattle.downloaders.proofs.Plans.{asks_cons, request_bounds}
use Rattle.downloaders.proofs.Ends.{near_front}

no_request : (run start end chunk : ℕ) → Request run start end chunk ≡ Done → ⊥
no_request run start end chunk e = cc

no_pull : (run pos len : ℕ) → Pull run pos len ≡ Done → ⊥
no_pull run pos len e = cc

-- a list whose first ask isn't done begins with it
begins_with : (a : Ask) (asks : List Ask) → a ≡ first_ask asks → (a ≡ Done → ⊥) → (rest : List Ask) × (asks ≡ a ∷ rest)
begins_with a [] e some = absurd (some e)
begins_with a (b ∷ rest) e some = (rest, ap (λ z. z ∷ rest) (sym e))

pub low_run : (team : Team) (run : ℕ) → IsTeam team → IsOpen run team → run ≤ 3
low_run team run ok may = omega (arith, open_low team run ok may, places_most team)

-- the downloader that has just asked for the missing byte pulls it next
pull_next : (plan : Plan) (team : Team) (span : Span) (base_end f run end chunk : ℕ) → team.direct ≡ false → f < end → ask_for plan (after_request run f end chunk team) span base_end f ≡ Pull run f (min 131072 (end - f))
pull_next plan team span base_end f run end chunk direct some =
    let d : Downloader = record { run = run; pos = f; end = end; chunk = chunk } in
    let at : near f (in_front d team) ≡ Some d = near_front team d f (omega arith) (omega arith) in
    let more : (d.pos == d.end) ≡ false = ne_eqb f end (λ e. omega arith) in
    let len : pull_len (in_front d team) span base_end d ≡ min 131072 (end - f) = rw direct (omega arith) in
    let pulls : ask_by plan (in_front d team) span base_end f (Some d) ≡ Pull run f (pull_len (in_front d team) span base_end d) = rw more refl in
    ap (ask_by plan (in_front d team) span base_end f) at ∙ pulls ∙ ap (λ n. Pull run f n) len

-- the asks that begin with a request
pub request_asks : (plan : Plan) (here : ℕ → Bool) (team : Team) (span : Span) (base_end run start end chunk : ℕ) (asks : List Ask) → team.direct ≡ false → start < end → IsNext plan here team span base_end (Request run start end chunk) → AreAsks plan span base_end here team asks → (rest : List Ask) × (asks ≡ Request run start end chunk ∷ Pull run start (min 131072 (end - start)) ∷ rest)
request_asks plan here team span base_end run start end chunk asks direct some next all =
    let r : Ask = Request run start end chunk in
    let one = begins_with r asks (first_is plan here team span base_end r asks next all) (no_request run start end chunk) in
    let after : AreAsks plan span base_end here (after_request run start end chunk team) one.0 =
    (asks_cons plan span base_end here team r one.0 (subst (λ z. AreAsks plan span base_end here team z) one.1 all)).3 in
    let f : ℕ = next.0 in
    let at : start ≡ f = (request_bounds plan team span base_end f (near f team) run start end chunk next.2).0 in
    let first : IsFirstMissing here span base_end start = subst (λ z. IsFirstMissing here span base_end z) (sym at) next.1 in
    let p : Ask = Pull run start (min 131072 (end - start)) in
    let following : IsNext plan here (after_request run start end chunk team) span base_end p =
    next_at plan here (after_request run start end chunk team) span base_end start p first (sym (pull_next plan team span base_end start run end chunk direct some)) in
    let two = begins_with p one.0 (first_is plan here (after_request run start end chunk team) span base_end p one.0 following after) (no_pull run start (min 131072 (end - start))) in
    (two.0, one.1 ∙ ap (λ z. r ∷ z) two.1)

-- the asks that begin with a pull
pub pull_asks : (plan : Plan) (here : ℕ → Bool) (team : Team) (span : Span) (base_end run pos len : ℕ) (asks : List Ask) → IsNext plan here team span base_end (Pull run pos len) → AreAsks plan span base_end here team asks → (rest : List Ask) × (asks ≡ Pull run pos len ∷ rest)
pull_asks plan here team span base_end run pos len asks next all =
    begins_with (Pull run pos len) asks (first_is plan here team span base_end (Pull run pos len) asks next all) (no_pull run pos len)

-- a request starts below the base end, and ends by it
pub request_below : (plan : Plan) (here : ℕ → Bool) (team : Team) (span : Span) (base_end run start end chunk : ℕ) → IsNext plan here team span base_end (Request run start end chunk) → (start < base_end) × (end ≤ base_end)
request_below plan here team span base_end run start end chunk next =
    let at = request_bounds plan team span base_end next.0 (near next.0 team) run start end chunk next.2 in
    (omega (arith, at.0, next.1.below), at.1)

pulls_from : (plan : Plan) (team : Team) (span : Span) (base_end f : ℕ) (o : Option Downloader) (run pos len : ℕ) → near f team ≡ o → Pull run pos len ≡ ask_by plan team span base_end f o → pos ≤ f
pulls_from plan team span base_end f None run pos len at e = absurd (cc)
pulls_from plan team span base_end f (Some d) run pos len at e = elim (cases_Bool (d.pos == d.end)) [
  | inl h ↦ absurd (apart (rw h at e))
  | inr h ↦
      let near' = reached (gap_of team) f d (found_passes (reaches (gap_of team) f) team.list d at) in
      let same : pos ≡ d.pos = place (rw h at e) in
      omega (arith, same, near'.0)
]
  where
    apart : {run pos len r start end chunk : ℕ} → Pull run pos len ≡ Request r start end chunk → ⊥
    apart e = cc

    place : {run pos len r p n : ℕ} → Pull run pos len ≡ Pull r p n → pos ≡ p
    place e = cc

-- a pull starts below the base end
pub pull_below : (plan : Plan) (here : ℕ → Bool) (team : Team) (span : Span) (base_end run pos len : ℕ) → IsNext plan here team span base_end (Pull run pos len) → pos < base_end
pull_below plan here team span base_end run pos len next =
    omega (arith, pulls_from plan team span base_end next.0 (near next.0 team) run pos len refl next.2, next.1.below)
