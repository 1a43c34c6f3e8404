-- The list of asks: it ends, there is one, and after it the span is here.
use Rattle.std.proofs.Common.{◌≡◌, ℕ, ◌+◌, ◌-◌, ◌<◌, ◌≤◌, ◌==◌, Bool, min, List, [], ◌∷◌, Option, Some, None, refl, sym, ◌∙◌, ap, subst, arith, inl, inr}
use Rattle.std.specs.List.{All}
use Rattle.std.proofs.lemmas.Bool.{cases_Bool}
use Rattle.std.proofs.lemmas.List.Elements.{All-nil, All-cons}
use Rattle.byte_ranges.specs.declared.Span.{Span}
use Rattle.downloaders.specs.declared.Ask.{Ask}
use Rattle.downloaders.specs.declared.Ask.TheVariants.{Done, Request, Pull}
use Rattle.downloaders.specs.declared.Downloader.{Downloader}
use Rattle.downloaders.specs.declared.Plan.{Plan}
use Rattle.downloaders.specs.Crew.{Team, member_at, after_pull, IsAhead, HasLeft, IsTeam}
use Rattle.downloaders.specs.Rules.{IsFirstMissing, AllHere, near, first_size, ask_by, ask_for, here_after, team_after, AreAsks, HasChunk, StandsAt, IsDoable}
use Rattle.downloaders.specs.Orders.{requests_in, here_in_the_end, StartAbsent}
use Rattle.downloaders.proofs.Teams.{pulled_team, asked_team}
use Rattle.downloaders.proofs.Steps.{first_once, not_all, doable}

-- a list of asks that isn't empty
pub asks_cons : (plan : Plan) (span : Span) (base_end : ℕ) (here : ℕ → Bool) (team : Team) (a : Ask) (rest : List Ask) → AreAsks plan span base_end here team (a ∷ rest) → (f : ℕ) × IsFirstMissing here span base_end f × (a ≡ ask_for plan team span base_end f) × AreAsks plan span base_end (λ p. here_after a base_end here p) (team_after a team) rest
asks_cons plan span base_end here team Done rest x = absurd x
asks_cons plan span base_end here team (Request run start end chunk) rest x = (x.0.0, x.0.1, x.0.2, x.1)
asks_cons plan span base_end here team (Pull run pos len) rest x = (x.0.0, x.0.1, x.0.2, x.1)

pub asks_once : (plan : Plan) (span : Span) (base_end : ℕ) (here : ℕ → Bool) (team : Team) (xs ys : List Ask) → AreAsks plan span base_end here team xs → AreAsks plan span base_end here team ys → xs ≡ ys
asks_once plan span base_end here team [] [] x y = refl
asks_once plan span base_end here team [] (b ∷ ys) x y =
    let more = asks_cons plan span base_end here team b ys y in
    absurd (not_all here span base_end more.0 x more.1)
asks_once plan span base_end here team (a ∷ xs) [] x y =
    let more = asks_cons plan span base_end here team a xs x in
    absurd (not_all here span base_end more.0 y more.1)
asks_once plan span base_end here team (a ∷ xs) (b ∷ ys) x y =
    let m = asks_cons plan span base_end here team a xs x in
    let n = asks_cons plan span base_end here team b ys y in
    let e : a ≡ b = m.2 ∙ ap (ask_for plan team span base_end) (first_once here span base_end m.0 n.0 m.1 n.1) ∙ sym n.2 in
    let y' : AreAsks plan span base_end (λ p. here_after a base_end here p) (team_after a team) ys =
    subst (λ z. AreAsks plan span base_end (λ p. here_after z base_end here p) (team_after z team) ys) (sym e) n.3 in
    let rest : xs ≡ ys = asks_once plan span base_end (λ p. here_after a base_end here p) (team_after a team) xs ys m.3 y' in
    ap (λ z. z ∷ xs) e ∙ ap (λ zs. b ∷ zs) rest

pub asks_cover : (plan : Plan) (span : Span) (base_end : ℕ) (here : ℕ → Bool) (team : Team) (xs : List Ask) → AreAsks plan span base_end here team xs → AllHere (λ p. here_in_the_end xs base_end here p) span base_end
asks_cover plan span base_end here team [] x = x
asks_cover plan span base_end here team (a ∷ xs) x =
    asks_cover plan span base_end (λ p. here_after a base_end here p) (team_after a team) xs (asks_cons plan span base_end here team a xs x).3

pub pull_team : (team : Team) (run pos len : ℕ) (o : Option Downloader) → o ≡ member_at run team → IsTeam team → StandsAt pos len o → IsTeam (after_pull run len team)
pull_team team run pos len None e ok at = absurd at
pull_team team run pos len (Some d) e ok at =
    let ahead : IsAhead len (Some d) = omega (arith, at.0, at.1) in
    let left : HasLeft run len team = subst (IsAhead len) e ahead in
    let now = pulled_team team team run len (Some d) d refl e refl ok left in
    subst IsTeam now.2 now.1

pub step_team : (team : Team) (a : Ask) → IsTeam team → IsDoable team a → IsTeam (team_after a team)
step_team team Done ok may = ok
step_team team (Request run start end chunk) ok may =
    (asked_team team team run start end chunk refl ok may.2 may.0 may.1).1
step_team team (Pull run pos len) ok may = pull_team team run pos len (member_at run team) refl ok may.2

-- requests lie within the object, and start at a byte that isn't here
pub request_bounds : (plan : Plan) (team : Team) (span : Span) (base_end f : ℕ) (o : Option Downloader) (run start end chunk : ℕ) → Request run start end chunk ≡ ask_by plan team span base_end f o → (start ≡ f) × (end ≤ base_end)
request_bounds plan team span base_end f None run start end chunk e =
    let s : start ≡ f = cc in
    let t : end ≡ min base_end (f + first_size plan.chunk (base_end - f)) = cc in
    (s, omega (arith, t))
request_bounds plan team span base_end f (Some d) run start end chunk e = elim (cases_Bool (d.pos == d.end)) [
  | inl h ↦ again (rw h at e)
  | inr h ↦ absurd (apart (rw h at e))
]
  where
    again : {run start end chunk r f base_end size : ℕ} → Request run start end chunk ≡ Request r f (min base_end (f + size)) size → (start ≡ f) × (end ≤ base_end)
    again {run} {start} {end} {chunk} {r} {f} {base_end} {size} e =
        let s : start ≡ f = cc in
        let t : end ≡ min base_end (f + size) = cc in
        (s, omega (arith, t))

    apart : {run start end chunk r pos len : ℕ} → Request run start end chunk ≡ Pull r pos len → ⊥
    apart e = cc

pub asks_fresh : (plan : Plan) (span : Span) (base_end : ℕ) (here : ℕ → Bool) (team : Team) (xs : List Ask) → AreAsks plan span base_end here team xs → StartAbsent base_end here xs
asks_fresh plan span base_end here team [] x = tt
asks_fresh plan span base_end here team (Done ∷ xs) x = absurd x
asks_fresh plan span base_end here team (Request run start end chunk ∷ xs) x =
    let at = request_bounds plan team span base_end x.0.0 (near x.0.0 team) run start end chunk x.0.2 in
    (ap here at.0 ∙ x.0.1.missing, asks_fresh plan span base_end here (team_after (Request run start end chunk) team) xs x.1)
asks_fresh plan span base_end here team (Pull run pos len ∷ xs) x =
    asks_fresh plan span base_end (λ p. here_after (Pull run pos len) base_end here p) (team_after (Pull run pos len) team) xs x.1

pub asks_within : (plan : Plan) (span : Span) (base_end : ℕ) (here : ℕ → Bool) (team : Team) (xs : List Ask) → HasChunk plan.chunk → IsTeam team → AreAsks plan span base_end here team xs → All (λ r. (r.0 < r.1) × (r.1 ≤ base_end)) (requests_in xs)
asks_within plan span base_end here team [] has ok x = All-nil _
asks_within plan span base_end here team (Done ∷ xs) has ok x = absurd x
asks_within plan span base_end here team (Request run start end chunk ∷ xs) has ok x =
    let at = request_bounds plan team span base_end x.0.0 (near x.0.0 team) run start end chunk x.0.2 in
    let may : IsDoable team (Request run start end chunk) = doable plan team span base_end x.0.0 (Request run start end chunk) has ok x.0.1.to x.0.1.below x.0.2 in
    let next : IsTeam (team_after (Request run start end chunk) team) = step_team team (Request run start end chunk) ok may in
    All-cons (λ (r : ℕ × ℕ). (r.0 < r.1) × (r.1 ≤ base_end)) (start, end) (requests_in xs) (may.0, at.1) (asks_within plan span base_end here (team_after (Request run start end chunk) team) xs has next x.1)
asks_within plan span base_end here team (Pull run pos len ∷ xs) has ok x =
    let may : IsDoable team (Pull run pos len) = doable plan team span base_end x.0.0 (Pull run pos len) has ok x.0.1.to x.0.1.below x.0.2 in
    let next : IsTeam (team_after (Pull run pos len) team) = step_team team (Pull run pos len) ok may in
    asks_within plan span base_end (λ p. here_after (Pull run pos len) base_end here p) (team_after (Pull run pos len) team) xs has next x.1
