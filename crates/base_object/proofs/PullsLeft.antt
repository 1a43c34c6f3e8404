-- The number of pulls that are left falls with each of them.
use Rattle.std.proofs.Common.{◌≡◌, ℕ, zero, suc, ◌+◌, ◌-◌, ◌<◌, ◌≤◌, ◌==◌, Bool, true, false, min, if◌then◌else◌, List, [], ◌∷◌, length, Option, Some, None, refl, sym, ◌∙◌, ap, subst, arith, inl, inr}
use Rattle.std.proofs.lemmas.Bool.{cases_Bool, cases_lt}
use Rattle.byte_ranges.specs.declared.Span.{Span}
use Rattle.downloaders.specs.declared.Ask.{Ask}
use Rattle.downloaders.specs.declared.Ask.TheVariants.{Done, Request, Pull}
use Rattle.downloaders.specs.declared.Downloader.{Downloader}
use Rattle.downloaders.specs.declared.Plan.{Plan}
use Rattle.downloaders.specs.Crew.{Team, IsTeam, in_front, member_at, on_by, after_pull, after_request, front_by}
use Rattle.downloaders.specs.Orders.{team_in_the_end}
use Rattle.downloaders.specs.Rules.{IsFirstMissing, gap_of, reaches, near, ask_by, AreAsks, HasChunk, IsDoable}
use Rattle.downloaders.proofs.Teams.{found_passes, found_at}
use Rattle.downloaders.proofs.Steps.{reached, doable}
use Rattle.downloaders.proofs.Plans.{request_bounds, step_team}
use Rattle.downloaders.proofs.Ends.{missing, missing_fewer, missing_no_more, gap_most, near_front, stored, not_stored, Grows}
use Rattle.base_object.specs.declared.block.Block.{Block}
use Rattle.base_object.specs.PullsLeft.{bytes_below, count_absent, first_absent, pulls_left, way_to}
use Rattle.base_object.specs.Pulls.{IsPullOf, here_with, to_pull}

count_same : (here : ℕ → Bool) (from n : ℕ) → count_absent here from n ≡ missing here from n
count_same here from zero = refl
count_same here from (suc n) = ap (λ k. (if here from then 0 else 1) + k) (count_same here (from + 1) n)

count_fewer : (here here' : ℕ → Bool) (from n f : ℕ) → Grows here here' → from ≤ f → f < from + n → here f ≡ false → here' f ≡ true → count_absent here' from n < count_absent here from n
count_fewer here here' from n f g a b old new = omega (arith, count_same here from n, count_same here' from n, missing_fewer here here' from n f g a b old new)

count_no_more : (here here' : ℕ → Bool) (from n : ℕ) → Grows here here' → count_absent here' from n ≤ count_absent here from n
count_no_more here here' from n g = omega (arith, count_same here from n, count_same here' from n, missing_no_more here here' from n g)

absent_at : (here : ℕ → Bool) (from n f : ℕ) → from ≤ f → f < from + n → here f ≡ false → ((p : ℕ) → from ≤ p → p < f → here p ≡ true) → first_absent here from n ≡ f
absent_at here from zero f a b gone before = absurd (omega arith)
absent_at here from (suc n) f a b gone before = elim (cases_lt from f) [
  | inl l ↦
      let t : here from ≡ true = before from (omega arith) l in
      rw t (absent_at here (from + 1) n f (omega arith) (omega arith) gone (λ p x y. before p (omega arith) y))
  | inr l ↦
      let same : f ≡ from = omega arith in
      let t : here from ≡ false = ap here (sym same) ∙ gone in
      rw t (sym same)
]

-- the first byte that isn't here is the one that the rules look for
pub absent_is : (here : ℕ → Bool) (span : Span) (base_end f : ℕ) → IsFirstMissing here span base_end f → first_absent here span.start (bytes_below span base_end) ≡ f
absent_is here span base_end f first = absent_at here span.start (bytes_below span base_end) f first.from (omega (arith, first.from, first.to, first.below)) first.missing first.before

way_most : (team : Team) (f : ℕ) (o : Option Downloader) → near f team ≡ o → way_to f o ≤ 1048576
way_most team f None e = omega arith
way_most team f (Some d) e =
    let at = reached (gap_of team) f d (found_passes (reaches (gap_of team) f) team.list d e) in
    omega (arith, at.1, gap_most team)

-- a request brings its downloader to the byte
request_nearer : (here : ℕ → Bool) (span : Span) (base_end f run end chunk : ℕ) (team : Team) → IsFirstMissing here span base_end f → pulls_left here span base_end (after_request run f end chunk team) ≤ pulls_left here span base_end team
request_nearer here span base_end f run end chunk team first =
    let d : Downloader = record { run = run; pos = f; end = end; chunk = chunk } in
    let at : near f (after_request run f end chunk team) ≡ Some d = near_front team d f (omega arith) (omega arith) in
    let way : way_to f (near f (after_request run f end chunk team)) ≡ 0 = ap (way_to f) at ∙ omega arith in
    let is : first_absent here span.start (bytes_below span base_end) ≡ f = absent_is here span base_end f first in
    let now : way_to (first_absent here span.start (bytes_below span base_end)) (near (first_absent here span.start (bytes_below span base_end)) (after_request run f end chunk team)) ≡ 0 =
    subst (λ z. way_to z (near z (after_request run f end chunk team)) ≡ 0) (sym is) way in
    omega (arith, now)

-- the downloader that a pull is of
puller : (plan : Plan) (team : Team) (span : Span) (base_end f : ℕ) (o : Option Downloader) (run pos len : ℕ) → near f team ≡ o → Pull run pos len ≡ ask_by plan team span base_end f o → (d : Downloader) × (near f team ≡ Some d) × (run ≡ d.run) × (pos ≡ d.pos)
puller plan team span base_end f None run pos len at e = absurd (cc)
puller plan team span base_end f (Some d) run pos len at e = elim (cases_Bool (d.pos == d.end)) [
  | inl h ↦ absurd (apart (rw h at e))
  | inr h ↦ (d, at, number (rw h at e), place (rw h at e))
]
  where
    apart : {run pos len r start end chunk : ℕ} → Pull run pos len ≡ Request r start end chunk → ⊥
    apart e = cc

    number : {run pos len r p n : ℕ} → Pull run pos len ≡ Pull r p n → run ≡ r
    number e = cc

    place : {run pos len r p n : ℕ} → Pull run pos len ≡ Pull r p n → pos ≡ p
    place e = cc

grows : (here here' : ℕ → Bool) (block : Block) (base_end : ℕ) → ((p : ℕ) → here' p ≡ here_with block base_end here p) → Grows here here'
grows here here' block base_end h p t = h p ∙ rw t refl

pull_nearer : (here here' : ℕ → Bool) (span : Span) (base_end f : ℕ) (team team' : Team) (d : Downloader) (block : Block) → IsFirstMissing here span base_end f → near f team ≡ Some d → block.pos ≡ d.pos → 1 ≤ length block.bytes → team' ≡ in_front (on_by (length block.bytes) d) team → ((p : ℕ) → here' p ≡ here_with block base_end here p) → pulls_left here' span base_end team' < pulls_left here span base_end team
pull_nearer here here' span base_end f team team' d block first at pos some front h =
    let len : ℕ = length block.bytes in
    let is : first_absent here span.start (bytes_below span base_end) ≡ f = absent_is here span base_end f first in
    let far = reached (gap_of team) f d (found_passes (reaches (gap_of team) f) team.list d at) in
    let old : way_to (first_absent here span.start (bytes_below span base_end)) (near (first_absent here span.start (bytes_below span base_end)) team) ≡ f - d.pos =
    subst (λ z. way_to z (near z team) ≡ f - d.pos) (sym is) (ap (way_to f) at) in
    let more = grows here here' block base_end h in
    elim (cases_lt f (d.pos + len)) [
      | inl l ↦
          let low : f < min (block.pos + len) base_end = omega (arith, first.below, pos) in
          let now : here' f ≡ true = h f ∙ stored here block.pos (min (block.pos + len) base_end) f (omega (arith, pos, far.0)) low in
          let inside : f < span.start + bytes_below span base_end = omega (arith, first.from, first.to, first.below) in
          let fewer = count_fewer here here' span.start (bytes_below span base_end) f more first.from inside first.missing now in
          let g : ℕ = first_absent here' span.start (bytes_below span base_end) in
          let most : way_to g (near g team') ≤ 1048576 = way_most team' g (near g team') refl in
          omega (arith, fewer, most)
      | inr l ↦
          let still : IsFirstMissing here' span base_end f = record {
            from = first.from;
            to = first.to;
            below = first.below;
            missing = h f ∙ not_stored here block.pos (min (block.pos + len) base_end) f first.missing (omega (arith, pos));
            before = λ p a b. more p (first.before p a b);
          } in
          let is' : first_absent here' span.start (bytes_below span base_end) ≡ f = absent_is here' span base_end f still in
          let at' : near f team' ≡ Some (on_by len d) = ap (near f) front ∙ near_front team (on_by len d) f l (omega (arith, far.1)) in
          let new : way_to (first_absent here' span.start (bytes_below span base_end)) (near (first_absent here' span.start (bytes_below span base_end)) team') ≡ f - (d.pos + len) =
          subst (λ z. way_to z (near z team') ≡ f - (d.pos + len)) (sym is') (ap (way_to f) at') in
          let fewer = count_no_more here here' span.start (bytes_below span base_end) more in
          omega (arith, fewer, old, new, some)
    ]

-- with the bytes of the first pull here, less is left
pub pulls_fewer : (plan : Plan) (span : Span) (base_end : ℕ) (here here' : ℕ → Bool) (team : Team) (asks : List Ask) (block : Block) → HasChunk plan.chunk → IsTeam team → AreAsks plan span base_end here team asks → IsPullOf block asks → 1 ≤ length block.bytes → ((p : ℕ) → here' p ≡ here_with block base_end here p) → pulls_left here' span base_end (team_in_the_end (to_pull asks) team) < pulls_left here span base_end team
pulls_fewer plan span base_end here here' team [] block chunk ok all is_pull some h = absurd is_pull
pulls_fewer plan span base_end here here' team (Done ∷ rest) block chunk ok all is_pull some h = absurd all
pulls_fewer plan span base_end here here' team (Request run start end size ∷ rest) block chunk ok all is_pull some h =
    let f : ℕ = all.0.0 in
    let at : start ≡ f = (request_bounds plan team span base_end f (near f team) run start end size all.0.2).0 in
    let first : IsFirstMissing here span base_end start = subst (λ z. IsFirstMissing here span base_end z) (sym at) all.0.1 in
    let may : IsDoable team (Request run start end size) = doable plan team span base_end f (Request run start end size) chunk ok all.0.1.to all.0.1.below all.0.2 in
    let nearer = request_nearer here span base_end start run end size team first in
    let fewer = pulls_fewer plan span base_end here here' (after_request run start end size team) rest block chunk (step_team team (Request run start end size) ok may) all.1 is_pull some h in
    omega (arith, nearer, fewer)
pulls_fewer plan span base_end here here' team (Pull run pos len ∷ rest) block chunk ok all is_pull some h =
    let f : ℕ = all.0.0 in
    let by = puller plan team span base_end f (near f team) run pos len refl all.0.2 in
    let d : Downloader = by.0 in
    let member : member_at d.run team ≡ Some d = found_at (reaches (gap_of team) f) team.list d ok.apart by.1 in
    let same : after_pull run len team ≡ after_pull d.run (length block.bytes) team =
    ap (λ r. after_pull r len team) by.2 ∙ ap (λ n. after_pull d.run n team) (sym is_pull.1) in
    let front : after_pull run len team ≡ in_front (on_by (length block.bytes) d) team =
    same ∙ ap (λ o. front_by (length block.bytes) o team) member in
    pull_nearer here here' span base_end f team (after_pull run len team) d block all.0.1 by.1 (is_pull.0 ∙ by.3) some front h
