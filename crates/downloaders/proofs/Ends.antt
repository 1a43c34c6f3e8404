-- The rules come to an end.
use Rattle.std.proofs.Common.{◌≡◌, ℕ, zero, suc, ◌+◌, ◌-◌, ◌*◌, ◌<◌, ◌≤◌, ◌==◌, Bool, true, false, ◌&&◌, ◌||◌, nat_lt, nat_le, min, if◌then◌else◌, List, [], ◌∷◌, Option, Some, None, refl, sym, ◌∙◌, ap, subst, arith, ◌⊎◌, inl, inr}
use Rattle.std.proofs.lemmas.Bool.{cases_Bool, cases_lt, ne_eqb, le-leb, le-ltb, lt-ltb, and_from, and_right}
use Rattle.byte_ranges.specs.declared.Span.{Span}
use Rattle.byte_ranges.proofs.Spans.{in_bounds}
use Rattle.downloaders.specs.declared.Ask.{Ask}
use Rattle.downloaders.specs.declared.Ask.TheVariants.{Request, Pull}
use Rattle.downloaders.specs.declared.Downloader.{Downloader}
use Rattle.downloaders.specs.declared.Plan.{Plan}
use Rattle.downloaders.specs.Crew.{Team, member_at, in_front, front_by, on_by, after_request, after_pull, IsTeam, new_run}
use Rattle.downloaders.specs.Rules.{IsFirstMissing, AllHere, gap_of, reaches, near, first_size, later_size, pull_len, ask_by, ask_for, here_after, AreAsks, HasChunk, IsDoable}
use Rattle.downloaders.proofs.Teams.{found_passes, found_at}
use Rattle.downloaders.proofs.Steps.{first_once, doable, reached}
use Rattle.downloaders.proofs.Plans.{step_team}

-- how many of n bytes from `from` on aren't here
abbrev pub missing : (ℕ → Bool) → ℕ → ℕ → ℕ
missing here from zero = 0
missing here from (suc n) = (if here from then 0 else 1) + missing here (from + 1) n

abbrev pub Grows : (ℕ → Bool) → (ℕ → Bool) → Type 0
Grows here here' = (p : ℕ) → here p ≡ true → here' p ≡ true

pub missing_no_more : (here here' : ℕ → Bool) (from n : ℕ) → Grows here here' → missing here' from n ≤ missing here from n
missing_no_more here here' from zero g = omega arith
missing_no_more here here' from (suc n) g =
    let rest = missing_no_more here here' (from + 1) n g in
    elim (cases_Bool (here from)) [
      | inl t ↦ let t' : here' from ≡ true = g from t in rw (t, t') (omega (arith, rest))
      | inr t ↦ elim (cases_Bool (here' from)) [
        | inl t' ↦ rw (t, t') (omega (arith, rest))
        | inr t' ↦ rw (t, t') (omega (arith, rest))
      ]
    ]

pub missing_fewer : (here here' : ℕ → Bool) (from n f : ℕ) → Grows here here' → from ≤ f → f < from + n → here f ≡ false → here' f ≡ true → missing here' from n < missing here from n
missing_fewer here here' from zero f g a b old new = absurd (omega arith)
missing_fewer here here' from (suc n) f g a b old new = elim (cases_lt from f) [
  | inl l ↦
      let rest = missing_fewer here here' (from + 1) n f g (omega arith) (omega arith) old new in
      elim (cases_Bool (here from)) [
        | inl t ↦ let t' : here' from ≡ true = g from t in rw (t, t') (omega (arith, rest))
        | inr t ↦ elim (cases_Bool (here' from)) [
          | inl t' ↦ rw (t, t') (omega (arith, rest))
          | inr t' ↦ rw (t, t') (omega (arith, rest))
        ]
      ]
  | inr l ↦
      let at : f ≡ from = omega arith in
      let t : here from ≡ false = ap here (sym at) ∙ old in
      let t' : here' from ≡ true = ap here' (sym at) ∙ new in
      rw (t, t') (omega (arith, missing_no_more here here' (from + 1) n g))
]

pub scan : (here : ℕ → Bool) (from n : ℕ) → ((p : ℕ) → from ≤ p → p < from + n → here p ≡ true) ⊎ ((f : ℕ) × (from ≤ f) × (f < from + n) × (here f ≡ false) × ((p : ℕ) → from ≤ p → p < f → here p ≡ true))
scan here from zero = inl (λ p a b. absurd (omega arith))
scan here from (suc n) = elim (cases_Bool (here from)) [
  | inr t ↦ inr (from, omega arith, omega arith, t, λ p a b. absurd (omega arith))
  | inl t ↦ elim (scan here (from + 1) n) [
    | inl all ↦ inl (λ p a b. first_or here from p t (λ l. all p (omega arith) (omega arith)) a)
    | inr x ↦ inr (x.0, omega (arith, x.1), omega (arith, x.2), x.3, λ p a b. first_or here from p t (λ l. x.4 p (omega arith) b) a)
  ]
]
  where
    first_or : (here : ℕ → Bool) (from p : ℕ) → here from ≡ true → (from < p → here p ≡ true) → from ≤ p → here p ≡ true
    first_or here from p t later a = elim (cases_lt from p) [
      | inl l ↦ later l
      | inr l ↦ let at : p ≡ from = omega arith in ap here at ∙ t
    ]

-- how many bytes of the span stand below the base end
abbrev pub width : Span → ℕ → ℕ
width span base_end = min span.end base_end - span.start

pub find_first : (here : ℕ → Bool) (span : Span) (base_end : ℕ) → AllHere here span base_end ⊎ ((f : ℕ) × IsFirstMissing here span base_end f)
find_first here span base_end = elim (scan here span.start (width span base_end)) [
  | inl all ↦ inl (λ p i b. let at = in_bounds span p i in all p at.0 (omega (arith, at.1)))
  | inr x ↦ inr (x.0, record { from = x.1; to = omega (arith, x.2); below = omega (arith, x.2); missing = x.3; before = x.4 })
]

-- how far the downloader is from storing f
abbrev pub weight : Option Downloader → ℕ → ℕ
weight None f = 2
weight (Some d) f = (if d.pos == d.end then 2 else 1) + 2 * (f - d.pos)

pub gap_most : (team : Team) → gap_of team ≤ 1048576
gap_most team = elim (cases_Bool team.direct) [ inl t ↦ rw t (omega arith) | inr t ↦ rw t (omega arith) ]

pub weight_most : (team : Team) (f : ℕ) (o : Option Downloader) → near f team ≡ o → weight o f ≤ 2097154
weight_most team f None e = omega arith
weight_most team f (Some d) e =
    let at = reached (gap_of team) f d (found_passes (reaches (gap_of team) f) team.list d e) in
    elim (cases_Bool (d.pos == d.end)) [
      | inl t ↦ rw t (omega (arith, at.1, gap_most team))
      | inr t ↦ rw t (omega (arith, at.1, gap_most team))
    ]

pub near_front : (team : Team) (d : Downloader) (f : ℕ) → d.pos ≤ f → f - d.pos ≤ gap_of team → near f (in_front d team) ≡ Some d
near_front team d f a b =
    let t : reaches (gap_of team) f d ≡ true = and_from (nat_le d.pos f) (nat_le (f - d.pos) (gap_of team)) (le-leb d.pos f a) (le-leb (f - d.pos) (gap_of team) b) in
    rw t refl

-- a downloader that stands at f before the end of its request stores it next
pub weight_one : (d : Downloader) (f : ℕ) → d.pos ≡ f → d.pos < d.end → weight (Some d) f ≡ 1
weight_one d f e l =
    let t : (d.pos == d.end) ≡ false = ne_eqb d.pos d.end (λ h. omega arith) in
    rw t (omega arith)

pub weight_low : (d : Downloader) (f : ℕ) → weight (Some d) f ≤ 2 + 2 * (f - d.pos)
weight_low d f = elim (cases_Bool (d.pos == d.end)) [
  | inl t ↦ rw t (omega arith)
  | inr t ↦ rw t (omega arith)
]

-- the asks that are left make less than so many steps
abbrev pub Within : Span → ℕ → (ℕ → Bool) → Team → ℕ → Type 0
Within span base_end here team fuel = (f : ℕ) → IsFirstMissing here span base_end f → missing here span.start (width span base_end) * 2097155 + weight (near f team) f < fuel

pub within_request : (span : Span) (base_end f fuel : ℕ) (here : ℕ → Bool) (team : Team) (run end chunk : ℕ) → IsFirstMissing here span base_end f → f < end → missing here span.start (width span base_end) * 2097155 + 2 < suc fuel → Within span base_end here (after_request run f end chunk team) fuel
within_request span base_end f fuel here team run end chunk first l h g other =
    let d : Downloader = record { run = run; pos = f; end = end; chunk = chunk } in
    let same : g ≡ f = first_once here span base_end g f other first in
    let at : near f (after_request run f end chunk team) ≡ Some d = near_front team d f (omega arith) (omega arith) in
    let one : weight (near f (after_request run f end chunk team)) f ≡ 1 = ap (λ o. weight o f) at ∙ weight_one d f refl l in
    let now : missing here span.start (width span base_end) * 2097155 + weight (near f (after_request run f end chunk team)) f < fuel = omega (arith, one) in
    subst (λ z. missing here span.start (width span base_end) * 2097155 + weight (near z (after_request run f end chunk team)) z < fuel) (sym same) now

pub stored : (here : ℕ → Bool) (pos end p : ℕ) → pos ≤ p → p < end → (here p || (nat_le pos p && nat_lt p end)) ≡ true
stored here pos end p a b = or_true (here p) (nat_le pos p && nat_lt p end) (and_from (nat_le pos p) (nat_lt p end) (le-leb pos p a) (lt-ltb p end b))
  where
    or_true : (a b : Bool) → b ≡ true → (a || b) ≡ true
    or_true true b h = refl
    or_true false b h = h

pub not_stored : (here : ℕ → Bool) (pos end p : ℕ) → here p ≡ false → end ≤ p → (here p || (nat_le pos p && nat_lt p end)) ≡ false
not_stored here pos end p h l = rw h (and_right (nat_le pos p) (nat_lt p end) (le-ltb p end l))

pub kept_here : (here : ℕ → Bool) (b : ℕ → Bool) → Grows here (λ p. here p || b p)
kept_here here b p h = rw h refl

pub within_pull : (span : Span) (base_end f fuel : ℕ) (here : ℕ → Bool) (team : Team) (d : Downloader) (len : ℕ) → IsFirstMissing here span base_end f → 1 ≤ len → d.pos ≤ f → f - d.pos ≤ gap_of team → missing here span.start (width span base_end) * 2097155 + (1 + 2 * (f - d.pos)) < suc fuel → Within span base_end (λ p. here_after (Pull d.run d.pos len) base_end here p) (in_front (on_by len d) team) fuel
within_pull span base_end f fuel here team d len first some at gap h g other = elim (cases_lt f (d.pos + len)) [
  | inl l ↦
      let low : f < min (d.pos + len) base_end = omega (arith, first.below) in
      let now : here_after (Pull d.run d.pos len) base_end here f ≡ true = stored here d.pos (min (d.pos + len) base_end) f at low in
      let inside : f < span.start + width span base_end = omega (arith, first.from, first.to, first.below) in
      let fewer = missing_fewer here (λ p. here_after (Pull d.run d.pos len) base_end here p) span.start (width span base_end) f (kept_here here (λ p. nat_le d.pos p && nat_lt p (min (d.pos + len) base_end))) first.from inside first.missing now in
      omega (arith, fewer, weight_most (in_front (on_by len d) team) g (near g (in_front (on_by len d) team)) refl)
  | inr l ↦
      let still : IsFirstMissing (λ p. here_after (Pull d.run d.pos len) base_end here p) span base_end f = record {
        from = first.from;
        to = first.to;
        below = first.below;
        missing = not_stored here d.pos (min (d.pos + len) base_end) f first.missing (omega arith);
        before = λ p a b. kept_here here (λ q. nat_le d.pos q && nat_lt q (min (d.pos + len) base_end)) p (first.before p a b);
      } in
      let same : g ≡ f = first_once (λ p. here_after (Pull d.run d.pos len) base_end here p) span base_end g f other still in
      let seen : near f (in_front (on_by len d) team) ≡ Some (on_by len d) = near_front team (on_by len d) f l (omega arith) in
      let low : weight (near f (in_front (on_by len d) team)) f ≤ 2 + 2 * (f - (d.pos + len)) = rw seen (weight_low (on_by len d) f) in
      let fewer = missing_no_more here (λ p. here_after (Pull d.run d.pos len) base_end here p) span.start (width span base_end) (kept_here here (λ p. nat_le d.pos p && nat_lt p (min (d.pos + len) base_end))) in
      let now : missing (λ p. here_after (Pull d.run d.pos len) base_end here p) span.start (width span base_end) * 2097155 + weight (near f (in_front (on_by len d) team)) f < fuel = omega (arith, low, fewer) in
      subst (λ z. missing (λ p. here_after (Pull d.run d.pos len) base_end here p) span.start (width span base_end) * 2097155 + weight (near z (in_front (on_by len d) team)) z < fuel) (sym same) now
]

pub more_request : (plan : Plan) (span : Span) (base_end : ℕ) (here : ℕ → Bool) (team : Team) (f run end chunk : ℕ) → IsFirstMissing here span base_end f → ask_for plan team span base_end f ≡ Request run f end chunk → (asks : List Ask) × AreAsks plan span base_end here (after_request run f end chunk team) asks → (asks : List Ask) × AreAsks plan span base_end here team asks
more_request plan span base_end here team f run end chunk first e rest =
    (Request run f end chunk ∷ rest.0, ((f, first, sym e), rest.1))

pub more_pull : (plan : Plan) (span : Span) (base_end : ℕ) (here : ℕ → Bool) (team : Team) (f run pos len : ℕ) → IsFirstMissing here span base_end f → ask_for plan team span base_end f ≡ Pull run pos len → (asks : List Ask) × AreAsks plan span base_end (λ p. here_after (Pull run pos len) base_end here p) (after_pull run len team) asks → (asks : List Ask) × AreAsks plan span base_end here team asks
more_pull plan span base_end here team f run pos len first e rest =
    (Pull run pos len ∷ rest.0, ((f, first, sym e), rest.1))

pub asks_end : (fuel : ℕ) (plan : Plan) (span : Span) (base_end : ℕ) (here : ℕ → Bool) (team : Team) → HasChunk plan.chunk → IsTeam team → Within span base_end here team fuel → (asks : List Ask) × AreAsks plan span base_end here team asks
asks_end zero plan span base_end here team has ok h = elim (find_first here span base_end) [
  | inl all ↦ ([], all)
  | inr x ↦ absurd (omega (arith, h x.0 x.1))
]
asks_end (suc fuel) plan span base_end here team has ok h = elim (find_first here span base_end) [
  | inl all ↦ ([], all)
  | inr x ↦ by_near plan span base_end here team has ok (λ here' team' ok' h'. asks_end fuel plan span base_end here' team' has ok' h') x.0 (near x.0 team) x.1 refl (h x.0 x.1)
]
  where
    by_near : {fuel : ℕ} (plan : Plan) (span : Span) (base_end : ℕ) (here : ℕ → Bool) (team : Team) → HasChunk plan.chunk → IsTeam team → ((here' : ℕ → Bool) (team' : Team) → IsTeam team' → Within span base_end here' team' fuel → (asks : List Ask) × AreAsks plan span base_end here' team' asks) → (f : ℕ) (o : Option Downloader) → IsFirstMissing here span base_end f → near f team ≡ o → missing here span.start (width span base_end) * 2097155 + weight (near f team) f < suc fuel → (asks : List Ask) × AreAsks plan span base_end here team asks
    by_near {fuel} plan span base_end here team has ok go f None first e l =
        let size = first_size plan.chunk (base_end - f) in
        let end = min base_end (f + size) in
        let run = new_run team in
        let is : ask_for plan team span base_end f ≡ Request run f end size = ap (ask_by plan team span base_end f) e in
        let may : IsDoable team (Request run f end size) = doable plan team span base_end f (Request run f end size) has ok first.to first.below (sym is) in
        let w : weight (near f team) f ≡ 2 = ap (λ o. weight o f) e in
        more_request plan span base_end here team f run end size first is
        (go here (after_request run f end size team) (step_team team (Request run f end size) ok may) (within_request span base_end f fuel here team run end size first may.0 (omega (arith, w))))
    by_near {fuel} plan span base_end here team has ok go f (Some d) first e l = elim (cases_Bool (d.pos == d.end)) [
      | inl t ↦
          let size = later_size plan.chunk plan.limit (base_end - f) d.chunk in
          let end = min base_end (f + size) in
          let is : ask_for plan team span base_end f ≡ Request d.run f end size = ap (ask_by plan team span base_end f) e ∙ rw t refl in
          let may : IsDoable team (Request d.run f end size) = doable plan team span base_end f (Request d.run f end size) has ok first.to first.below (sym is) in
          let w : weight (near f team) f ≡ 2 + 2 * (f - d.pos) = ap (λ o. weight o f) e ∙ rw t refl in
          more_request plan span base_end here team f d.run end size first is
          (go here (after_request d.run f end size team) (step_team team (Request d.run f end size) ok may) (within_request span base_end f fuel here team d.run end size first may.0 (omega (arith, w))))
      | inr t ↦
          let len = pull_len team span base_end d in
          let is : ask_for plan team span base_end f ≡ Pull d.run d.pos len = ap (ask_by plan team span base_end f) e ∙ rw t refl in
          let may : IsDoable team (Pull d.run d.pos len) = doable plan team span base_end f (Pull d.run d.pos len) has ok first.to first.below (sym is) in
          let at = reached (gap_of team) f d (found_passes (reaches (gap_of team) f) team.list d e) in
          let member : member_at d.run team ≡ Some d = found_at (reaches (gap_of team) f) team.list d ok.apart e in
          let now : after_pull d.run len team ≡ in_front (on_by len d) team = ap (λ o. front_by len o team) member in
          let w : weight (near f team) f ≡ 1 + 2 * (f - d.pos) = ap (λ o. weight o f) e ∙ rw t refl in
          let left : Within span base_end (λ p. here_after (Pull d.run d.pos len) base_end here p) (after_pull d.run len team) fuel =
          subst (λ z. Within span base_end (λ p. here_after (Pull d.run d.pos len) base_end here p) z fuel) (sym now) (within_pull span base_end f fuel here team d len first may.0 at.0 at.1 (omega (arith, w))) in
          more_pull plan span base_end here team f d.run d.pos len first is
          (go (λ p. here_after (Pull d.run d.pos len) base_end here p) (after_pull d.run len team) (step_team team (Pull d.run d.pos len) ok may) left)
    ]

pub asks_are : (plan : Plan) (span : Span) (base_end : ℕ) (here : ℕ → Bool) (team : Team) → HasChunk plan.chunk → IsTeam team → (asks : List Ask) × AreAsks plan span base_end here team asks
asks_are plan span base_end here team has ok =
    asks_end (missing here span.start (width span base_end) * 2097155 + 2097155) plan span base_end here team has ok
    (λ f first. omega (arith, weight_most team f (near f team) refl))
