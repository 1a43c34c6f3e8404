-- Which downloader has a number after a step, and that each has its stream.
use Rattle.std.proofs.Common.{◌≡◌, ◌≢◌, ℕ, ◌+◌, ◌⊎◌, true, false, List, [], ◌∷◌, Option, Some, None, refl, sym, ◌∙◌, ap, subst, arith, inl, inr}
use Rattle.std.specs.List.{find}
use Rattle.std.proofs.lemmas.Bool.{cases_Bool, cases_order, eqb-true, eq-eqb, ne_eqb}
use Rattle.vfs_names.specs.declared.fingerprint.Fingerprint.{Fingerprint}
use Rattle.downloaders.specs.declared.Downloader.{Downloader}
use Rattle.downloaders.specs.Crew.{Team, is_at, member_at, without, in_front, after_pull, after_end, on_by, front_by}
use Rattle.downloaders.proofs.Teams.{found_passes}
use Rattle.base_object.specs.declared.streams.Streams.{Streams}
use Rattle.base_object.specs.Streams.{stream_at, IsStream, IsStreamOf, HasStreams}

-- the others keep their numbers
pub find_other : (q run : ℕ) (list : List Downloader) → q ≢ run → find (is_at q) (without run list) ≡ find (is_at q) list
find_other q run [] n = refl
find_other q run (d ∷ rest) n = elim (cases_Bool (is_at run d)) [
  | inl here ↦
      let same : d.run ≡ run = eqb-true d.run run here in
      let not_q : is_at q d ≡ false = ne_eqb d.run q (λ e. n (sym e ∙ same)) in
      rw (here, not_q) (find_other q run rest n)
  | inr other ↦ elim (cases_Bool (is_at q d)) [
    | inl at ↦ rw (other, at) refl
    | inr not_at ↦ rw (other, not_at) (find_other q run rest n)
  ]
]

pub find_gone : (run : ℕ) (list : List Downloader) → find (is_at run) (without run list) ≡ None
find_gone run [] = refl
find_gone run (d ∷ rest) = elim (cases_Bool (is_at run d)) [
  | inl here ↦ rw here (find_gone run rest)
  | inr other ↦ rw (other, other) (find_gone run rest)
]

pub front_at : (d : Downloader) (team : Team) → member_at d.run (in_front d team) ≡ Some d
front_at d team = let at : is_at d.run d ≡ true = eq-eqb d.run d.run refl in rw at refl

pub front_other : (q : ℕ) (d : Downloader) (team : Team) → q ≢ d.run → member_at q (in_front d team) ≡ member_at q team
front_other q d team n =
    let not_at : is_at q d ≡ false = ne_eqb d.run q (λ e. n (sym e)) in
    rw not_at (find_other q d.run team.list n)

same_or : (q run : ℕ) → (q ≡ run) ⊎ (q ≢ run)
same_or q run = elim (cases_order q run) [
  | inl e ↦ inl e
  | inr (inl l) ↦ inr (λ e. omega arith)
  | inr (inr l) ↦ inr (λ e. omega arith)
]

-- only the downloader of one number, and its stream, have changed
pub streams_move : {S : Type 0} (source : S → Fingerprint) (place finish : S → ℕ) (print print' : Fingerprint) (streams streams' : Streams S) (team team' : Team) (run : ℕ) → HasStreams source place finish print streams team → print' ≡ print → ((q : ℕ) → q ≢ run → stream_at q streams' ≡ stream_at q streams) → ((q : ℕ) → q ≢ run → member_at q team' ≡ member_at q team) → IsStreamOf source place finish print' (member_at run team') (stream_at run streams') → HasStreams source place finish print' streams' team'
streams_move {S} source place finish print print' streams streams' team team' run old same others members now q = elim (same_or q run) [
  | inl e ↦ subst (λ z. IsStreamOf source place finish print' (member_at z team') (stream_at z streams')) (sym e) now
  | inr n ↦
      let there : IsStreamOf source place finish print' (member_at q team) (stream_at q streams) =
      subst (λ z. IsStreamOf source place finish z (member_at q team) (stream_at q streams)) (sym same) (old q) in
      let moved : IsStreamOf source place finish print' (member_at q team') (stream_at q streams) =
      subst (λ z. IsStreamOf source place finish print' z (stream_at q streams)) (sym (members q n)) there in
      subst (λ z. IsStreamOf source place finish print' (member_at q team') z) (sym (others q n)) moved
]

pub streams_ended : {S : Type 0} (source : S → Fingerprint) (place finish : S → ℕ) (print print' : Fingerprint) (streams streams' : Streams S) (team team' : Team) (run : ℕ) → HasStreams source place finish print streams team → print' ≡ print → team' ≡ after_end run team → stream_at run streams' ≡ None → ((q : ℕ) → q ≢ run → stream_at q streams' ≡ stream_at q streams) → HasStreams source place finish print' streams' team'
streams_ended {S} source place finish print print' streams streams' team team' run old same is free others =
    let gone : member_at run team' ≡ None = ap (member_at run) is ∙ find_gone run team.list in
    let now : IsStreamOf source place finish print' (member_at run team') (stream_at run streams') =
    subst (λ z. IsStreamOf source place finish print' (member_at run team') z) (sym free)
    (subst (λ z. IsStreamOf source place finish print' z None) (sym gone) tt) in
    streams_move source place finish print print' streams streams' team team' run old same others
    (λ q n. ap (member_at q) is ∙ find_other q run team.list n) now

-- a downloader has gone to the front with its stream
pub streams_front : {S : Type 0} (source : S → Fingerprint) (place finish : S → ℕ) (print print' : Fingerprint) (streams streams' : Streams S) (team team' : Team) (d : Downloader) (s : S) → HasStreams source place finish print streams team → print' ≡ print → team' ≡ in_front d team → stream_at d.run streams' ≡ Some s → IsStream print' (source s) (place s) (finish s) d → ((q : ℕ) → q ≢ d.run → stream_at q streams' ≡ stream_at q streams) → HasStreams source place finish print' streams' team'
streams_front {S} source place finish print print' streams streams' team team' d s old same is there own others =
    let here : member_at d.run team' ≡ Some d = ap (member_at d.run) is ∙ front_at d team in
    let now : IsStreamOf source place finish print' (member_at d.run team') (stream_at d.run streams') =
    subst (λ z. IsStreamOf source place finish print' (member_at d.run team') z) (sym there)
    (subst (λ z. IsStreamOf source place finish print' z (Some s)) (sym here) own) in
    streams_move source place finish print print' streams streams' team team' d.run old same others
    (λ q n. ap (member_at q) is ∙ front_other q d team n) now

none_some : {T : Type 0} (x : T) (o : Option T) → o ≡ None → o ≡ Some x → ⊥
none_some x o e f = cc

-- the stream at a place is that of the downloader that has its number
pub stream_found : {S : Type 0} (source : S → Fingerprint) (place finish : S → ℕ) (print : Fingerprint) (streams : Streams S) (team : Team) (run : ℕ) (s : S) → HasStreams source place finish print streams team → stream_at run streams ≡ Some s → (d : Downloader) × (member_at run team ≡ Some d) × IsStream print (source s) (place s) (finish s) d
stream_found {S} source place finish print streams team run s old there = by_member (member_at run team) refl (subst (λ z. IsStreamOf source place finish print (member_at run team) z) there (old run))
  where
    by_member : (o : Option Downloader) → member_at run team ≡ o → IsStreamOf source place finish print o (Some s) → (d : Downloader) × (member_at run team ≡ Some d) × IsStream print (source s) (place s) (finish s) d
    by_member None e h = absurd h
    by_member (Some d) e h = (d, e, h)

pub run_of_member : (run : ℕ) (team : Team) (d : Downloader) → member_at run team ≡ Some d → d.run ≡ run
run_of_member run team d h = eqb-true d.run run (found_passes (is_at run) team.list d h)

-- a downloader has pulled so many bytes of its stream
pub streams_pulled : {S : Type 0} (source : S → Fingerprint) (place finish : S → ℕ) (print print' : Fingerprint) (streams streams' : Streams S) (team team' : Team) (run len : ℕ) (s s' : S) → HasStreams source place finish print streams team → print' ≡ print → stream_at run streams ≡ Some s → team' ≡ after_pull run len team → stream_at run streams' ≡ Some s' → source s' ≡ source s → place s' ≡ place s + len → finish s' ≡ finish s → ((q : ℕ) → q ≢ run → stream_at q streams' ≡ stream_at q streams) → HasStreams source place finish print' streams' team'
streams_pulled {S} source place finish print print' streams streams' team team' run len s s' old same was is there own at to others =
    let found = stream_found source place finish print streams team run s old was in
    let d : Downloader = found.0 in
    let number : d.run ≡ run = run_of_member run team d found.1 in
    let front : team' ≡ in_front (on_by len d) team = is ∙ ap (λ o. front_by len o team) found.1 in
    let mine : IsStream print (source s) (place s) (finish s) d = found.2 in
    let now : IsStream print' (source s') (place s') (finish s') (on_by len d) = record {
      own = own ∙ mine.own ∙ sym same;
      at = at ∙ ap (λ n. n + len) mine.at;
      to = to ∙ mine.to;
    } in
    streams_front source place finish print print' streams streams' team team' (on_by len d) s' old same front
    (subst (λ z. stream_at z streams' ≡ Some s') (sym number) there) now
    (λ q n. others q (λ e. n (e ∙ sym number)))

-- a crew stays what it is
pub direct_same : (team team' : Team) → team' ≡ team → team.direct ≡ false → team'.direct ≡ false
direct_same team team' e h = ap (λ (t : Team). t.direct) e ∙ h

pub direct_pulled : (run len : ℕ) (team : Team) → team.direct ≡ false → (after_pull run len team).direct ≡ false
direct_pulled run len team h = by_member (member_at run team)
  where
    by_member : (o : Option Downloader) → (front_by len o team).direct ≡ false
    by_member None = h
    by_member (Some d) = h
