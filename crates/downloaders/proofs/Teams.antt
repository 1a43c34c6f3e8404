-- What holds of a crew's list when a downloader goes to its front or leaves.
use Rattle.std.proofs.Common.{◌≡◌, ℕ, zero, suc, ◌+◌, ◌-◌, ◌<◌, ◌≤◌, Bool, true, false, ◌||◌, nat_lt, List, [], ◌∷◌, length, get_or, Option, Some, None, refl, sym, ◌∙◌, ap, subst, arith, inl, inr}
use Rattle.std.specs.List.{find, All}
use Rattle.std.proofs.lemmas.Bool.{cases_Bool, cases_lt, eqb-true, eq-eqb, lt-ltb, le-ltb, true≢false, false≢true}
use Rattle.std.proofs.lemmas.List.Elements.{All-nil, All-cons, All-head, All-tail, All-filter}
use Rattle.downloaders.specs.declared.Downloader.{Downloader}
use Rattle.downloaders.specs.Crew.{Team, places, is_at, member_at, has_run, without, free_from, last_run, new_run, in_front, front_by, on_by, after_request, after_pull, IsOpen, IsAhead, HasLeft, AreApart, IsTeam}

pub places_most : (team : Team) → places team ≤ 4
places_most team = elim (cases_Bool team.direct) [ inl e ↦ rw e (omega arith) | inr e ↦ rw e (omega arith) ]

pub filter_no_more : (run : ℕ) (list : List Downloader) → length (without run list) ≤ length list
filter_no_more run [] = omega arith
filter_no_more run (d ∷ rest) = elim (cases_Bool (is_at run d)) [
  | inl e ↦ rw e (omega (arith, filter_no_more run rest))
  | inr e ↦ rw e (omega (arith, filter_no_more run rest))
]

pub filter_fewer : (run : ℕ) (list : List Downloader) → has_run run list ≡ true → length (without run list) < length list
filter_fewer run [] h = absurd (false≢true h)
filter_fewer run (d ∷ rest) h = elim (cases_Bool (is_at run d)) [
  | inl e ↦ rw e (omega (arith, filter_no_more run rest))
  | inr e ↦ let later : has_run run rest ≡ true = rw e at h in rw e (omega (arith, filter_fewer run rest later))
]

-- who isn't in a list isn't in a part of it
pub lacks_without : (k run : ℕ) (list : List Downloader) → has_run k list ≡ false → has_run k (without run list) ≡ false
lacks_without k run [] h = refl
lacks_without k run (d ∷ rest) h = elim (cases_Bool (is_at k d)) [
  | inl here ↦ absurd (true≢false (rw here at h))
  | inr here ↦
      let later : has_run k rest ≡ false = rw here at h in
      elim (cases_Bool (is_at run d)) [
        | inl e ↦ rw e (lacks_without k run rest later)
        | inr e ↦ rw (e, here) (lacks_without k run rest later)
      ]
]

pub gone : (run : ℕ) (list : List Downloader) → has_run run (without run list) ≡ false
gone run [] = refl
gone run (d ∷ rest) = elim (cases_Bool (is_at run d)) [
  | inl e ↦ rw e (gone run rest)
  | inr e ↦ rw (e, e) (gone run rest)
]

pub apart_without : (run : ℕ) (list : List Downloader) → AreApart list → AreApart (without run list)
apart_without run [] a = tt
apart_without run (d ∷ rest) a = elim (cases_Bool (is_at run d)) [
  | inl e ↦ rw e (apart_without run rest a.1)
  | inr e ↦ rw e (lacks_without d.run run rest a.0, apart_without run rest a.1)
]

none_some : (d : Downloader) (o : Option Downloader) → o ≡ None → o ≡ Some d → ⊥
none_some d o e f = cc

-- a found downloader is of the list
pub All-found : (P : Downloader → Type 0) (test : Downloader → Bool) (list : List Downloader) (d : Downloader) → find test list ≡ Some d → All P list → P d
All-found P test [] d h all = absurd (none_some d None refl h)
All-found P test (x ∷ xs) d h all = elim (cases_Bool (test x)) [
  | inl e ↦ let here : Some x ≡ Some d = rw e at h in let same : x ≡ d = cc in subst P same (All-head P x xs all)
  | inr e ↦ All-found P test xs d (rw e at h) (All-tail P x xs all)
]

pub found_passes : (test : Downloader → Bool) (list : List Downloader) (d : Downloader) → find test list ≡ Some d → test d ≡ true
found_passes test [] d h = absurd (none_some d None refl h)
found_passes test (x ∷ xs) d h = elim (cases_Bool (test x)) [
  | inl e ↦ let here : Some x ≡ Some d = rw e at h in let same : x ≡ d = cc in subst (λ y. test y ≡ true) same e
  | inr e ↦ found_passes test xs d (rw e at h)
]

pub found_has : (test : Downloader → Bool) (list : List Downloader) (d : Downloader) → find test list ≡ Some d → has_run d.run list ≡ true
found_has test [] d h = absurd (none_some d None refl h)
found_has test (x ∷ xs) d h = elim (cases_Bool (test x)) [
  | inl e ↦
      let here : Some x ≡ Some d = rw e at h in
      let same : x ≡ d = cc in
      let at : is_at d.run x ≡ true = eq-eqb x.run d.run (ap (λ y. y.run) same) in
      rw at refl
  | inr e ↦ or_true (is_at d.run x) (has_run d.run xs) (found_has test xs d (rw e at h))
]
  where
    or_true : (a b : Bool) → b ≡ true → (a || b) ≡ true
    or_true true b h = refl
    or_true false b h = h

-- the downloader that a search finds is the one of its number
pub found_at : (test : Downloader → Bool) (list : List Downloader) (d : Downloader) → AreApart list → find test list ≡ Some d → find (is_at d.run) list ≡ Some d
found_at test [] d a h = h
found_at test (x ∷ xs) d a h = elim (cases_Bool (test x)) [
  | inl e ↦
      let here : Some x ≡ Some d = rw e at h in
      let same : x ≡ d = cc in
      let at : is_at d.run x ≡ true = eq-eqb x.run d.run (ap (λ y. y.run) same) in
      rw at here
  | inr e ↦
      let later : find test xs ≡ Some d = rw e at h in
      elim (cases_Bool (is_at d.run x)) [
        | inl at ↦
            let same : x.run ≡ d.run = eqb-true x.run d.run at in
            let in' : has_run d.run xs ≡ true = found_has test xs d later in
            absurd (true≢false (sym in' ∙ ap (λ k. has_run k xs) (sym same) ∙ a.0))
        | inr at ↦ rw at (found_at test xs d a.1 later)
      ]
]

pub has_at : (run : ℕ) (list : List Downloader) → has_run run list ≡ true → (d : Downloader) × (find (is_at run) list ≡ Some d)
has_at run [] h = absurd (false≢true h)
has_at run (x ∷ xs) h = elim (cases_Bool (is_at run x)) [
  | inl e ↦ (x, rw e refl)
  | inr e ↦ let later : has_run run xs ≡ true = rw e at h in let found = has_at run xs later in (found.0, rw e found.1)
]

pub last_has : (list : List Downloader) → 0 < length list → has_run (last_run list) list ≡ true
last_has [] h = absurd (omega arith)
last_has (d ∷ []) h = let at : is_at d.run d ≡ true = eq-eqb d.run d.run refl in rw at refl
last_has (d ∷ e ∷ rest) h = or_true (is_at (last_run (e ∷ rest)) d) (has_run (last_run (e ∷ rest)) (e ∷ rest)) (last_has (e ∷ rest) (omega arith))
  where
    or_true : (a b : Bool) → b ≡ true → (a || b) ≡ true
    or_true true b h = refl
    or_true false b h = h

pub free_bound : (n k : ℕ) (list : List Downloader) → free_from n k list ≤ k + n
free_bound zero k list = omega arith
free_bound (suc n) k list = elim (cases_Bool (has_run k list)) [
  | inl e ↦ rw e (omega (arith, free_bound n (k + 1) list))
  | inr e ↦ rw e (omega arith)
]

-- a number of the crew's is below its places
pub has_low : (team : Team) (run : ℕ) → IsTeam team → has_run run team.list ≡ true → run < places team
has_low team run ok h =
    let found = has_at run team.list h in
    let same : found.0.run ≡ run = eqb-true found.0.run run (found_passes (is_at run) team.list found.0 found.1) in
    let low : found.0.run < places team = All-found (λ d. d.run < places team) (is_at run) team.list found.0 found.1 ok.runs in
    omega (arith, same, low)

pub new_low : (team : Team) → IsTeam team → 0 < places team → new_run team < places team
new_low team ok some = elim (cases_lt (length team.list) (places team)) [
  | inl e ↦
      let t : nat_lt (length team.list) (places team) ≡ true = lt-ltb (length team.list) (places team) e in
      rw t (omega (arith, free_bound (length team.list) 0 team.list, e))
  | inr e ↦
      let t : nat_lt (length team.list) (places team) ≡ false = le-ltb (length team.list) (places team) e in
      rw t (has_low team (last_run team.list) ok (last_has team.list (omega (arith, e, some))))
]

pub places_some : (team : Team) → 0 < places team
places_some team = elim (cases_Bool team.direct) [ inl e ↦ rw e (omega arith) | inr e ↦ rw e (omega arith) ]

pub open_low : (team : Team) (run : ℕ) → IsTeam team → IsOpen run team → run < places team
open_low team run ok (inl h) = has_low team run ok h
open_low team run ok (inr e) = omega (arith, e, new_low team ok (places_some team))

-- there is room for a downloader at an open number
pub open_room : (team : Team) (run : ℕ) → IsTeam team → IsOpen run team → length (without run team.list) < places team
open_room team run ok (inl h) = omega (arith, filter_fewer run team.list h, ok.room)
open_room team run ok (inr e) = elim (cases_lt (length team.list) (places team)) [
  | inl l ↦ omega (arith, filter_no_more run team.list, l)
  | inr l ↦
      let t : nat_lt (length team.list) (places team) ≡ false = le-ltb (length team.list) (places team) l in
      let last : new_run team ≡ last_run team.list = rw t refl in
      let in' : has_run run team.list ≡ true = rw (e, last) (last_has team.list (omega (arith, l, places_some team))) in
      omega (arith, filter_fewer run team.list in', ok.room)
]

pub front_team : (team : Team) (d : Downloader) → IsTeam team → length (without d.run team.list) < places team → d.run < places team → d.pos ≤ d.end → 1 ≤ d.chunk → IsTeam (in_front d team)
front_team team d ok room low ends size = record {
  room = omega (arith, room);
  apart = (gone d.run team.list, apart_without d.run team.list ok.apart);
  runs = All-cons (λ e. e.run < places team) d (without d.run team.list) low (All-filter _ (λ e. e.run < places team) team.list ok.runs);
  ends = All-cons (λ e. e.pos ≤ e.end) d (without d.run team.list) ends (All-filter _ (λ e. e.pos ≤ e.end) team.list ok.ends);
  chunks = All-cons (λ e. 1 ≤ e.chunk) d (without d.run team.list) size (All-filter _ (λ e. 1 ≤ e.chunk) team.list ok.chunks);
}

pub less_team : (team : Team) (run : ℕ) → IsTeam team → IsTeam (record { direct = team.direct; list = without run team.list })
less_team team run ok = record {
  room = omega (arith, filter_no_more run team.list, ok.room);
  apart = apart_without run team.list ok.apart;
  runs = All-filter _ (λ e. e.run < places team) team.list ok.runs;
  ends = All-filter _ (λ e. e.pos ≤ e.end) team.list ok.ends;
  chunks = All-filter _ (λ e. 1 ≤ e.chunk) team.list ok.chunks;
}

pub no_team : (direct : Bool) → IsTeam (record { direct = direct; list = [] })
no_team direct = record {
  room = omega arith;
  apart = tt;
  runs = All-nil _;
  ends = All-nil _;
  chunks = All-nil _;
}

pub last_is : (list : List Downloader) (d : Downloader) → 1 ≤ length list → (get_or list (length list - 1) d).run ≡ last_run list
last_is [] d h = absurd (omega arith)
last_is (x ∷ []) d h = refl
last_is (x ∷ y ∷ ys) d h =
    let one : length (x ∷ y ∷ ys) - 1 ≡ suc (length (y ∷ ys) - 1) = omega arith in
    rw one (last_is (y ∷ ys) d (omega arith))

-- a search for a free number, one number on
pub free_found : (n k : ℕ) (list : List Downloader) → k < n → has_run k list ≡ false → free_from (n - k) k list ≡ k
free_found n k list l h =
    let one : n - k ≡ suc (n - (k + 1)) = omega arith in
    rw (one, h) refl

pub free_more : (n k : ℕ) (list : List Downloader) → k < n → has_run k list ≡ true → free_from (n - k) k list ≡ free_from (n - (k + 1)) (k + 1) list
free_more n k list l h =
    let one : n - k ≡ suc (n - (k + 1)) = omega arith in
    rw (one, h) refl

pub free_none : (n k : ℕ) (list : List Downloader) → n ≤ k → free_from (n - k) k list ≡ k
free_none n k list l = let none : n - k ≡ 0 = omega arith in rw none refl

-- the downloader that stands at the front after a pull
pub pulled_team : (team old : Team) (run len : ℕ) (o : Option Downloader) (d : Downloader) → team ≡ old → o ≡ member_at run old → o ≡ Some d → IsTeam team → HasLeft run len old → length (without run team.list) < 4 × IsTeam (record { direct = team.direct; list = on_by len d ∷ without run team.list }) × (record { direct = team.direct; list = on_by len d ∷ without run team.list } ≡ after_pull run len old)
pulled_team team old run len o d same at some ok left =
    let here : member_at run team ≡ Some d = ap (member_at run) same ∙ sym at ∙ some in
    let number : d.run ≡ run = eqb-true d.run run (found_passes (is_at run) team.list d here) in
    let in' : has_run run team.list ≡ true = subst (λ k. has_run k team.list ≡ true) number (found_has (is_at run) team.list d here) in
    let room : length (without run team.list) < places team = omega (arith, filter_fewer run team.list in', ok.room) in
    let ahead : d.pos + len ≤ d.end = subst (IsAhead len) (sym at ∙ some) left in
    let low : d.run < places team = All-found (λ e. e.run < places team) (is_at run) team.list d here ok.runs in
    let size : 1 ≤ d.chunk = All-found (λ e. 1 ≤ e.chunk) (is_at run) team.list d here ok.chunks in
    let front : IsTeam (in_front (on_by len d) team) = front_team team (on_by len d) ok (rw number room) low ahead size in
    let rest : without run team.list ≡ without d.run team.list = ap (λ k. without k team.list) (sym number) in
    let whole : Downloader → List Downloader → Team = λ e l. record { direct = team.direct; list = e ∷ l } in
    let now : whole (on_by len d) (without run team.list) ≡ in_front (on_by len d) team = ap (whole (on_by len d)) rest in
    (omega (arith, room, places_most team), rw rest front, now ∙ ap (in_front (on_by len d)) same ∙ ap (λ q. front_by len q old) (sym some ∙ at))

pub asked_team : (team old : Team) (run start end chunk : ℕ) → team ≡ old → IsTeam team → IsOpen run old → start < end → 1 ≤ chunk → length (without run team.list) < 4 × IsTeam (after_request run start end chunk team)
asked_team team old run start end chunk same ok may some size =
    let may' : IsOpen run team = rw same may in
    let room = open_room team run ok may' in
    (omega (arith, room, places_most team), front_team team (record { run = run; pos = start; end = end; chunk = chunk }) ok room (open_low team run ok may') (omega arith) size)
