-- Reads in order: their requests follow one another.
use Rattle.std.proofs.Common.{◌≡◌, ℕ, suc, ◌+◌, ◌-◌, ◌<◌, ◌≤◌, ◌==◌, Bool, true, false, ◌&&◌, ◌||◌, nat_lt, nat_le, min, List, [], ◌∷◌, ◌++◌, length, Some, refl, sym, ◌∙◌, ap, subst, arith, inl, inr, length-append}
use Rattle.std.specs.List.{find}
use Rattle.std.proofs.lemmas.Bool.{cases_Bool, cases_lt, eqb-true, eqb-false, eq-eqb, le-leb, le-ltb, lt-ltb, and_from, true≢false, false≢true}
use Rattle.std.proofs.lemmas.Bool.Decides.{nat_tests}
use Rattle.byte_ranges.specs.declared.Span.{Span}
use Rattle.byte_ranges.proofs.Spans.{in_from}
use Rattle.downloaders.specs.declared.Ask.{Ask}
use Rattle.downloaders.specs.declared.Ask.TheVariants.{Done, Request, Pull}
use Rattle.downloaders.specs.declared.Downloader.{Downloader}
use Rattle.downloaders.specs.declared.Plan.{Plan}
use Rattle.downloaders.specs.Crew.{Team, is_at, member_at, without, in_front, front_by, on_by, after_request, after_pull, new_run}
use Rattle.downloaders.specs.Rules.{IsFirstMissing, AllHere, gap_of, reaches, near, first_size, later_size, pull_len, ask_by, ask_for, here_after, AreAsks, HasChunk}
use Rattle.downloaders.specs.Orders.{requests_in, here_in_the_end, team_in_the_end, AreReads, last_end, Tiles, no_one}
use Rattle.downloaders.proofs.Steps.{first_size_some, later_size_some, pull_some}

-- One downloader, and all that it pulled is here and nothing else; j requests came before its own.
pub record OnTrack (Q : ℕ → Downloader → Type 0) (size : ℕ) (here : ℕ → Bool) (team : Team) (from j : ℕ) (d : Downloader) : Type 0 where
  pub only : team.list ≡ d ∷ []
  pub bytes : (p : ℕ) → here p ≡ nat_lt p d.pos
  pub start : from ≤ d.pos
  pub order : d.pos ≤ d.end
  pub below : d.end ≤ size
  pub chunk : 1 ≤ d.chunk
  pub more : Q j d

-- what a request and a pull keep
pub record Keeps (Q : ℕ → Downloader → Type 0) (plan : Plan) (size : ℕ) : Type 0 where
  pub asked : (j : ℕ) (d e : Downloader) → Q j d → d.end < size → e.chunk ≡ later_size plan.chunk plan.limit (size - d.end) d.chunk → e.end ≡ min size (d.end + e.chunk) → Q (suc j) e
  pub pulled : (j len : ℕ) (d : Downloader) → Q j d → Q j (on_by len d)
  pub first : (e : Downloader) → 0 < size → e.chunk ≡ first_size plan.chunk size → e.end ≡ min size e.chunk → Q 0 e

-- the crew after some reads, and the requests that they made
pub record Went (Q : ℕ → Downloader → Type 0) (size : ℕ) (here : ℕ → Bool) (team : Team) (from j begin : ℕ) (asks : List Ask) : Type 0 where
  pub by : Downloader
  pub count : ℕ
  pub track : OnTrack Q size here team from count by
  pub tiles : Tiles begin by.end (requests_in asks)
  pub counted : count ≡ j + length (requests_in asks)

pub first_at_pos : (here : ℕ → Bool) (span : Span) (size f pos : ℕ) → ((p : ℕ) → here p ≡ nat_lt p pos) → span.start ≤ pos → IsFirstMissing here span size f → f ≡ pos
first_at_pos here span size f pos bytes low first = elim (cases_lt f pos) [
  | inl l ↦ absurd (true≢false (sym (bytes f ∙ lt-ltb f pos l) ∙ first.missing))
  | inr l ↦ elim (cases_lt pos f) [
    | inl h ↦ absurd (true≢false (sym (first.before pos low h) ∙ bytes pos ∙ le-ltb pos pos (omega arith)))
    | inr h ↦ omega arith
  ]
]

pub near_only : (team : Team) (d : Downloader) (f : ℕ) → team.list ≡ d ∷ [] → f ≡ d.pos → near f team ≡ Some d
near_only team d f only e =
    let t : reaches (gap_of team) f d ≡ true = and_from (nat_le d.pos f) (nat_le (f - d.pos) (gap_of team)) (le-leb d.pos f (omega arith)) (le-leb (f - d.pos) (gap_of team) (omega arith)) in
    ap (find (reaches (gap_of team) f)) only ∙ rw t refl

pub alone : (team : Team) (d : Downloader) (run : ℕ) → team.list ≡ d ∷ [] → run ≡ d.run → without run team.list ≡ []
alone team d run only e =
    let t : is_at run d ≡ true = eq-eqb d.run run (sym e) in
    ap (without run) only ∙ rw t refl

pub member_only : (team : Team) (d : Downloader) (run : ℕ) → team.list ≡ d ∷ [] → run ≡ d.run → member_at run team ≡ Some d
member_only team d run only e =
    let t : is_at run d ≡ true = eq-eqb d.run run (sym e) in
    ap (find (is_at run)) only ∙ rw t refl

-- what the only downloader is asked for
pub request_of : (plan : Plan) (team : Team) (span : Span) (size f : ℕ) (d : Downloader) (run start end chunk : ℕ) → near f team ≡ Some d → Request run start end chunk ≡ ask_for plan team span size f → (d.pos ≡ d.end) × (run ≡ d.run) × (start ≡ f) × (chunk ≡ later_size plan.chunk plan.limit (size - f) d.chunk) × (end ≡ min size (f + chunk))
request_of plan team span size f d run start end chunk at e =
    let e' : Request run start end chunk ≡ ask_by plan team span size f (Some d) = e ∙ ap (ask_by plan team span size f) at in
    elim (cases_Bool (d.pos == d.end)) [
      | inl t ↦ let by = again run start end chunk d.run f size (later_size plan.chunk plan.limit (size - f) d.chunk) (rw t at e') in (eqb-true d.pos d.end t, by.0, by.1, by.2, by.3)
      | inr t ↦ absurd (apart (rw t at e'))
    ]
  where
    again : (run start end chunk r f size s : ℕ) → Request run start end chunk ≡ Request r f (min size (f + s)) s → (run ≡ r) × (start ≡ f) × (chunk ≡ s) × (end ≡ min size (f + chunk))
    again run start end chunk r f size s e =
        let one : chunk ≡ s = cc in
        let two : end ≡ min size (f + s) = cc in
        (cc, cc, one, two ∙ ap (λ z. min size (f + z)) (sym one))

    apart : {run start end chunk r pos len : ℕ} → Request run start end chunk ≡ Pull r pos len → ⊥
    apart e = cc

pub pull_of : (plan : Plan) (team : Team) (span : Span) (size f : ℕ) (d : Downloader) (run pos len : ℕ) → near f team ≡ Some d → Pull run pos len ≡ ask_for plan team span size f → (d.pos ≡ d.end → ⊥) × (run ≡ d.run) × (pos ≡ d.pos) × (len ≡ pull_len team span size d)
pull_of plan team span size f d run pos len at e =
    let e' : Pull run pos len ≡ ask_by plan team span size f (Some d) = e ∙ ap (ask_by plan team span size f) at in
    elim (cases_Bool (d.pos == d.end)) [
      | inl t ↦ absurd (apart (rw t at e'))
      | inr t ↦ let by = again (rw t at e') in (eqb-false d.pos d.end t, by.0, by.1, by.2)
    ]
  where
    again : {run pos len r p l : ℕ} → Pull run pos len ≡ Pull r p l → (run ≡ r) × (pos ≡ p) × (len ≡ l)
    again e = (cc, cc, cc)

    apart : {run pos len r start end chunk : ℕ} → Pull run pos len ≡ Request r start end chunk → ⊥
    apart e = cc

pub read_on : (Q : ℕ → Downloader → Type 0) (plan : Plan) (size from to : ℕ) (here : ℕ → Bool) (team : Team) (j : ℕ) (d : Downloader) (asks : List Ask) → Keeps Q plan size → HasChunk plan.chunk → from ≤ to → to ≤ size → OnTrack Q size here team from j d → AreAsks plan (record { start = from; end = to }) size here team asks → Went Q size (λ p. here_in_the_end asks size here p) (team_in_the_end asks team) to j d.end asks
read_on Q plan size from to here team j d [] keeps has l high track x = record {
  by = d;
  count = j;
  track = record { only = track.only; bytes = track.bytes; start = reached x; order = track.order; below = track.below; chunk = track.chunk; more = track.more };
  tiles = refl;
  counted = omega arith;
}
  where
    reached : AllHere here (record { start = from; end = to }) size → to ≤ d.pos
    reached x = elim (cases_lt d.pos to) [
      | inl h ↦
          let there : here d.pos ≡ true = x d.pos (in_from (record { start = from; end = to }) d.pos track.start h) (omega arith) in
          absurd (true≢false (sym there ∙ track.bytes d.pos ∙ le-ltb d.pos d.pos (omega arith)))
      | inr h ↦ h
    ]
read_on Q plan size from to here team j d (Done ∷ asks) keeps has l high track x = absurd x
read_on Q plan size from to here team j d (Request run start end chunk ∷ asks) keeps has l high track x =
    let at : x.0.0 ≡ d.pos = first_at_pos here (record { start = from; end = to }) size x.0.0 d.pos track.bytes track.start x.0.1 in
    let by = request_of plan team (record { start = from; end = to }) size x.0.0 d run start end chunk (near_only team d x.0.0 track.only at) x.0.2 in
    let e : Downloader = record { run = run; pos = start; end = end; chunk = chunk } in
    let low : d.end < size = omega (arith, at, by.0, x.0.1.below) in
    let same : x.0.0 ≡ d.end = omega (arith, at, by.0) in
    let size' : chunk ≡ later_size plan.chunk plan.limit (size - d.end) d.chunk = by.3 ∙ ap (λ z. later_size plan.chunk plan.limit (size - z) d.chunk) same in
    let end' : end ≡ min size (d.end + chunk) = by.4 ∙ ap (λ z. min size (z + chunk)) same in
    let some : 1 ≤ chunk = subst (λ z. 1 ≤ z) (sym size') (later_size_some plan.chunk plan.limit (size - d.end) d.chunk track.chunk (omega arith)) in
    let next : OnTrack Q size here (after_request run start end chunk team) from (suc j) e = record {
      only = ap (λ rest. e ∷ rest) (alone team d run track.only by.1);
      bytes = λ p. track.bytes p ∙ ap (nat_lt p) (sym at ∙ sym by.2);
      start = omega (arith, track.start, at, by.2);
      order = omega (arith, by.2, at, by.0, end', some);
      below = omega (arith, end');
      chunk = some;
      more = keeps.asked j d e track.more low size' end';
    } in
    let went = read_on Q plan size from to here (after_request run start end chunk team) (suc j) e asks keeps has l high next x.1 in
    let begun : start ≡ d.end = omega (arith, by.2, same) in
    let less : start < end = omega (arith, begun, end', some, low) in
    record {
      by = went.by;
      count = went.count;
      track = went.track;
      tiles = (begun, less, went.tiles);
      counted = omega (arith, went.counted);
    }
read_on Q plan size from to here team j d (Pull run pos len ∷ asks) keeps has l high track x =
    let at : x.0.0 ≡ d.pos = first_at_pos here (record { start = from; end = to }) size x.0.0 d.pos track.bytes track.start x.0.1 in
    let by = pull_of plan team (record { start = from; end = to }) size x.0.0 d run pos len (near_only team d x.0.0 track.only at) x.0.2 in
    let more : d.pos < d.end = below_end d.pos d.end track.order by.0 in
    let some = pull_some team (record { start = from; end = to }) size x.0.0 d more (omega (arith, at)) x.0.1.to x.0.1.below in
    let ahead : d.pos + len ≤ d.end = omega (arith, some.2, by.3) in
    let moved : after_pull run len team ≡ in_front (on_by len d) team = ap (λ o. front_by len o team) (member_only team d run track.only by.1) in
    let next : OnTrack Q size (λ p. here_after (Pull run pos len) size here p) (after_pull run len team) from j (on_by len d) = record {
      only = ap (λ z. z.list) moved ∙ ap (λ rest. on_by len d ∷ rest) (alone team d d.run track.only refl);
      bytes = λ p. ap (λ b. b || (nat_le pos p && nat_lt p (min (pos + len) size))) (track.bytes p) ∙ grown d.pos pos len size p by.2 (omega (arith, ahead, track.below));
      start = omega (arith, track.start);
      order = ahead;
      below = track.below;
      chunk = track.chunk;
      more = keeps.pulled j len d track.more;
    } in
    let went = read_on Q plan size from to (λ p. here_after (Pull run pos len) size here p) (after_pull run len team) j (on_by len d) asks keeps has l high next x.1 in
    record {
      by = went.by;
      count = went.count;
      track = went.track;
      tiles = went.tiles;
      counted = went.counted;
    }
  where
    below_end : (a b : ℕ) → a ≤ b → (a ≡ b → ⊥) → a < b
    below_end a b l n = elim (cases_lt a b) [ inl h ↦ h | inr h ↦ absurd (n (omega arith)) ]

    grown : (a pos len size p : ℕ) → pos ≡ a → a + len ≤ size → (nat_lt p a || (nat_le pos p && nat_lt p (min (pos + len) size))) ≡ nat_lt p (a + len)
    grown a pos len size p e l = grind (arith, nat_tests)

-- the first read of an object
pub read_first : (Q : ℕ → Downloader → Type 0) (plan : Plan) (size to : ℕ) (direct : Bool) (asks : List Ask) → Keeps Q plan size → HasChunk plan.chunk → 0 < to → to ≤ size → AreAsks plan (record { start = 0; end = to }) size (λ p. false) (no_one direct) asks → (d : Downloader) × (n : ℕ) × OnTrack Q size (λ p. here_in_the_end asks size (λ q. false) p) (team_in_the_end asks (no_one direct)) to n d × Tiles 0 d.end (requests_in asks) × (suc n ≡ length (requests_in asks))
read_first Q plan size to direct [] keeps has l high x = absurd (false≢true (x 0 (in_from (record { start = 0; end = to }) 0 (omega arith) l) (omega arith)))
read_first Q plan size to direct (Done ∷ asks) keeps has l high x = absurd x
read_first Q plan size to direct (Request run start end chunk ∷ asks) keeps has l high x =
    let at : x.0.0 ≡ 0 = first_at_pos (λ p. false) (record { start = 0; end = to }) size x.0.0 0 (λ p. sym (le-ltb p 0 (omega arith))) (omega arith) x.0.1 in
    let by = new_of run start end chunk (new_run (no_one direct)) x.0.0 size (first_size plan.chunk (size - x.0.0)) x.0.2 in
    let e : Downloader = record { run = run; pos = start; end = end; chunk = chunk } in
    let left : size - x.0.0 ≡ size = omega (arith, at) in
    let size' : chunk ≡ first_size plan.chunk size = by.1 ∙ ap (first_size plan.chunk) left in
    let sum : x.0.0 + chunk ≡ chunk = omega (arith, at) in
    let end' : end ≡ min size chunk = by.2 ∙ ap (min size) sum in
    let some : 1 ≤ chunk = subst (λ z. 1 ≤ z) (sym size') (first_size_some plan.chunk size has (omega arith)) in
    let next : OnTrack Q size (λ p. false) (after_request run start end chunk (no_one direct)) 0 0 e = record {
      only = refl;
      bytes = λ p. sym (le-ltb p start (omega (arith, at, by.0)));
      start = omega arith;
      order = omega (arith, at, by.0);
      below = omega (arith, end');
      chunk = some;
      more = keeps.first e (omega arith) size' end';
    } in
    let went = read_on Q plan size 0 to (λ p. false) (after_request run start end chunk (no_one direct)) 0 e asks keeps has (omega arith) high next x.1 in
    let begun : start ≡ 0 = omega (arith, at, by.0) in
    let less : start < end = omega (arith, begun, end', some) in
    (went.by, went.count, went.track, (begun, less, went.tiles), omega (arith, went.counted))
  where
    new_of : (run start end chunk r f size s : ℕ) → Request run start end chunk ≡ Request r f (min size (f + s)) s → (start ≡ f) × (chunk ≡ s) × (end ≡ min size (f + chunk))
    new_of run start end chunk r f size s e =
        let one : chunk ≡ s = cc in
        let two : end ≡ min size (f + s) = cc in
        (cc, one, two ∙ ap (λ z. min size (f + z)) (sym one))
read_first Q plan size to direct (Pull run pos len ∷ asks) keeps has l high x = absurd (apart x.0.2)
  where
    apart : {run pos len r start end chunk : ℕ} → Pull run pos len ≡ Request r start end chunk → ⊥
    apart e = cc

pub requests-append : (xs ys : List Ask) → requests_in (xs ++ ys) ≡ requests_in xs ++ requests_in ys
requests-append [] ys = refl
requests-append (Done ∷ xs) ys = requests-append xs ys
requests-append (Request run start end chunk ∷ xs) ys = ap (λ l. (start, end) ∷ l) (requests-append xs ys)
requests-append (Pull run pos len ∷ xs) ys = requests-append xs ys

pub tiles-append : (a b c : ℕ) (xs ys : List (ℕ × ℕ)) → Tiles a b xs → Tiles b c ys → Tiles a c (xs ++ ys)
tiles-append a b c [] ys s t = rw s t
tiles-append a b c (r ∷ xs) ys s t = (s.0, s.1, tiles-append r.1 b c xs ys s.2 t)

-- all reads after the first
pub reads_on : (Q : ℕ → Downloader → Type 0) (plan : Plan) (size from : ℕ) (here : ℕ → Bool) (team : Team) (j : ℕ) (d : Downloader) (ends : List ℕ) (asks : List Ask) → Keeps Q plan size → HasChunk plan.chunk → OnTrack Q size here team from j d → AreReads plan size here team from ends asks → (e : Downloader) × (n : ℕ) × Q n e × (last_end from ends ≤ e.end) × (e.end ≤ size) × Tiles d.end e.end (requests_in asks) × (n ≡ j + length (requests_in asks))
reads_on Q plan size from here team j d [] asks keeps has track x =
    rw x (d, j, track.more, omega (arith, track.start, track.order), track.below, refl, omega arith)
reads_on Q plan size from here team j d (to ∷ later) asks keeps has track x =
    let now = x.0 in
    let rest = x.1 in
    let went = read_on Q plan size from to here team j d now keeps has (omega (arith, x.3)) x.4 track x.5 in
    let on = reads_on Q plan size to (λ p. here_in_the_end now size here p) (team_in_the_end now team) went.count went.by later rest keeps has went.track x.6 in
    let split : requests_in asks ≡ requests_in now ++ requests_in rest = ap requests_in x.2 ∙ requests-append now rest in
    let tiles : Tiles d.end on.0.end (requests_in now ++ requests_in rest) = tiles-append d.end went.by.end on.0.end (requests_in now) (requests_in rest) went.tiles on.5 in
    let long : on.1 ≡ j + length (requests_in now ++ requests_in rest) = omega (arith, on.6, went.counted, length-append (requests_in now) (requests_in rest)) in
    (on.0, on.1, on.2, on.3, on.4, subst (Tiles d.end on.0.end) (sym split) tiles, long ∙ ap (λ l. j + length l) (sym split))

-- all reads of an object from its start on
pub reads_from : (Q : ℕ → Downloader → Type 0) (plan : Plan) (size : ℕ) (direct : Bool) (to : ℕ) (later : List ℕ) (asks : List Ask) → Keeps Q plan size → HasChunk plan.chunk → AreReads plan size (λ p. false) (no_one direct) 0 (to ∷ later) asks → (e : Downloader) × (n : ℕ) × Q n e × (last_end to later ≤ e.end) × (e.end ≤ size) × Tiles 0 e.end (requests_in asks) × (suc n ≡ length (requests_in asks))
reads_from Q plan size direct to later asks keeps has x =
    let now = x.0 in
    let rest = x.1 in
    let went = read_first Q plan size to direct now keeps has x.3 x.4 x.5 in
    let on = reads_on Q plan size to (λ p. here_in_the_end now size (λ q. false) p) (team_in_the_end now (no_one direct)) went.1 went.0 later rest keeps has went.2 x.6 in
    let split : requests_in asks ≡ requests_in now ++ requests_in rest = ap requests_in x.2 ∙ requests-append now rest in
    let tiles : Tiles 0 on.0.end (requests_in now ++ requests_in rest) = tiles-append 0 went.0.end on.0.end (requests_in now) (requests_in rest) went.3 on.5 in
    let long : suc on.1 ≡ length (requests_in now ++ requests_in rest) = omega (arith, on.6, went.4, length-append (requests_in now) (requests_in rest)) in
    (on.0, on.1, on.2, on.3, on.4, subst (Tiles 0 on.0.end) (sym split) tiles, long ∙ ap length (sym split))

any_keeps : (plan : Plan) (size : ℕ) → Keeps (λ j d. Unit {0}) plan size
any_keeps plan size = record { asked = λ j d e q l s t. tt; pulled = λ j len d q. tt; first = λ e l s t. tt }

pub reads_tile : (plan : Plan) (size : ℕ) (direct : Bool) (ends : List ℕ) (asks : List Ask) → HasChunk plan.chunk → AreReads plan size (λ p. false) (no_one direct) 0 ends asks → last_end 0 ends ≡ size → Tiles 0 size (requests_in asks)
reads_tile plan size direct [] asks has x e = rw x e
reads_tile plan size direct (to ∷ later) asks has x e =
    let all = reads_from (λ j d. Unit {0}) plan size direct to later asks (any_keeps plan size) has x in
    let end : all.0.end ≡ size = omega (arith, all.3, all.4, e) in
    subst (λ z. Tiles 0 z (requests_in asks)) end all.5
