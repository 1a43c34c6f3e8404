-- How an epoch goes on from line to line, and where it ends.
use Rattle.std.proofs.Common.{◌≡◌, ◌∙◌, ℕ, ◌+◌, ◌^◌, ◌<◌, ◌≤◌, ◌++◌, Option, List, [], ◌∷◌, Result, Ok, Err, OnOk, length, reverse, drop, get_or, suc, add-one, ap, append_assoc, arith, drop-cons, length-append, refl, subst, sym}
use Rattle.std.proofs.Math.ListN.{drop_of_length-le}
use Rattle.std.specs.Io.KnownBytes.{Appends}
use Rattle.vfs_names.specs.declared.who.By.{By}
use Rattle.vfs_outside.proofs.Told.{appends_twice}
use Rattle.vfs_outside.specs.Causes.{AppendsFront}
use Rattle.std.specs.List.{AllByRecursion}
use Rattle.vfs_outside.specs.declared.tree.TreeEntry.{TreeEntry}
use Rattle.item_core.specs.Legal.{IsNoLater}
use Rattle.item_core.specs.declared.entry.Entry.{Entry}
use Rattle.run_words.specs.Words.{Asked}
use Rattle.session_script.specs.declared.call.CallLine.{CallLine}
use Rattle.session_script.specs.declared.call.Line.{Line}
use Rattle.session_script.specs.declared.call.What.{What}
use Rattle.session_script.specs.declared.call.What.TheVariants as what
use Rattle.session_text.specs.Lines.{shown_text}
use Rattle.one_session.specs.State.{History, State, entries_in}
use Rattle.one_session.specs.Steps.{Deed}
use Rattle.one_session.specs.Whole.{IsUpTo}
use Rattle.one_session.proofs.Makers.{all_append, all_mono}
use Rattle.vfs_top.proofs.Going.{call_made, lines_more}
use Rattle.vfs_top.proofs.Texts.{some_written, writes_twice}
use Rattle.vfs_top.proofs.Told.{count_records, last_told, pending, replies, text_more, told_and_pending}
use Rattle.vfs_top.specs.Around.{Around, around}
use Rattle.vfs_top.specs.Event.{Event, Called, Paused, Moves, asked_of, before_last, calls_of, deeds_of, earlier, maker_at, moment_after, pause_shown}
use Rattle.vfs_top.specs.Going.{CanDo, CanDoAll, DoesLine, EndsPhase, HasGone, IsGoing, IsPast, IsTold, IsUnderWay, MakesCall, Now, now}
use Rattle.vfs_top.specs.Transcript.{texts_of}
use Rattle.vfs_top.specs.Writing.{AppendsPast, Writes}
use Rattle.vfs_top.specs.declared.phase.Pause.{Pause}
use Rattle.vfs_top.specs.declared.phase.Pause.TheVariants.{Join, Advance}
use Rattle.vfs_top.specs.declared.phase.Phase.{Phase}
use Rattle.vfs_top.specs.declared.write.Unwritten.{Unwritten}

no_later_still : (past : List Entry) (x y : By) → x.who.phase ≤ y.who.phase → x.now ≤ y.now → IsNoLater past x → IsNoLater past y
no_later_still [] x y p m h = tt
no_later_still (e ∷ older) x y p m h = (omega (arith, h.0, p), omega (arith, h.1, m))

-- what is of no later phase or moment than the last phase isn't than the next
up_to_next : (files : List History) (x y : By) → x.who.phase ≤ y.who.phase → x.now ≤ y.now → IsUpTo x files → IsUpTo y files
up_to_next files x y p m h = λ item. no_later_still (reverse (entries_in files item)) x y p m (h item)

-- the clock doesn't go back
no_sooner : (pause : Pause) (old new : ℕ) → Moves pause old new → old ≤ new
no_sooner Join old new m = m
no_sooner (Advance ms) old new m = m.0

-- a phase was ended, and the next one began or not
joined : (kept tells : Type 0) (run : Asked) (start : Around) (first : ℕ) (a : Now) (lines left : List Line) (n moment : ℕ) (pause : Pause) (written : Option (List ℕ)) (faults : ℕ) (events : List Event)
    → IsGoing kept tells run start first lines (record { line = n; what = asked_of pause } ∷ left) events (deeds_of events) a → Moves pause (moment_after first events) moment
    → IsGoing kept tells run start first lines left (Paused n pause moment ∷ events) (deeds_of (Paused n pause moment ∷ events)) (now a.session written faults (around moment a.around.remote a.around.disk))
joined kept tells run start first a lines left n moment pause written faults events p moves = record {
  asked = lines_more (Paused n pause moment) events (record { line = n; what = asked_of pause }) left lines refl p.asked;
  no_sooner = p.no_sooner;
  timely = (moves, p.timely);
  fits = p.fits;
  given = p.given;
  saved = p.saved;
  limit = p.limit;
  terms = p.terms;
  entered = p.entered;
  causes = p.causes;
  steps = p.steps;
  sent = p.sent;
  stored = p.stored;
  ticked = p.ticked;
  ordered = p.ordered;
  disk_faults = p.disk_faults;
  remote = p.remote;
  can = p.can.1;
  room = omega (arith, p.room);
  few = omega (arith, p.few);
}

-- nobody made entries later than the next phase
pub past_next : (s : State) (x y : By) → x.who.phase ≤ y.who.phase → x.now ≤ y.now → IsPast x s → IsPast y s
past_next s x y p m h = record {
  files = up_to_next s.files x y p m h.files;
  tree = all_mono (λ (e : TreeEntry). e.by.who.phase ≤ x.who.phase) (λ (e : TreeEntry). e.by.who.phase ≤ y.who.phase) (λ e q. omega (arith, q, p)) s.tree h.tree;
}

-- the replies of the phase that is under way are those of the records behind the others
pub replies_left : (kept tells : Type 0) (run : Asked) (start a : Now) (first : ℕ) (lines left : List Line) (p : Phase) (events : List Event) (deeds : List Deed) → IsGoing kept tells run start.around first lines left events deeds a → IsTold start.written start.faults p events a → replies (drop p.before a.session.records) ≡ pending events
replies_left kept tells run start a first lines left p events deeds g t = ap (λ n. replies (drop n a.session.records)) t.before ∙ ap (λ l. replies (drop (length (calls_of (earlier events))) l)) g.fits.records

-- what the earlier phases showed was written, told as the writing of a text
pub told_writes : (start a : Now) (p : Phase) (events : List Event) → IsTold start.written start.faults p events a → Writes start.written a.written start.faults a.faults (texts_of (earlier events)) (Ok tt)
told_writes start a p events t = record { all = t.text; front = tt; rose = λ e. cc; later = t.faults }

pub past_more : (w0 w1 w2 : Option (List ℕ)) (a b : List ℕ) → Appends w0 w1 a → AppendsFront w1 w2 b → AppendsPast w0 w2 a
past_more w0 w1 w2 a b p q = (q.0, appends_twice w0 w1 w2 a q.0 p q.3)

text_joined : (events : List Event) (n moment : ℕ) (pause : Pause) (shown : List ℕ) → shown ≡ pending events → texts_of (earlier events) ++ (shown ++ shown_text (pause_shown n pause moment)) ≡ texts_of (Paused n pause moment ∷ events)
text_joined events n moment pause shown is =
    ap (λ l. texts_of (earlier events) ++ (l ++ shown_text (pause_shown n pause moment))) is ∙ sym (append_assoc (texts_of (earlier events)) (pending events) (shown_text (pause_shown n pause moment)))
    ∙ ap (λ l. l ++ shown_text (pause_shown n pause moment)) (sym (told_and_pending events)) ∙ sym (text_more (Paused n pause moment) events)

-- a phase was ended, what it showed was written, and the next phase begins
phase_ended : (kept tells : Type 0) (run : Asked) (start a : Now) (lines left : List Line) (n : ℕ) (pause : Pause) (p q : Phase) (written : Option (List ℕ)) (faults moment : ℕ)
    → IsUnderWay kept tells run start lines (record { line = n; what = asked_of pause } ∷ left) p a
    → EndsPhase n pause p q a (now a.session written faults (around moment a.around.remote a.around.disk)) (Ok tt)
    → IsUnderWay kept tells run start lines left q (now a.session written faults (around moment a.around.remote a.around.disk))
phase_ended kept tells run start a lines left n pause p q written faults moment u x =
    let moves : Moves pause (moment_after u.first u.events) moment = subst (λ old. Moves pause old moment) (sym u.is_now) x.moment in
    let sooner = no_sooner pause (moment_after u.first u.events) moment moves in
    let g = u.going in
    let t = u.told in record {
      events = Paused n pause moment ∷ u.events;
      first = u.first;
      most = x.most;
      is_now = refl;
      maker = x.by ∙ ap (λ phase. maker_at (phase + 1) moment) (ap (λ (b : By). b.who.phase) u.maker);
      past = past_next a.session p.by q.by (omega (arith, ap (λ (b : By). b.who.phase) x.by)) (omega (arith, sooner, ap (λ (b : By). b.now) u.maker, ap (λ (b : By). b.now) x.by)) u.past;
      whole = u.whole;
      going = joined kept tells run start.around u.first a lines left n moment pause written faults u.events g moves;
      told = record {
        text = subst (Appends start.written written) (text_joined u.events n moment pause (replies (drop p.before a.session.records)) (replies_left kept tells run start a u.first lines (record { line = n; what = asked_of pause } ∷ left) p u.events (deeds_of u.events) g t))
            (appends_twice start.written a.written written (texts_of (earlier u.events)) (replies (drop p.before a.session.records) ++ shown_text (pause_shown n pause moment)) t.text x.text.all);
        faults = omega (arith, t.faults, x.text.later);
        before = x.before ∙ ap length g.fits.records ∙ count_records (calls_of u.events);
        inside = omega (arith, x.before);
      };
    }

-- a phase was ended, and not all was written that it showed
phase_broken : (kept tells : Type 0) (run : Asked) (start a : Now) (lines left : List Line) (n : ℕ) (pause : Pause) (p q : Phase) (written : Option (List ℕ)) (faults moment : ℕ) (why : Unwritten)
    → IsUnderWay kept tells run start lines (record { line = n; what = asked_of pause } ∷ left) p a
    → EndsPhase n pause p q a (now a.session written faults (around moment a.around.remote a.around.disk)) (Err why)
    → HasGone kept tells run lines start (now a.session written faults (around moment a.around.remote a.around.disk)) (Err why)
phase_broken kept tells run start a lines left n pause p q written faults moment why u x = let g = u.going in let t = u.told in let events = u.events in record {
  first = u.first;
  left = left;
  events = Paused n pause moment ∷ events;
  is_now = refl;
  going = joined kept tells run start.around u.first a lines left n moment pause written faults events g (subst (λ old. Moves pause old moment) (sym u.is_now) x.moment);
  all = tt;
  whole = tt;
  text = subst (λ text. Writes start.written written start.faults faults text (Err why)) (text_joined events n moment pause (replies (drop p.before a.session.records)) (replies_left kept tells run start a u.first lines (record { line = n; what = asked_of pause } ∷ left) p events (deeds_of events) g t))
      (writes_twice start.written a.written written start.faults a.faults faults (texts_of (earlier events)) (replies (drop p.before a.session.records) ++ shown_text (pause_shown n pause moment)) (Err why) (told_writes start a p events t) x.text);
  most = past_more start.written a.written written (texts_of (earlier events)) (replies (drop p.before a.session.records) ++ shown_text (pause_shown n pause moment)) t.text x.text.front;
}

on_ok : {P : Type 0} (r : Result (Unit {0}) Unwritten) → P → OnOk r P
on_ok (Ok x) p = p
on_ok (Err why) p = tt

-- for each state with the session, the remote and the disk of another
module _ (P : Now → Type 0) (a b : Now) (session : b.session ≡ a.session) (remote : b.around.remote ≡ a.around.remote) (disk : b.around.disk ≡ a.around.disk) where
  along : P (now a.session b.written b.faults (around b.around.moment a.around.remote a.around.disk)) → P b
  along p =
      subst (λ s. P (now s b.written b.faults b.around)) (sym session)
      (subst (λ r. P (now a.session b.written b.faults (around b.around.moment r b.around.disk))) (sym remote)
      (subst (λ d. P (now a.session b.written b.faults (around b.around.moment a.around.remote d))) (sym disk) p))

-- a call was made
call_goes : (kept tells : Type 0) (run : Asked) (start a b : Now) (lines left : List Line) (n : ℕ) (c : CallLine) (p : Phase)
    → IsUnderWay kept tells run start lines (record { line = n; what = what.Call c } ∷ left) p a → MakesCall kept tells run p.by c a b → IsUnderWay kept tells run start lines left p b
call_goes kept tells run start a b lines left n c p u x = record {
  events = Called (record { by = p.by; line = c; done = x.done }) ∷ u.events;
  first = u.first;
  most = omega (arith, u.most, x.moment);
  is_now = u.is_now ∙ sym x.moment;
  maker = u.maker;
  past = record {
    files = x.later;
    tree = subst (AllByRecursion (λ (e : TreeEntry). e.by.who.phase ≤ p.by.who.phase)) (sym x.serves.grew)
        (all_append (λ (e : TreeEntry). e.by.who.phase ≤ p.by.who.phase) a.session.tree x.serves.more u.past.tree
        (all_mono (λ (e : TreeEntry). e.by ≡ p.by) (λ (e : TreeEntry). e.by.who.phase ≤ p.by.who.phase) (λ e q. omega (arith, ap (λ (b : By). b.who.phase) q)) x.serves.more x.serves.made));
  };
  whole = u.whole;
  going = call_made kept tells run start.around u.first a b lines left n c p.by u.events u.maker u.past.tree u.going x;
  told = record {
    text = subst (λ w. Appends start.written w (texts_of (earlier u.events))) (sym x.written) u.told.text;
    faults = omega (arith, u.told.faults, x.faults);
    before = u.told.before;
    inside = omega (arith, u.told.inside, ap length x.serves.records, length-append a.session.records (x.done ∷ []));
  };
}

paused_next : (kept tells : Type 0) (run : Asked) (start a b : Now) (lines left : List Line) (n : ℕ) (pause : Pause) (p q : Phase)
    → IsUnderWay kept tells run start lines (record { line = n; what = asked_of pause } ∷ left) p a → EndsPhase n pause p q a b (Ok tt) → IsUnderWay kept tells run start lines left q b
paused_next kept tells run start a b lines left n pause p q u x =
    along (λ b. EndsPhase n pause p q a b (Ok tt) → IsUnderWay kept tells run start lines left q b) a b x.session x.remote x.disk
    (λ y. phase_ended kept tells run start a lines left n pause p q b.written b.faults b.around.moment u y) x

paused_broken : (kept tells : Type 0) (run : Asked) (start a b : Now) (lines left : List Line) (n : ℕ) (pause : Pause) (p q : Phase) (why : Unwritten)
    → IsUnderWay kept tells run start lines (record { line = n; what = asked_of pause } ∷ left) p a → EndsPhase n pause p q a b (Err why) → HasGone kept tells run lines start b (Err why)
paused_broken kept tells run start a b lines left n pause p q why u x =
    along (λ b. EndsPhase n pause p q a b (Err why) → HasGone kept tells run lines start b (Err why)) a b x.session x.remote x.disk
    (λ y. phase_broken kept tells run start a lines left n pause p q b.written b.faults b.around.moment why u y) x

next_what : (kept tells : Type 0) (run : Asked) (start a b : Now) (lines left : List Line) (n : ℕ) (asked : What) (p q : Phase)
    → IsUnderWay kept tells run start lines (record { line = n; what = asked } ∷ left) p a → DoesLine kept tells run n asked p q a b (Ok tt) → IsUnderWay kept tells run start lines left q b
next_what kept tells run start a b lines left n (what.Call c) p q u x = subst (λ q. IsUnderWay kept tells run start lines left q b) (sym x.1) (call_goes kept tells run start a b lines left n c p u x.0)
next_what kept tells run start a b lines left n (what.Advance ms) p q u x = paused_next kept tells run start a b lines left n (Advance ms) p q u x
next_what kept tells run start a b lines left n what.Tick p q u x = (x start lines left u).0
next_what kept tells run start a b lines left n what.Clean p q u x = absurd x
next_what kept tells run start a b lines left n what.Poll p q u x = absurd x
next_what kept tells run start a b lines left n what.Join p q u x = paused_next kept tells run start a b lines left n Join p q u x
next_what kept tells run start a b lines left n what.Restart p q u x = absurd x

broken_what : (kept tells : Type 0) (run : Asked) (start a b : Now) (lines left : List Line) (n : ℕ) (asked : What) (p q : Phase) (why : Unwritten)
    → IsUnderWay kept tells run start lines (record { line = n; what = asked } ∷ left) p a → DoesLine kept tells run n asked p q a b (Err why) → HasGone kept tells run lines start b (Err why)
broken_what kept tells run start a b lines left n (what.Call c) p q why u x = cc (x.2)
broken_what kept tells run start a b lines left n (what.Advance ms) p q why u x = paused_broken kept tells run start a b lines left n (Advance ms) p q why u x
broken_what kept tells run start a b lines left n what.Tick p q why u x = (x start lines left u).1
broken_what kept tells run start a b lines left n what.Clean p q why u x = absurd x
broken_what kept tells run start a b lines left n what.Poll p q why u x = absurd x
broken_what kept tells run start a b lines left n what.Join p q why u x = paused_broken kept tells run start a b lines left n Join p q why u x
broken_what kept tells run start a b lines left n what.Restart p q why u x = absurd x

-- the line at an index was done, or it ended a phase and not all was written that this showed
module _ (kept tells : Type 0) (run : Asked) (start a b : Now) (lines : List Line) (i : ℕ) (line : Line) (p q : Phase) (inside : i < length lines) (is : line ≡ get_or lines i line) where
  at_index : drop i lines ≡ line ∷ drop (i + 1) lines
  at_index = rw (add-one, drop-cons lines i line) (ap (λ x. x ∷ drop (suc i) lines) (sym is))

  pub now_at : IsUnderWay kept tells run start lines (drop i lines) p a → p.by.now ≤ 2 ^ 62
  now_at u = omega (arith, u.most, ap (λ (b : By). b.now) u.maker, u.is_now)

  pub can_at : CanDoAll (drop i lines) → CanDo line.line line.what
  can_at h = (subst CanDoAll at_index h).0

  pub next_at : IsUnderWay kept tells run start lines (drop i lines) p a → DoesLine kept tells run line.line line.what p q a b (Ok tt) → IsUnderWay kept tells run start lines (drop (i + 1) lines) q b
  next_at u x = next_what kept tells run start a b lines (drop (i + 1) lines) line.line line.what p q (subst (λ left. IsUnderWay kept tells run start lines left p a) at_index u) x

  pub broken_at : (why : Unwritten) → IsUnderWay kept tells run start lines (drop i lines) p a → DoesLine kept tells run line.line line.what p q a b (Err why) → HasGone kept tells run lines start b (Err why)
  broken_at why u x = broken_what kept tells run start a b lines (drop (i + 1) lines) line.line line.what p q why (subst (λ left. IsUnderWay kept tells run start lines left p a) at_index u) x

-- whatever was written
pub going_still : (kept tells : Type 0) (run : Asked) (start : Around) (first : ℕ) (a : Now) (lines left : List Line) (events : List Event) (deeds : List Deed) (written : Option (List ℕ)) (faults moment : ℕ)
    → IsGoing kept tells run start first lines left events deeds a → IsGoing kept tells run start first lines left events deeds (now a.session written faults (around moment a.around.remote a.around.disk))
going_still kept tells run start first a lines left events deeds written faults moment p = record {
  asked = p.asked;
  no_sooner = p.no_sooner;
  timely = p.timely;
  fits = p.fits;
  given = p.given;
  saved = p.saved;
  limit = p.limit;
  terms = p.terms;
  entered = p.entered;
  causes = p.causes;
  steps = p.steps;
  sent = p.sent;
  stored = p.stored;
  ticked = p.ticked;
  ordered = p.ordered;
  disk_faults = p.disk_faults;
  remote = p.remote;
  can = p.can;
  room = p.room;
  few = p.few;
}

shorter_past : (w0 w1 : Option (List ℕ)) (text front more : List ℕ) → text ≡ front ++ more → AppendsPast w0 w1 text → AppendsPast w0 w1 front
shorter_past w0 w1 text front more e p = (more ++ p.0, subst (Appends w0 w1) (ap (λ l. l ++ p.0) e ∙ append_assoc front more p.0) p.1)

-- nothing more was done, and the replies of the phase that is under way were written or not
pub stops_here : (kept tells : Type 0) (run : Asked) (start a : Now) (lines left : List Line) (p : Phase) (written : Option (List ℕ)) (faults : ℕ) (r : Result (Unit {0}) Unwritten) → OnOk r (left ≡ [])
    → IsUnderWay kept tells run start lines left p a → Writes a.written written a.faults faults (replies (drop p.before a.session.records)) r → HasGone kept tells run lines start (now a.session written faults a.around) r
stops_here kept tells run start a lines left p written faults r none u x = record {
  first = u.first;
  left = left;
  events = u.events;
  is_now = u.is_now;
  going = going_still kept tells run start.around u.first a lines left u.events (deeds_of u.events) written faults a.around.moment u.going;
  all = none;
  whole = on_ok r u.whole;
  text = subst (λ text. Writes start.written written start.faults faults text r)
      (ap (λ l. texts_of (earlier u.events) ++ l) (replies_left kept tells run start a u.first lines left p u.events (deeds_of u.events) u.going u.told) ∙ sym (told_and_pending u.events))
      (writes_twice start.written a.written written start.faults a.faults faults (texts_of (earlier u.events)) (replies (drop p.before a.session.records)) r (told_writes start a p u.events u.told) x);
  most = let l = last_told u.events in
      shorter_past start.written written (texts_of (earlier u.events)) (texts_of (before_last u.events)) l.0 l.1
      (past_more start.written a.written written (texts_of (earlier u.events)) (replies (drop p.before a.session.records)) u.told.text
      (some_written a.written written (replies (drop p.before a.session.records)) r x.all x.front));
}

-- all lines were done, and then the replies of the last phase were written or not
pub gone_at : (kept tells : Type 0) (run : Asked) (start a : Now) (lines : List Line) (i : ℕ) (p : Phase) (written : Option (List ℕ)) (faults : ℕ) (r : Result (Unit {0}) Unwritten) → length lines ≤ i
    → IsUnderWay kept tells run start lines (drop i lines) p a → Writes a.written written a.faults faults (replies (drop p.before a.session.records)) r → HasGone kept tells run lines start (now a.session written faults a.around) r
gone_at kept tells run start a lines i p written faults r past u x =
    stops_here kept tells run start a lines [] p written faults r (on_ok r refl) (subst (λ left. IsUnderWay kept tells run start lines left p a) (drop_of_length-le lines past) u) x
