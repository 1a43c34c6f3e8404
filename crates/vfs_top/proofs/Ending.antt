-- What an epoch left.
use Rattle.std.proofs.Common.{◌≡◌, ◌∙◌, inl, inr, ℕ, ◌≤◌, ◌++◌, Option, List, [], Result, Ok, Err, OnOk, length, map, reverse, ap, append-nil, append_assoc, arith, refl, subst, sym}
use Rattle.std.specs.Io.KnownBytes.{Appends}
use Rattle.vfs_outside.proofs.Told.{appends_twice}
use Rattle.std.specs.List.{AllByRecursion}
use Rattle.std.specs.Prelude.{IfOk, false}
use Rattle.vfs_names.specs.declared.fingerprint.Fingerprint.{Fingerprint}
use Rattle.vfs_names.specs.declared.calls.QueueRow.{QueueRow}
use Rattle.vfs_outside.specs.Causes.{AppendsFront}
use Rattle.vfs_outside.specs.Outside.{Outside}
use Rattle.run_words.specs.Words.{Asked}
use Rattle.session_script.specs.declared.call.Line.{Line}
use Rattle.session_text.specs.Lines.{end_text, start_text}
use Rattle.one_session.specs.Causes.{AreGiven, AreSaved, HasRemoteCause}
use Rattle.writeback_queue.specs.declared.entry.QueueTerms.{QueueTerms}
use Rattle.one_session.specs.Queued.{IsQueued, owed_in, queue_of}
use Rattle.one_session.specs.Served.{Fits, IsServed, Knows, Served}
use Rattle.one_session.specs.Slots.{ImagesStand}
use Rattle.one_session.specs.State.{State}
use Rattle.one_session.specs.Steps.{SendsFile}
use Rattle.one_session.specs.Views.{given_all, histories}
use Rattle.one_session.specs.Whole.{IsWhole}
use Rattle.vfs_top.proofs.Begun.{none_gone}
use Rattle.vfs_top.proofs.Going.{steps_later}
use Rattle.vfs_top.proofs.Phased.{by_phase}
use Rattle.vfs_top.proofs.Texts.{epoch_written, some_written, start_unwritten, writes_neither, writes_twice}
use Rattle.vfs_top.specs.Around.{Around, IsEmpty}
use Rattle.vfs_top.specs.Ended.{RunsEpoch, RunsLines}
use Rattle.vfs_top.specs.Epoch.{Epoch}
use Rattle.vfs_top.specs.Event.{Event, before_last, calls_of, deeds_of, line_of, moment_after}
use Rattle.vfs_top.specs.Going.{CanDoAll, HasGone, IsGoing, IsUntouched, Now, now}
use Rattle.vfs_top.specs.Phases.{AreWithin, DoesFront, IsEpoch, history_limit, terms_of}
use Rattle.vfs_top.specs.Transcript.{end_block, shown_in, shown_texts, texts_of}
use Rattle.vfs_top.specs.Writing.{AppendsPast, Writes}
use Rattle.vfs_top.specs.declared.write.Unwritten.{Unwritten}

abbrev epoch_in : State → Epoch
epoch_in s = record { tree = s.tree; files = s.files; queue = s.queue; records = s.records; steps = s.steps }

-- what a session handed over when its files were given back to the disk, from a moment to another
pub record HandsOver (kept tells : Type 0) (s : State) (old new : Around) (e : Epoch) : Type 0 where
  pub tree : e.tree ≡ s.tree
  pub files : e.files ≡ s.files
  pub told : s.files ≡ histories s.items
  pub queue : e.queue ≡ s.queue
  pub queued : IsQueued s.terms (owed_in s.files) s.queue
  pub records : e.records ≡ s.records
  pub steps : e.steps ≡ s.steps
  pub whole : IsWhole 1 s.tree s.files
  pub moment : new.moment ≡ old.moment
  pub remote : new.remote ≡ old.remote
  pub faults : old.disk.faults ≤ new.disk.faults
  pub back : (slot : ℕ) → new.disk.out slot ≡ false
  pub images : kept → (handed : List (Fingerprint × List ℕ)) → AreGiven tells handed (given_all s.items) → AreSaved kept tells handed s.files → ImagesStand tells handed new.disk s.files

along : (kept tells : Type 0) (P : Epoch → Type 0) (s : State) (old new : Around) (e : Epoch) → HandsOver kept tells s old new e → P (epoch_in s) → P e
along kept tells P s old new e is p =
    subst (λ l. P (record { tree = l; files = e.files; queue = e.queue; records = e.records; steps = e.steps })) (sym is.tree)
    (subst (λ l. P (record { tree = s.tree; files = l; queue = e.queue; records = e.records; steps = e.steps })) (sym is.files)
    (subst (λ l. P (record { tree = s.tree; files = s.files; queue = l; records = e.records; steps = e.steps })) (sym is.queue)
    (subst (λ l. P (record { tree = s.tree; files = s.files; queue = s.queue; records = l; steps = e.steps })) (sym is.records)
    (subst (λ l. P (record { tree = s.tree; files = s.files; queue = s.queue; records = s.records; steps = l })) (sym is.steps) p))))

at_remote : (P : Outside → Type 0) (old new : Around) → new.remote ≡ old.remote → P old.remote → P new.remote
at_remote P old new same p = subst P (sym same) p

epoch_left : (kept tells : Type 0) (run : Asked) (start new : Around) (first : ℕ) (a : Now) (lines left : List Line) (events : List Event) (e : Epoch) → (kept → IsEmpty start.disk) → moment_after first events ≡ a.around.moment
    → IsGoing kept tells run start first lines left events (deeds_of events) a → HandsOver kept tells a.session a.around new e
    → IsEpoch kept tells run start new (map line_of (reverse events)) events (epoch_in a.session)
epoch_left kept tells run start new first a lines left events e empty is_now g h = record {
  empty = empty;
  asked = refl;
  first = first;
  no_sooner = g.no_sooner;
  timely = g.timely;
  last = is_now ∙ sym h.moment;
  recorded = g.fits.records;
  causes = at_remote (λ (o : Outside). AllByRecursion (λ (d : Served). HasRemoteCause d.line.call d.done a.session.tree start.remote o) (calls_of events)) a.around new h.remote g.causes;
  left = a.session.items;
  made = h.told;
  steps = steps_later (SendsFile kept tells history_limit a.session.tree) (SendsFile kept tells history_limit a.session.tree) (λ by u before after s. s)
      run.plan start.disk.faults a.around.disk.faults start.disk.faults new.disk.faults a.session.items (deeds_of events) (reverse a.session.steps) (omega arith) h.faults g.steps;
  sent = at_remote (λ (o : Outside). AreWithin start.remote o (deeds_of events)) a.around new h.remote g.sent;
  stored = g.stored;
  ticked = g.ticked;
  matching = at_remote (λ (o : Outside). IsServed 1 (Knows kept tells o.handed) history_limit (calls_of events) a.session.tree a.session.files) a.around new h.remote
      (subst (λ n. IsServed 1 (Knows kept tells a.around.remote.handed) n (calls_of events) a.session.tree a.session.files) g.limit g.fits.matching);
  whole = h.whole;
  phases = by_phase a.session.tree a.session.files g.ordered h.whole;
  entered = g.entered;
  queued = subst (λ terms. IsQueued terms (owed_in a.session.files) a.session.queue) g.terms h.queued;
  back = h.back;
  images = λ k. at_remote (λ (o : Outside). ImagesStand tells o.handed new.disk a.session.files) a.around new h.remote (h.images k a.around.remote.handed g.given g.saved);
}

front_left : (kept tells : Type 0) (run : Asked) (start new : Around) (first : ℕ) (a : Now) (lines left : List Line) (events : List Event) (e : Epoch) → (kept → IsEmpty start.disk) → moment_after first events ≡ a.around.moment
    → IsGoing kept tells run start first lines left events (deeds_of events) a → HandsOver kept tells a.session a.around new e → DoesFront kept tells run start new lines events e
front_left kept tells run start new first a lines left events e empty is_now g h = record {
  lines = map line_of (reverse events);
  others = left;
  front = sym g.asked;
  did = along kept tells (IsEpoch kept tells run start new (map line_of (reverse events)) events) a.session a.around new e h (epoch_left kept tells run start new first a lines left events e empty is_now g h);
}

all_asked : (lines done left : List Line) → done ++ left ≡ lines → left ≡ [] → done ≡ lines
all_asked lines done left asked none = sym (append-nil done) ∙ ap (λ l. done ++ l) (sym none) ∙ asked

on_ok : {P : Type 0} (r : Result (Unit {0}) Unwritten) → P → OnOk r P
on_ok (Ok x) p = p
on_ok (Err why) p = tt

pub past_front : (w0 w1 w2 : Option (List ℕ)) (a b : List ℕ) → AppendsPast w0 w1 a → AppendsFront w1 w2 b → AppendsPast w0 w2 a
past_front w0 w1 w2 a b p q = (p.0 ++ q.0, subst (Appends w0 w2) (append_assoc a p.0 q.0) (appends_twice w0 w1 w2 (a ++ p.0) q.0 p.1 q.3))

past_after : (w0 w1 w2 : Option (List ℕ)) (a b : List ℕ) → Appends w0 w1 a → AppendsPast w1 w2 b → AppendsPast w0 w2 (a ++ b)
past_after w0 w1 w2 a b p q = (q.0, subst (Appends w0 w2) (sym (append_assoc a b q.0)) (appends_twice w0 w1 w2 a (b ++ q.0) p q.1))

-- the rows were made of the queue and of the files that were handed over
rows_over : (kept tells : Type 0) (run : Asked) (start a : Now) (new : Around) (lines : List Line) (e : Epoch) {V X : Type 0} (rows : Result V X) (items : V → List QueueRow)
    → HasGone kept tells run lines start a (Ok tt) → HandsOver kept tells a.session a.around new e
    → IfOk rows (λ v. items v ≡ queue_of a.session.terms.write_back a.session.queue a.session.files) → IfOk rows (λ v. items v ≡ queue_of run.write_back e.queue e.files)
rows_over kept tells run start a new lines e (Ok v) items gone h is =
    is ∙ ap (λ (terms : QueueTerms). queue_of terms.write_back a.session.queue a.session.files) gone.going.terms
    ∙ ap (λ queue. queue_of run.write_back queue a.session.files) (sym h.queue) ∙ ap (λ files. queue_of run.write_back e.queue files) (sym h.files)
rows_over kept tells run start a new lines e (Err x) items gone h is = tt

-- all lines were done, and then the end was written or not
pub lines_done : (kept tells : Type 0) (run : Asked) (start a : Now) (new : Around) (lines : List Line) (e : Epoch) (written : Option (List ℕ)) (faults : ℕ) (r : Result (Unit {0}) Unwritten) {V X : Type 0} (rows : Result V X) (items : V → List QueueRow)
    → (kept → IsEmpty start.around.disk) → HasGone kept tells run lines start a (Ok tt) → HandsOver kept tells a.session a.around new e
    → IfOk rows (λ v. items v ≡ queue_of a.session.terms.write_back a.session.queue a.session.files)
    → ((write_back : ℕ) → IfOk rows (λ v. items v ≡ queue_of write_back e.queue e.files) → Writes a.written written a.faults faults (end_block write_back e ++ end_text 0) r)
    → RunsLines kept tells run start.written written start.faults faults start.around new lines e r
lines_done kept tells run start a new lines e written faults r rows items empty gone h made writes =
    let x = writes run.write_back (rows_over kept tells run start a new lines e rows items gone h made) in
    record {
      events = gone.events;
      did = front_left kept tells run start.around new gone.first a lines gone.left gone.events e empty gone.is_now gone.going h;
      all = on_ok r (subst (λ l. IsEpoch kept tells run start.around new l gone.events e) (all_asked lines (map line_of (reverse gone.events)) gone.left gone.going.asked gone.all)
          (along kept tells (IsEpoch kept tells run start.around new (map line_of (reverse gone.events)) gone.events) a.session a.around new e h
          (epoch_left kept tells run start.around new gone.first a lines gone.left gone.events e empty gone.is_now gone.going h)));
      ended = on_ok r gone.whole;
      text = writes_twice start.written a.written written start.faults a.faults faults (texts_of gone.events) (end_block run.write_back e ++ end_text 0) r gone.text x;
      told = past_front start.written a.written written (texts_of (before_last gone.events)) (end_block run.write_back e ++ end_text 0) gone.most (some_written a.written written (end_block run.write_back e ++ end_text 0) r x.all x.front);
    }

-- not all was written that the lines showed
pub lines_broken : (kept tells : Type 0) (run : Asked) (start a : Now) (new : Around) (lines : List Line) (e : Epoch) (why : Unwritten)
    → (kept → IsEmpty start.around.disk) → HasGone kept tells run lines start a (Err why) → HandsOver kept tells a.session a.around new e
    → RunsLines kept tells run start.written a.written start.faults a.faults start.around new lines e (Err why)
lines_broken kept tells run start a new lines e why empty gone h = record {
  events = gone.events;
  did = front_left kept tells run start.around new gone.first a lines gone.left gone.events e empty gone.is_now gone.going h;
  all = tt;
  ended = tt;
  text = writes_neither start.written a.written start.faults a.faults (texts_of gone.events) (end_block run.write_back e ++ end_text 0) why gone.text;
  told = gone.most;
}

-- the start was written before
pub started : (kept tells : Type 0) (run : Asked) (w0 w1 w2 : Option (List ℕ)) (f0 f1 f2 : ℕ) (old new : Around) (lines : List Line) (e : Epoch) (r : Result (Unit {0}) Unwritten)
    → Writes w0 w1 f0 f1 (start_text 0 0 0) (Ok tt) → RunsLines kept tells run w1 w2 f1 f2 old new lines e r → RunsEpoch kept tells run w0 w2 f0 f2 old new lines e r
started kept tells run w0 w1 w2 f0 f1 f2 old new lines e r p q = record {
  events = q.events;
  did = q.did;
  all = q.all;
  ended = q.ended;
  text = epoch_written w0 w1 w2 f0 f1 f2 (start_text 0 0 0) (shown_texts (shown_in q.events)) (end_block run.write_back e) (end_text 0) r p q.text;
  told = inr (past_after w0 w1 w2 (start_text 0 0 0) (texts_of (before_last q.events)) p.all q.told);
}

-- the start wasn't written, and nothing was done
pub not_started : (kept tells : Type 0) (run : Asked) (o new : Around) (w0 w1 : Option (List ℕ)) (f0 f1 : ℕ) (lines : List Line) (s : State) (e : Epoch) (why : Unwritten)
    → (kept → IsEmpty o.disk) → Fits 1 (Knows kept tells o.remote.handed) [] s → s.limit ≡ history_limit → s.terms ≡ terms_of run → s.files ≡ [] → IsUntouched s → CanDoAll lines → length lines ≤ 65536 → length lines ≤ s.room
    → HandsOver kept tells s o new e → Writes w0 w1 f0 f1 (start_text 0 0 0) (Err why) → RunsEpoch kept tells run w0 w1 f0 f1 o new lines e (Err why)
not_started kept tells run o new w0 w1 f0 f1 lines s e why empty fits limit terms files untouched can few room h p = record {
  events = [];
  did = front_left kept tells run o new o.moment (now s w0 f0 o) lines lines [] e empty refl
      (none_gone kept tells run o o w0 f0 lines s (omega arith) refl refl fits limit terms files untouched can few room) h;
  all = tt;
  ended = tt;
  text = start_unwritten w0 w1 f0 f1 (start_text 0 0 0) [] (end_block run.write_back e) (end_text 0) why p;
  told = inl refl;
}
