-- How an epoch goes on by the uploads of a line.
use Rattle.std.proofs.Common.{◌≡◌, ◌∙◌, ℕ, ◌+◌, ◌-◌, ◌<◌, ◌≤◌, ◌++◌, Option, Some, List, [], ◌∷◌, Result, Ok, Err, OnErr, OnOk, Bool, true, drop, filter, length, map, reverse, ap, append-nil, append_assoc, arith, cond, false, not, true≢false, ◌^◌, refl, subst, sym}
use Rattle.std.specs.List.{AllByRecursion, count_by}
use Rattle.std.proofs.lemmas.List.Sums.{sum_by-cons}
use Rattle.std.specs.Io.KnownBytes.{Appends}
use Rattle.std.proofs.lemmas.List.Elements.{filter-append}
use Rattle.vfs_names.specs.declared.fingerprint.Fingerprint.{Fingerprint}
use Rattle.vfs_names.specs.declared.who.Actor.TheVariants.{Main}
use Rattle.vfs_names.specs.declared.who.By.{By}
use Rattle.vfs_outside.specs.Disk.{Disk}
use Rattle.vfs_outside.specs.Outside.{Outside}
use Rattle.vfs_outside.specs.declared.tree.TreeEntry.{TreeEntry}
use Rattle.item_upload.specs.Whole.{IfSaved, is_saved}
use Rattle.item_upload.specs.declared.whole.Ended.{Ended}
use Rattle.item_upload.specs.declared.whole.Ended.TheVariants.{Saved, Dropped, Unbegun}
use Rattle.item_core.specs.Names.{name_of}
use Rattle.run_words.specs.Words.{Asked}
use Rattle.session_script.specs.declared.call.Line.{Line}
use Rattle.session_script.specs.declared.call.What.TheVariants as what
use Rattle.session_text.specs.Lines.{shown_text}
use Rattle.session_text.specs.declared.shown.Shown.TheVariants as shown
use Rattle.sparse_item.specs.Item.{Item}
use Rattle.writeback_queue.specs.declared.entry.QueueTerms.{QueueTerms}
use Rattle.writeback_queue.specs.Legal.{IsNothingDue}
use Rattle.one_session.specs.Calls.{in_tree}
use Rattle.one_session.specs.Causes.{AreGiven, AreSaved, HasRemoteCause}
use Rattle.one_session.specs.Queued.{turn_by}
use Rattle.one_session.specs.Sending.{NotesUpload, SendsNext}
use Rattle.one_session.specs.Served.{Fits, Knows, Served, tree_phase}
use Rattle.one_session.specs.State.{State, item_in}
use Rattle.one_session.specs.Steps.{AreSteps, Deed, Sending, SendsFile, Upload, WasFullFor, queue_after}
use Rattle.one_session.specs.Tree.{free_places}
use Rattle.one_session.specs.Views.{given_all}
use Rattle.one_session.specs.Whole.{IsUpTo}
use Rattle.one_session.proofs.Leaving.{sends_handed}
use Rattle.one_session.proofs.Makers.{all_append, all_mono}
use Rattle.vfs_top.specs.Around.{Around, around}
use Rattle.vfs_top.specs.Event.{Event, Ticked, AreTicked, AreWhole, before_last, calls_of, deeds_of, earlier, failed_in, main_at, maker_at, moment_after, phase_after, saved_in, sendings}
use Rattle.vfs_top.specs.Going.{HasGone, IsGoing, IsPast, IsTold, IsUnderWay, Now, SendsDue, now}
use Rattle.vfs_top.specs.Phases.{AreWithin, IsByPhase, IsLaterRemote, history_limit, is_main, is_mains, stored_by, stored_of}
use Rattle.vfs_top.specs.Transcript.{shown_texts, texts_of}
use Rattle.vfs_top.specs.Writing.{AppendsPast, Writes}
use Rattle.vfs_top.specs.declared.phase.Phase.{Phase}
use Rattle.vfs_top.specs.declared.tick.Ticked.{Ticked as Counts}
use Rattle.vfs_top.specs.declared.write.Unwritten.{Unwritten}
use Rattle.vfs_top.specs.declared.write.Unwritten.TheVariants.{NoMemory}
use Rattle.vfs_top.proofs.Going.{causes_later, full_now, lines_more, remote_same, remote_twice, sends_full, sends_more, steps_later, within_later}
use Rattle.vfs_top.proofs.Joining.{past_more, past_next, replies_left}
use Rattle.vfs_top.proofs.Ending.{past_front}
use Rattle.vfs_top.proofs.Phased.{by_phase_append}
use Rattle.vfs_top.proofs.Texts.{none_written, whole_front, writes_twice}
use Rattle.vfs_top.proofs.Told.{count_records, replies, text_more, told_and_pending}
use Rattle.vfs_outside.proofs.Told.{appends_twice}

-- what an upload says in the tree is told of its path
pub noted_path : (by : By) (item : Item) (ended : Ended) (old new : List TreeEntry) → NotesUpload by item ended old new
    → (path : List ℕ) × (new ≡ old ++ stored_of by path ended) × IfSaved ended (λ print. name_of item.log.past item.names ≡ Some path)
noted_path by item (Saved print) old new n = (n.0, n.2, n.1)
noted_path by item (Dropped why) old new n = ([], n ∙ sym (append-nil old), tt)
noted_path by item (Unbegun why) old new n = ([], n ∙ sym (append-nil old), tt)

stored_mains : (by : By) (path : List ℕ) (ended : Ended) → by.who.actor ≡ Main → filter is_mains (stored_of by path ended) ≡ stored_of by path ended
stored_mains by path (Saved print) own = rw own refl
stored_mains by path (Dropped why) own = refl
stored_mains by path (Unbegun why) own = refl

stored_made : (by : By) (path : List ℕ) (ended : Ended) → AllByRecursion (λ (e : TreeEntry). tree_phase e ≡ by.who.phase) (stored_of by path ended)
stored_made by path (Saved print) = (refl, tt)
stored_made by path (Dropped why) = tt
stored_made by path (Unbegun why) = tt

-- a file was uploaded
module _ (kept tells : Type 0) (by : By) (s t : State) (o o' : Outside) (ended : Ended) (own : by.who.actor ≡ Main) (n : SendsNext kept tells tells by s t o o' ended) (past : IsPast by s) where
  abbrev noted : (path : List ℕ) × (t.tree ≡ s.tree ++ stored_of by path ended) × IfSaved ended (λ print. name_of (item_in s.items n.item).log.past (item_in s.items n.item).names ≡ Some path)
  noted = noted_path by (item_in s.items n.item) ended s.tree t.tree n.notes

  -- what was sent
  abbrev pub sent_now : Upload
  sent_now = record { item = n.item; path = noted.0; ended = ended; old = o; new = o' }

  rising : IsLaterRemote o o'
  rising = let handed = sends_handed kept tells tells by _ _ _ o o' ended n.sends in record { faults = n.sends.later.faults; changes = n.sends.later.changes; more = handed.0; handed = handed.1 }

  did : s.limit ≡ history_limit → SendsFile kept tells history_limit t.tree by sent_now s.items t.items
  did limit = record {
    inside = n.inside;
    one = n.one;
    path = noted.2;
    sends = sends_full kept tells tells by (free_places s.limit s.tree < 1) (WasFullFor history_limit by t.tree) _ _ o o' ended
        (λ full. subst (WasFullFor history_limit by) (sym noted.1) (full_now history_limit by s.tree (stored_of by noted.0 ended) past.tree (subst (λ l. free_places l s.tree < 1) limit full))) n.sends;
  }

  pub sent_goes : (run : Asked) (start : Around) (first : ℕ) (lines left : List Line) (events : List Event) (deeds : List Deed) (written : Option (List ℕ)) (faults moment : ℕ) (disk : Disk)
      → ((served : List Served) → Fits 1 (Knows kept tells o.handed) served s → Fits 1 (Knows kept tells o'.handed) served t) → AreGiven tells o'.handed (given_all t.items) → AreSaved kept tells o'.handed t.files
      → IsGoing kept tells run start first lines left events deeds (now s written faults (around moment o disk)) → IsGoing kept tells run start first lines left events (Sending by sent_now ∷ deeds) (now t written faults (around moment o' disk))
  sent_goes run start first lines left events deeds written faults moment disk fits given saved p = record {
    asked = p.asked;
    no_sooner = p.no_sooner;
    timely = p.timely;
    fits = fits (calls_of events) p.fits;
    given = given;
    saved = saved;
    limit = ap (λ (st : State). st.limit) n.same ∙ p.limit;
    terms = ap (λ (st : State). st.terms) n.same ∙ p.terms;
    entered = n.queue ∙ ap (λ q. q ++ turn_by by n.item (is_saved ended)) p.entered ∙ ap (λ l. queue_after run.write_back deeds (reverse l) ++ turn_by by n.item (is_saved ended)) (sym steps_same);
    causes = subst (λ tree. AllByRecursion (λ (d : Served). HasRemoteCause d.line.call d.done tree start.remote o') (calls_of events)) (sym noted.1)
        (causes_later (calls_of events) s.tree (stored_of by noted.0 ended) start.remote o o' rising.more p.causes rising.faults rising.changes rising.handed);
    steps = (
      s.items,
      did p.limit,
      subst (λ l. AreSteps (SendsFile kept tells history_limit t.tree) run.plan start.disk.faults disk.faults s.items deeds (reverse l)) (sym steps_same)
          (steps_later (SendsFile kept tells history_limit s.tree) (SendsFile kept tells history_limit t.tree)
          (λ by' u before after x. subst (λ tree. SendsFile kept tells history_limit tree by' u before after) (sym noted.1) (sends_more kept tells history_limit s.tree (stored_of by noted.0 ended) by' u before after x))
          run.plan start.disk.faults disk.faults start.disk.faults disk.faults s.items deeds (reverse s.steps) (omega arith) (omega arith) p.steps),
    );
    sent = (record { before = p.remote; after = remote_same o' }, within_later start.remote o o' deeds rising p.sent);
    stored = ap (filter is_mains) noted.1 ∙ filter-append is_mains s.tree (stored_of by noted.0 ended) ∙ ap (λ l. l ++ filter is_mains (stored_of by noted.0 ended)) p.stored
        ∙ ap (λ l. stored_by deeds ++ l) (stored_mains by noted.0 ended own);
    ticked = subst (λ l. AreTicked run.write_back events (reverse l)) (sym steps_same) p.ticked;
    ordered = subst (IsByPhase tree_phase) (sym noted.1) (by_phase_append tree_phase by.who.phase s.tree (stored_of by noted.0 ended) p.ordered past.tree (stored_made by noted.0 ended));
    disk_faults = p.disk_faults;
    remote = remote_twice start.remote o o' p.remote rising;
    can = p.can;
    room = omega (arith, p.room, ap (λ (st : State). st.room) n.same);
    few = p.few;
  } where
    steps_same : t.steps ≡ s.steps
    steps_same = ap (λ (st : State). st.steps) n.same

  pub sent_past : IsUpTo by t.files → IsPast by t
  sent_past later = record {
    files = later;
    tree = subst (AllByRecursion (λ (e : TreeEntry). tree_phase e ≤ by.who.phase)) (sym noted.1) (all_append (λ (e : TreeEntry). tree_phase e ≤ by.who.phase) s.tree (stored_of by noted.0 ended) past.tree
        (all_mono (λ (e : TreeEntry). tree_phase e ≡ by.who.phase) (λ (e : TreeEntry). tree_phase e ≤ by.who.phase) (λ e q. omega (arith, q)) (stored_of by noted.0 ended) (stored_made by noted.0 ended)));
  }

-- the counts of one upload more
count_more : (such : Upload → Bool) (u : Upload) (uploads : List Upload) → count_by such (u ∷ uploads) ≡ cond (such u) 1 0 + count_by such uploads
count_more such u uploads = let each : Upload → ℕ = λ u. cond (such u) 1 0 in sum_by-cons each u uploads

one_saved : (n k : ℕ) (b : Bool) → k ≡ n + cond b 1 0 → (m : ℕ) → n ≡ m → k ≡ cond b 1 0 + m
one_saved n k true e m f = omega (arith, e, f)
one_saved n k false e m f = omega (arith, e, f)

one_failed : (n k : ℕ) (b : Bool) → k ≡ n + cond b 0 1 → (m : ℕ) → n ≡ m → k ≡ cond (not b) 1 0 + m
one_failed n k true e m f = omega (arith, e, f)
one_failed n k false e m f = omega (arith, e, f)

-- none was uploaded yet
pub due_none : (kept tells : Type 0) (run : Asked) (by : By) (s : State) (o : Outside) (counts : Counts) → counts.uploaded ≡ 0 → counts.failed ≡ 0 → counts.whole ≡ false → IsPast by s → AreGiven tells o.handed (given_all s.items) → AreSaved kept tells o.handed s.files
    → SendsDue kept tells run by s s o o counts
due_none kept tells run by s o counts uploaded failed part past given saved = record {
  uploads = [];
  uploaded = uploaded;
  failed = failed;
  done = λ whole. absurd (true≢false (sym whole ∙ part));
  past = past;
  given = given;
  saved = saved;
  terms = refl;
  records = refl;
  count = refl;
  goes = λ start first lines left events deeds written faults moment disk p. p;
}

-- one was uploaded more
pub due_more : (kept tells : Type 0) (run : Asked) (by : By) (s t t' : State) (o o' o'' : Outside) (counts counts' : Counts) (ended : Ended) → by.who.actor ≡ Main
    → SendsDue kept tells run by s t o o' counts → counts.whole ≡ false → (n : SendsNext kept tells tells by t t' o' o'' ended)
    → ((served : List Served) → Fits 1 (Knows kept tells o'.handed) served t → Fits 1 (Knows kept tells o''.handed) served t') → AreGiven tells o''.handed (given_all t'.items) → AreSaved kept tells o''.handed t'.files → IsUpTo by t'.files
    → length t'.files ≡ length t.files
    → counts'.uploaded ≡ counts.uploaded + cond (is_saved ended) 1 0 → counts'.failed ≡ counts.failed + cond (is_saved ended) 0 1 → counts'.whole ≡ counts.whole
    → SendsDue kept tells run by s t' o o'' counts'
due_more kept tells run by s t t' o o' o'' counts counts' ended own d part n fits given saved later count uploaded failed whole =
    let u : Upload = sent_now kept tells by t t' o' o'' ended own n d.past in record {
      uploads = u ∷ d.uploads;
      uploaded = one_saved counts.uploaded counts'.uploaded (is_saved ended) uploaded (saved_in d.uploads) d.uploaded ∙ sym (count_more (λ (u : Upload). is_saved u.ended) u d.uploads);
      failed = one_failed counts.failed counts'.failed (is_saved ended) failed (failed_in d.uploads) d.failed ∙ sym (count_more (λ (u : Upload). not (is_saved u.ended)) u d.uploads);
      done = λ w. absurd (true≢false (sym w ∙ whole ∙ part));
      past = sent_past kept tells by t t' o' o'' ended own n d.past later;
      given = given;
      saved = saved;
      terms = ap (λ (st : State). st.terms) n.same ∙ d.terms;
      records = ap (λ (st : State). st.records) n.same ∙ d.records;
      count = count ∙ d.count;
      goes = λ start first lines left events deeds written faults moment disk p. sent_goes kept tells by t t' o' o'' ended own n d.past run start first lines left events (sendings by d.uploads deeds) written faults moment disk fits given saved
          (d.goes start first lines left events deeds written faults moment disk p);
    }

-- and none is due any more
pub due_done : (kept tells : Type 0) (run : Asked) (by : By) (s t : State) (o o' : Outside) (counts counts' : Counts) → SendsDue kept tells run by s t o o' counts → IsNothingDue run.write_back (reverse t.queue) by.now
    → counts'.uploaded ≡ counts.uploaded → counts'.failed ≡ counts.failed → SendsDue kept tells run by s t o o' counts'
due_done kept tells run by s t o o' counts counts' d none uploaded failed = record {
  uploads = d.uploads;
  uploaded = uploaded ∙ d.uploaded;
  failed = failed ∙ d.failed;
  done = λ whole. none;
  past = d.past;
  given = d.given;
  saved = d.saved;
  terms = d.terms;
  records = d.records;
  count = d.count;
  goes = d.goes;
}

pub due_still : (kept tells : Type 0) (run : Asked) (by : By) (s t t' : State) (o o' o'' : Outside) (counts : Counts) → SendsDue kept tells run by s t o o' counts → t' ≡ t → o'' ≡ o' → SendsDue kept tells run by s t' o o'' counts
due_still kept tells run by s t t' o o' o'' counts d same still = subst (λ x. SendsDue kept tells run by s x o o'' counts) (sym same) (subst (λ x. SendsDue kept tells run by s t o x counts) (sym still) d)

-- each upload is counted once
pub counts_up : (u f u' f' : ℕ) (b : Bool) → u < 2 ^ 32 - 1 → f < 2 ^ 32 - 1 → u' ≡ u + cond b 1 0 → f' ≡ f + cond b 0 1 → 2 ^ 33 - (u' + f') < 2 ^ 33 - (u + f)
counts_up u f u' f' true x y a b = omega (arith, x, y, a, b)
counts_up u f u' f' false x y a b = omega (arith, x, y, a, b)

-- the line that had the files uploaded is behind
module _ (kept tells : Type 0) (run : Asked) (start a : Now) (lines left : List Line) (n moment : ℕ) (p : Phase) (by : By) (t : State) (o' : Outside) (counts : Counts) (w1 : Option (List ℕ)) (f1 : ℕ)
    (u : IsUnderWay kept tells run start lines (record { line = n; what = what.Tick } ∷ left) p a) (is : by ≡ main_at (p.by.who.phase + 1) moment) (sooner : a.around.moment ≤ moment)
    (d : SendsDue kept tells run by a.session t a.around.remote o' counts) (replied : Writes a.written w1 a.faults f1 (replies (drop p.before a.session.records)) (Ok tt)) where
  abbrev event : Event
  event = Ticked n moment d.uploads counts.whole

  abbrev shows : List ℕ
  shows = shown_text (shown.Ticked n (saved_in d.uploads) (failed_in d.uploads))

  made_by : by ≡ main_at (phase_after u.events + 1) moment
  made_by = is ∙ ap (λ phase. main_at (phase + 1) moment) (ap (λ (b : By). b.who.phase) u.maker)

  going : (written : Option (List ℕ)) (faults : ℕ) → IsGoing kept tells run start.around u.first lines left (event ∷ u.events) (deeds_of (event ∷ u.events)) (now t written faults (around moment o' a.around.disk))
  going written faults = let p0 = d.goes start.around u.first lines (record { line = n; what = what.Tick } ∷ left) u.events (deeds_of u.events) a.written a.faults a.around.moment a.around.disk u.going in
      let p = subst (λ b. IsGoing kept tells run start.around u.first lines (record { line = n; what = what.Tick } ∷ left) u.events (sendings b d.uploads (deeds_of u.events)) (now t a.written a.faults (around a.around.moment o' a.around.disk))) made_by p0 in record {
        asked = lines_more event u.events (record { line = n; what = what.Tick }) left lines refl p.asked;
        no_sooner = p.no_sooner;
        timely = (omega (arith, u.is_now, sooner), p.timely);
        fits = p.fits;
        given = p.given;
        saved = p.saved;
        limit = p.limit;
        terms = p.terms;
        entered = p.entered;
        causes = p.causes;
        steps = p.steps;
        sent = p.sent;
        stored = p.stored;
        ticked = (λ whole. subst (λ q. IsNothingDue run.write_back (reverse q) moment) p.entered (subst (λ m. IsNothingDue run.write_back (reverse t.queue) m) (ap (λ (b : By). b.now) is) (d.done whole)), p.ticked);
        ordered = p.ordered;
        disk_faults = p.disk_faults;
        remote = p.remote;
        can = p.can.1;
        room = omega (arith, p.room);
        few = omega (arith, p.few);
      }

  -- all that was shown before it was written
  told_before : Appends start.written w1 (texts_of (earlier u.events) ++ replies (drop p.before a.session.records))
  told_before = appends_twice start.written a.written w1 (texts_of (earlier u.events)) (replies (drop p.before a.session.records)) u.told.text replied.all

  is_all : texts_of (earlier u.events) ++ replies (drop p.before a.session.records) ≡ texts_of u.events
  is_all = ap (λ l. texts_of (earlier u.events) ++ l) (replies_left kept tells run start a u.first lines (record { line = n; what = what.Tick } ∷ left) p u.events (deeds_of u.events) u.going u.told) ∙ sym (told_and_pending u.events)

  before_it : Writes start.written w1 start.faults f1 (texts_of u.events) (Ok tt)
  before_it = record { all = subst (Appends start.written w1) is_all told_before; front = tt; rose = λ e. cc; later = omega (arith, u.told.faults, replied.later) }

  past_it : AppendsPast start.written w1 (texts_of (earlier u.events))
  past_it = past_more start.written a.written w1 (texts_of (earlier u.events)) (replies (drop p.before a.session.records)) u.told.text (whole_front a.written w1 (replies (drop p.before a.session.records)) replied.all)

  -- it wasn't written, for want of memory or since the sink failed
  pub tick_broken : (written : Option (List ℕ)) (faults : ℕ) (why : Unwritten) → Writes w1 written f1 faults shows (Err why) → HasGone kept tells run lines start (now t written faults (around moment o' a.around.disk)) (Err why)
  tick_broken written faults why x = record {
    first = u.first;
    left = left;
    events = event ∷ u.events;
    is_now = refl;
    going = going written faults;
    all = tt;
    whole = tt;
    text = subst (λ text. Writes start.written written start.faults faults text (Err why)) (sym (text_more event u.events)) (writes_twice start.written w1 written start.faults f1 faults (texts_of u.events) shows (Err why) before_it x);
    most = past_front start.written w1 written (texts_of (earlier u.events)) shows past_it x.front;
  }

  -- it was, and the next phase begins
  pub tick_done : (q : Phase) (written : Option (List ℕ)) (faults : ℕ) → q.by ≡ maker_at (by.who.phase + 1) moment → q.before ≡ length a.session.records → moment ≤ 2 ^ 62 → counts.whole ≡ true → Writes w1 written f1 faults shows (Ok tt)
      → IsUnderWay kept tells run start lines left q (now t written faults (around moment o' a.around.disk))
  tick_done q written faults maker before most whole x = record {
    events = event ∷ u.events;
    first = u.first;
    most = most;
    is_now = refl;
    maker = maker ∙ ap (λ phase. maker_at phase moment) (omega (arith, ap (λ (b : By). b.who.phase) made_by));
    past = past_next t by q.by (omega (arith, ap (λ (b : By). b.who.phase) maker)) (omega (arith, ap (λ (b : By). b.now) is, ap (λ (b : By). b.now) maker)) d.past;
    whole = (whole, u.whole);
    going = going written faults;
    told = record {
      text = subst (Appends start.written written) (sym (text_more event u.events)) (writes_twice start.written w1 written start.faults f1 faults (texts_of u.events) shows (Ok tt) before_it x).all;
      faults = omega (arith, u.told.faults, replied.later, x.later);
      before = before ∙ ap length u.going.fits.records ∙ count_records (calls_of u.events);
      inside = omega (arith, before, ap length d.records);
    };
  }

  -- its text was written or not
  pub tick_ends : (q : Phase) (written : Option (List ℕ)) (faults : ℕ) (r : Result (Unit {0}) Unwritten) → q.by ≡ maker_at (by.who.phase + 1) moment → q.before ≡ length a.session.records → moment ≤ 2 ^ 62 → counts.whole ≡ true
      → Writes w1 written f1 faults (shown_text (shown.Ticked n counts.uploaded counts.failed)) r
      → OnOk r (IsUnderWay kept tells run start lines left q (now t written faults (around moment o' a.around.disk))) × OnErr r (HasGone kept tells run lines start (now t written faults (around moment o' a.around.disk)) r)
  tick_ends q written faults r maker before most whole x = by_result r (subst (λ k. Writes w1 written f1 faults (shown_text (shown.Ticked n (saved_in d.uploads) k)) r) d.failed (subst (λ k. Writes w1 written f1 faults (shown_text (shown.Ticked n k counts.failed)) r) d.uploaded x)) where
    by_result : (r : Result (Unit {0}) Unwritten) → Writes w1 written f1 faults shows r
        → OnOk r (IsUnderWay kept tells run start lines left q (now t written faults (around moment o' a.around.disk))) × OnErr r (HasGone kept tells run lines start (now t written faults (around moment o' a.around.disk)) r)
    by_result (Ok y) x = (tick_done q written faults maker before most whole x, tt)
    by_result (Err why) x = (tt, tick_broken written faults why x)

-- nothing was written of a text, for want of memory
pub starved : (w : Option (List ℕ)) (f : ℕ) (text : List ℕ) → Writes w w f f text (Err NoMemory)
starved w f text = record { all = tt; front = none_written w text; rose = λ e. cc; later = omega arith }

pub is_whole : (b : Bool) → not b ≡ false → b ≡ true
is_whole true e = refl
is_whole false e = absurd (true≢false e)
