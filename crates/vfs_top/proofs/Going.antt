-- How an epoch goes on by a call.
use Rattle.std.proofs.Common.{◌≡◌, ◌∙◌, ◌⊎◌, inl, inr, ℕ, zero, suc, ◌≤◌, ◌++◌, ◌<◌, Option, None, Some, List, [], ◌∷◌, cond, drop, filter, length, map, reverse, take, ap, append_assoc, append-nil, arith, length-append, refl, subst, sym}
use Rattle.std.proofs.lemmas.Grind.{common_steps}
use Rattle.std.proofs.lemmas.List.{reverse-append}
use Rattle.std.proofs.lemmas.List.Elements.{filter-append}
use Rattle.std.proofs.Math.Seq.{take-append_seam}
use Rattle.std.specs.List.{AllByRecursion}
use Rattle.std.specs.Prelude.{IsSomeAnd}
use Rattle.vfs_names.specs.declared.who.Actor.TheVariants.{Session}
use Rattle.vfs_names.specs.declared.who.By.{By}
use Rattle.vfs_names.specs.declared.fingerprint.Fingerprint.{Fingerprint}
use Rattle.vfs_outside.proofs.Told.{later_rose, rose_later}
use Rattle.vfs_outside.specs.Causes.{Rose}
use Rattle.vfs_outside.specs.Outside.{Outside}
use Rattle.vfs_outside.specs.declared.tree.TreeEntry.{TreeEntry}
use Rattle.session_script.specs.declared.call.Call.{Call}
use Rattle.session_script.specs.declared.call.Call.TheVariants as call
use Rattle.session_script.specs.declared.call.Line.{Line}
use Rattle.session_script.specs.declared.call.What.TheVariants as what
use Rattle.session_script.specs.declared.call.CallLine.{CallLine}
use Rattle.session_text.specs.declared.reply.Record.{Record}
use Rattle.session_text.specs.declared.reply.Reply.{Reply}
use Rattle.downloaders.specs.declared.Plan.{Plan}
use Rattle.run_words.specs.Words.{Asked}
use Rattle.item_upload.specs.declared.whole.Ended.{Ended}
use Rattle.sparse_item.specs.Answers.{IsFull}
use Rattle.sparse_item.specs.Item.{Item}
use Rattle.writeback_queue.specs.declared.entry.QueueTerms.{QueueTerms}
use Rattle.one_session.specs.Causes.{CauseOf, HandsBig, HasRemoteCause, IsUnshown, ends_gone}
use Rattle.one_session.specs.Queued.{queue_step}
use Rattle.one_session.specs.Sending.{Sends}
use Rattle.one_session.specs.Served.{Served, tree_phase}
use Rattle.one_session.specs.State.{State, Step, item_in}
use Rattle.one_session.specs.Steps.{AreSteps, Deed, Serving, Sending, SendsFile, IsOpenCause, TakesStep, Touches, Upload, WasFullFor, queue_after}
use Rattle.one_session.specs.Tree.{free_places, shown}
use Rattle.one_session.proofs.Makers.{all_mono}
use Rattle.vfs_top.specs.Around.{Around}
use Rattle.vfs_top.specs.Event.{Event, AreTicked, Called, calls_of, deeds_of, line_of, maker_at, moment_after, phase_after}
use Rattle.vfs_top.specs.Going.{IsGoing, MakesCall, Now}
use Rattle.vfs_top.specs.Phases.{AreWithin, IsByPhase, IsLaterRemote, history_limit, is_main, is_mains, stored_by}
use Rattle.vfs_top.proofs.Phased.{by_phase_append}

take_front : {A : Type 0} (xs ys : List A) (k : ℕ) → k ≤ length xs → take k (xs ++ ys) ≡ take k xs
take_front [] ys zero le = refl
take_front [] ys (suc k) le = absurd (omega (arith, le))
take_front (x ∷ xs) ys zero le = refl
take_front (x ∷ xs) ys (suc k) le = ap (λ l. x ∷ l) (take_front xs ys k (omega (arith, le)))

-- what was shown before an entry is the same in a longer history
unshown_more : (tree more : List TreeEntry) (path : List ℕ) (k : ℕ) → IsUnshown tree path k → IsUnshown (tree ++ more) path k
unshown_more tree more path k u = record {
  inside = omega (arith, u.inside, length-append tree more);
  nothing = ap (λ l. shown l path) same ∙ u.nothing;
  not_gone = ap (λ l. ends_gone (reverse l) path) same ∙ u.not_gone;
} where
  same : take k (tree ++ more) ≡ take k tree
  same = take_front tree more k (omega (arith, u.inside))

some_more : (o : Option ℕ) (tree more : List TreeEntry) (path : List ℕ) → IsSomeAnd o (IsUnshown tree path) → IsSomeAnd o (IsUnshown (tree ++ more) path)
some_more None tree more path h = h
some_more (Some k) tree more path h = unshown_more tree more path k h

big_more : (extra handed handed' : List (Fingerprint × List ℕ)) → handed' ≡ extra ++ handed → HandsBig handed → HandsBig handed'
big_more extra handed handed' e h = record {
  front = extra ++ h.front;
  print = h.print;
  bytes = h.bytes;
  back = h.back;
  is = e ∙ ap (λ l. extra ++ l) h.is ∙ sym (append_assoc extra h.front ((h.print, h.bytes) ∷ h.back));
  big = h.big;
}

missing_later : (o : Option ℕ) (tree more : List TreeEntry) (path : List ℕ) (x y z : ℕ) → y ≤ z → Rose x y ⊎ IsSomeAnd o (IsUnshown tree path) → Rose x z ⊎ IsSomeAnd o (IsUnshown (tree ++ more) path)
missing_later o tree more path x y z le (inl h) = inl (rose_later x y z h le)
missing_later o tree more path x y z le (inr h) = inr (some_more o tree more path h)

later_missing : {A : Type 0} (x y z : ℕ) → x ≤ y → Rose y z ⊎ A → Rose x z ⊎ A
later_missing x y z le (inl h) = inl (later_rose x y z le h)
later_missing x y z le (inr h) = inr h

cause_of_later : (asked : Call) (done : Record) (tree more : List TreeEntry) (a b z : Outside) (extra : List (Fingerprint × List ℕ)) → CauseOf asked done tree a b → b.faults ≤ z.faults → b.changes ≤ z.changes → z.handed ≡ extra ++ b.handed → CauseOf asked done (tree ++ more) a z
cause_of_later (call.Open h path how) done tree more a b z extra cause f g e = record {
  fault = λ x. rose_later a.faults b.faults z.faults (cause.fault x) f;
  missing = λ x. missing_later done.tree tree more path a.changes b.changes z.changes g (cause.missing x);
  big = λ x. big_more extra b.handed z.handed e (cause.big x);
}
cause_of_later _ done tree more a b z extra cause f g e = tt

later_cause_of : (asked : Call) (done : Record) (tree : List TreeEntry) (a b z : Outside) → a.faults ≤ b.faults → a.changes ≤ b.changes → CauseOf asked done tree b z → CauseOf asked done tree a z
later_cause_of (call.Open h path how) done tree a b z f g cause = record {
  fault = λ x. later_rose a.faults b.faults z.faults f (cause.fault x);
  missing = λ x. later_missing a.changes b.changes z.changes g (cause.missing x);
  big = cause.big;
}
later_cause_of _ done tree a b z f g cause = tt

handed_twice : (extra more a b z : List (Fingerprint × List ℕ)) → b ≡ more ++ a → z ≡ extra ++ b → z ≡ (extra ++ more) ++ a
handed_twice extra more a b z e f = f ∙ ap (λ l. extra ++ l) e ∙ sym (append_assoc extra more a)

-- a cause stays one when the counts rise further, more is handed out and the tree grows
cause_later : (asked : Call) (done : Record) (tree more : List TreeEntry) (a b z : Outside) (extra : List (Fingerprint × List ℕ)) → HasRemoteCause asked done tree a b → b.faults ≤ z.faults → b.changes ≤ z.changes → z.handed ≡ extra ++ b.handed
    → HasRemoteCause asked done (tree ++ more) a z
cause_later asked done tree more a b z extra h f g e = record {
  faults = omega (arith, h.faults, f);
  changes = omega (arith, h.changes, g);
  more = extra ++ h.more;
  handed = handed_twice extra h.more a.handed b.handed z.handed h.handed e;
  cause = cause_of_later asked done tree more a b z extra h.cause f g e;
}

-- and when they rose before
pub later_cause : (asked : Call) (done : Record) (tree : List TreeEntry) (a b z : Outside) (more : List (Fingerprint × List ℕ)) → a.faults ≤ b.faults → a.changes ≤ b.changes → b.handed ≡ more ++ a.handed → HasRemoteCause asked done tree b z
    → HasRemoteCause asked done tree a z
later_cause asked done tree a b z more f g e h = record {
  faults = omega (arith, h.faults, f);
  changes = omega (arith, h.changes, g);
  more = h.more ++ more;
  handed = handed_twice h.more more a.handed b.handed z.handed e h.handed;
  cause = later_cause_of asked done tree a b z f g h.cause;
}

pub causes_later : (served : List Served) (tree more : List TreeEntry) (a b z : Outside) (extra : List (Fingerprint × List ℕ)) → AllByRecursion (λ (d : Served). HasRemoteCause d.line.call d.done tree a b) served → b.faults ≤ z.faults → b.changes ≤ z.changes
    → z.handed ≡ extra ++ b.handed → AllByRecursion (λ (d : Served). HasRemoteCause d.line.call d.done (tree ++ more) a z) served
causes_later [] tree more a b z extra h f g e = tt
causes_later (d ∷ served) tree more a b z extra h f g e = (cause_later d.line.call d.done tree more a b z extra h.0 f g e, causes_later served tree more a b z extra h.1 f g e)

pub lines_more : (e : Event) (older : List Event) (line : Line) (left lines : List Line) → line_of e ≡ line → map line_of (reverse older) ++ line ∷ left ≡ lines → map line_of (reverse (e ∷ older)) ++ left ≡ lines
lines_more e older line left lines is asked = grind (arith, common_steps, is, asked)

-- why an open is refused for the disk, when its counts rose before and rise further
open_cause_later : (x y x' y' : ℕ) (r : Reply) (step : Step) → x' ≤ x → y ≤ y' → IsOpenCause x y r step → IsOpenCause x' y' r step
open_cause_later x y x' y' r step f g cause = λ e. rose_or_file (cause e)
  where
    rose_or_file : Rose x y ⊎ ((item : ℕ) × Rose (item_in step.before item).slot.faults (item_in step.after item).slot.faults)
        → Rose x' y' ⊎ ((item : ℕ) × Rose (item_in step.before item).slot.faults (item_in step.after item).slot.faults)
    rose_or_file (inl h) = inl (later_rose x' x y' f (rose_later x y y' h g))
    rose_or_file (inr h) = inr h

touches_later : (plan : Plan) (x y x' y' : ℕ) (c : Call) (done : Record) (step : Step) → x' ≤ x → y ≤ y' → Touches plan x y c done step → Touches plan x' y' c done step
touches_later plan x y x' y' (call.Open h path how) done step f g t = open_cause_later x y x' y' done.reply step f g t
touches_later plan x y x' y' (call.Read h pos len) done step f g t = t
touches_later plan x y x' y' (call.Write h pos payload) done step f g t = t
touches_later plan x y x' y' (call.Size h size) done step f g t = t
touches_later plan x y x' y' (call.Close h) done step f g t = tt
touches_later plan x y x' y' (call.Stat path) done step f g t = tt
touches_later plan x y x' y' (call.List path) done step f g t = tt
touches_later plan x y x' y' (call.MakeDir path) done step f g t = tt
touches_later plan x y x' y' (call.RemoveDir path) done step f g t = tt
touches_later plan x y x' y' (call.Unlink path) done step f g t = tt
touches_later plan x y x' y' (call.Rename from to) done step f g t = tt

-- the causes of an upload stay, where the histories were full for it
pub sends_full : (kept store tells : Type 0) (by : By) (full full' : Type 0) (was is : Item) (o o' : Outside) (ended : Ended) → (full → full') → Sends kept store tells by full was is o o' ended → Sends kept store tells by full' was is o o' ended
sends_full kept store tells by full full' was is o o' ended so x = record {
  enters = x.enters;
  dirty = x.dirty;
  owed = x.owed;
  uploads = x.uploads;
  unsaved = x.unsaved;
  hands = x.hands;
  uncalled = x.uncalled;
  causes = x.causes;
  full_cause = λ e. either (x.full_cause e);
  whole = x.whole;
  later = x.later;
  same = x.same;
  has_same = x.has_same;
} where
  either : IsFull was 2 ⊎ full → IsFull was 2 ⊎ full'
  either (inl h) = inl h
  either (inr h) = inr (so h)

full_more : (limit : ℕ) (by : By) (tree more : List TreeEntry) → WasFullFor limit by tree → WasFullFor limit by (tree ++ more)
full_more limit by tree more w = let same = take_front tree more w.n w.inside in record {
  n = w.n;
  inside = omega (arith, w.inside, length-append tree more);
  no_later = subst (AllByRecursion (λ (e : TreeEntry). e.by.who.phase ≤ by.who.phase)) (sym same) w.no_later;
  full = subst (λ l. free_places limit l < 1) (sym same) w.full;
}

pub full_now : (limit : ℕ) (by : By) (tree more : List TreeEntry) → AllByRecursion (λ (e : TreeEntry). e.by.who.phase ≤ by.who.phase) tree → free_places limit tree < 1 → WasFullFor limit by (tree ++ more)
full_now limit by tree more later full = let same = take-append_seam tree more in record {
  n = length tree;
  inside = omega (arith, length-append tree more);
  no_later = subst (AllByRecursion (λ (e : TreeEntry). e.by.who.phase ≤ by.who.phase)) (sym same) later;
  full = subst (λ l. free_places limit l < 1) (sym same) full;
}

-- what an upload did is told of a longer history of the tree too
pub sends_more : (kept tells : Type 0) (limit : ℕ) (tree more : List TreeEntry) (by : By) (u : Upload) (before after : List Item) → SendsFile kept tells limit tree by u before after → SendsFile kept tells limit (tree ++ more) by u before after
sends_more kept tells limit tree more by u before after p = record {
  inside = p.inside;
  one = p.one;
  path = p.path;
  sends = sends_full kept tells tells by (WasFullFor limit by tree) (WasFullFor limit by (tree ++ more)) (item_in before u.item) (item_in after u.item) u.old u.new u.ended (full_more limit by tree more) p.sends;
}

pub steps_later : (sends sends' : By → Upload → List Item → List Item → Type 0) → ((by : By) (u : Upload) (before after : List Item) → sends by u before after → sends' by u before after)
    → (plan : Plan) (x y x' y' : ℕ) (left : List Item) (deeds : List Deed) (steps : List Step) → x' ≤ x → y ≤ y' → AreSteps sends plan x y left deeds steps → AreSteps sends' plan x' y' left deeds steps
steps_later sends sends' so plan x y x' y' left [] [] f g s = s
steps_later sends sends' so plan x y x' y' left [] (step ∷ earlier) f g s = absurd s
steps_later sends sends' so plan x y x' y' left (Serving d ∷ older) [] f g s = absurd s
steps_later sends sends' so plan x y x' y' left (Serving d ∷ older) (step ∷ earlier) f g s =
    (s.0, s.1, touches_later plan x y x' y' d.line.call d.done step f g s.2, steps_later sends sends' so plan x y x' y' step.before older earlier f g s.3)
steps_later sends sends' so plan x y x' y' left (Sending by u ∷ older) steps f g s = (s.0, so by u s.0 left s.1, steps_later sends sends' so plan x y x' y' s.0 older steps f g s.2)

-- one call more was a step
steps_more : (sends sends' : By → Upload → List Item → List Item → Type 0) → ((by : By) (u : Upload) (before after : List Item) → sends by u before after → sends' by u before after)
    → (plan : Plan) (first x y : ℕ) (d : Served) (deeds : List Deed) (s t : State) → first ≤ x → x ≤ y → TakesStep plan x y d.line.call d.done s t
    → AreSteps sends plan first x s.items deeds (reverse s.steps) → AreSteps sends' plan first y t.items (Serving d ∷ deeds) (reverse t.steps)
steps_more sends sends' so plan first x y d deeds s t f g k steps =
    subst (λ l. AreSteps sends' plan first y t.items (Serving d ∷ deeds) l) (sym (ap reverse k.added ∙ reverse-append s.steps (step ∷ [])))
    (refl, k.placed, touches_later plan x y first y d.line.call d.done step f (omega arith) k.does, steps_later sends sends' so plan first x first y s.items deeds (reverse s.steps) (omega arith) g steps)
  where
    step : Step
    step = record { before = s.items; after = t.items }

-- and it entered in the queue what it was to enter
entered_more : (d : Served) (deeds : List Deed) (write_back : ℕ) (s t : State) → t.queue ≡ s.queue ++ queue_step s.terms.write_back d.by d.line.call d.done (record { before = s.items; after = t.items }) → s.terms.write_back ≡ write_back
    → t.steps ≡ s.steps ++ record { before = s.items; after = t.items } ∷ [] → s.queue ≡ queue_after write_back deeds (reverse s.steps) → t.queue ≡ queue_after write_back (Serving d ∷ deeds) (reverse t.steps)
entered_more d deeds write_back s t grew same added entered =
    grew ∙ ap (λ q. q ++ queue_step s.terms.write_back d.by d.line.call d.done step) entered ∙ ap (λ n. queue_after write_back deeds (reverse s.steps) ++ queue_step n d.by d.line.call d.done step) same
    ∙ ap (queue_after write_back (Serving d ∷ deeds)) (sym (ap reverse added ∙ reverse-append s.steps (step ∷ [])))
  where
    step : Step
    step = record { before = s.items; after = t.items }

-- the store is later, step by step
pub remote_twice : (a b c : Outside) → IsLaterRemote a b → IsLaterRemote b c → IsLaterRemote a c
remote_twice a b c p q = record {
  faults = omega (arith, p.faults, q.faults);
  changes = omega (arith, p.changes, q.changes);
  more = q.more ++ p.more;
  handed = handed_twice q.more p.more a.handed b.handed c.handed p.handed q.handed;
}

pub remote_same : (a : Outside) → IsLaterRemote a a
remote_same a = record { faults = omega arith; changes = omega arith; more = []; handed = refl }

pub within_later : (a b c : Outside) (deeds : List Deed) → IsLaterRemote b c → AreWithin a b deeds → AreWithin a c deeds
within_later a b c [] p w = tt
within_later a b c (Serving d ∷ older) p w = within_later a b c older p w
within_later a b c (Sending by u ∷ older) p w = (record { before = w.0.before; after = remote_twice u.new b c w.0.after p }, within_later a b c older p w.1)

pub within_before : (a b c : Outside) (deeds : List Deed) → IsLaterRemote a b → AreWithin b c deeds → AreWithin a c deeds
within_before a b c [] p w = tt
within_before a b c (Serving d ∷ older) p w = within_before a b c older p w
within_before a b c (Sending by u ∷ older) p w = (record { before = remote_twice a b u.old p w.0.before; after = w.0.after }, within_before a b c older p w.1)

-- none of the session's entries is the program's
none_mains : (by : By) (more : List TreeEntry) → by.who.actor ≡ Session 1 → AllByRecursion (λ (e : TreeEntry). e.by ≡ by) more → filter is_mains more ≡ []
none_mains by [] own made = refl
none_mains by (e ∷ more) own made = ap (λ b. cond b (e ∷ filter is_mains more) (filter is_mains more)) (ap (λ (b : By). is_main b.who.actor) made.0 ∙ ap is_main own) ∙ none_mains by more own made.1

stored_still : (by : By) (old more new : List TreeEntry) (stored : List TreeEntry) → by.who.actor ≡ Session 1 → AllByRecursion (λ (e : TreeEntry). e.by ≡ by) more → new ≡ old ++ more → filter is_mains old ≡ stored → filter is_mains new ≡ stored
stored_still by old more new stored own made is was = ap (filter is_mains) is ∙ filter-append is_mains old more ∙ ap (λ l. filter is_mains old ++ l) (none_mains by more own made) ∙ append-nil (filter is_mains old) ∙ was

-- a call more was made
pub call_made : (kept tells : Type 0) (run : Asked) (start : Around) (first : ℕ) (a b : Now) (lines left : List Line) (n : ℕ) (c : CallLine) (by : By) (events : List Event)
    → by ≡ maker_at (phase_after events) (moment_after first events) → AllByRecursion (λ (e : TreeEntry). e.by.who.phase ≤ by.who.phase) a.session.tree
    → IsGoing kept tells run start first lines (record { line = n; what = what.Call c } ∷ left) events (deeds_of events) a → (x : MakesCall kept tells run by c a b)
    → IsGoing kept tells run start first lines left (Called (record { by = by; line = c; done = x.done }) ∷ events) (deeds_of (Called (record { by = by; line = c; done = x.done }) ∷ events)) b
call_made kept tells run start first a b lines left n c by events maker past p x =
    let d : Served = record { by = by; line = c; done = x.done } in
    let e : line_of (Called d) ≡ record { line = n; what = what.Call c } = ap (λ n. record { line = n; what = what.Call c }) (sym p.can.0.0) in
    let grew = x.serves.grew in
    let more = x.serves.more in
    let rising : IsLaterRemote a.around.remote b.around.remote = record { faults = x.cause.faults; changes = x.cause.changes; more = x.cause.more; handed = x.cause.handed } in
    record {
      asked = lines_more (Called d) events (record { line = n; what = what.Call c }) left lines e p.asked;
      no_sooner = p.no_sooner;
      timely = (maker, p.timely);
      fits = x.serves.fits (calls_of events) p.fits;
      given = x.given;
      saved = x.saved;
      limit = x.serves.limit ∙ p.limit;
      terms = x.queue.0 ∙ p.terms;
      entered = entered_more d (deeds_of events) run.write_back a.session b.session x.queue.1 (ap (λ (t : QueueTerms). t.write_back) p.terms) x.step.added p.entered;
      causes = (
        later_cause c.call x.done b.session.tree start.remote a.around.remote b.around.remote p.remote.more p.remote.faults p.remote.changes p.remote.handed x.cause,
        subst (λ tree. AllByRecursion (λ (d : Served). HasRemoteCause d.line.call d.done tree start.remote b.around.remote) (calls_of events)) (sym grew)
            (causes_later (calls_of events) a.session.tree more start.remote a.around.remote b.around.remote x.cause.more p.causes x.cause.faults x.cause.changes x.cause.handed),
      );
      steps = steps_more (SendsFile kept tells history_limit a.session.tree) (SendsFile kept tells history_limit b.session.tree)
          (λ by u before after s. subst (λ tree. SendsFile kept tells history_limit tree by u before after) (sym grew) (sends_more kept tells history_limit a.session.tree more by u before after s))
          run.plan start.disk.faults a.around.disk.faults b.around.disk.faults d (deeds_of events) a.session b.session p.disk_faults x.disk x.step p.steps;
      sent = within_later start.remote a.around.remote b.around.remote (deeds_of events) rising p.sent;
      stored = stored_still by a.session.tree more b.session.tree (stored_by (deeds_of events)) (ap (λ (b : By). b.who.actor) maker) x.serves.made grew p.stored;
      ticked = subst (λ l. AreTicked run.write_back events (drop 1 l)) (sym (ap reverse x.step.added ∙ reverse-append a.session.steps (record { before = a.session.items; after = b.session.items } ∷ []))) p.ticked;
      ordered = subst (IsByPhase tree_phase) (sym grew) (by_phase_append tree_phase by.who.phase a.session.tree more p.ordered past
          (all_mono (λ (e : TreeEntry). e.by ≡ by) (λ (e : TreeEntry). tree_phase e ≡ by.who.phase) (λ e q. ap (λ (b : By). b.who.phase) q) more x.serves.made));
      disk_faults = omega (arith, p.disk_faults, x.disk);
      remote = remote_twice start.remote a.around.remote b.around.remote p.remote rising;
      can = p.can.1;
      room = omega (arith, p.room, x.room);
      few = omega (arith, p.few);
    }
