-- What a run left that didn't come to its end.
use Rattle.std.proofs.Common.{◌≡◌, ◌⊎◌, ◌≤◌, ◌++◌, ◌∷◌, [], ℕ, List, Option, inl, inr, reverse, arith, refl, subst, sym}
use Rattle.std.specs.List.{AllByRecursion}
use Rattle.vfs_names.specs.declared.fingerprint.Fingerprint.{Fingerprint}
use Rattle.vfs_outside.specs.Causes.{AppendsFront}
use Rattle.vfs_outside.specs.Disk.{Disk}
use Rattle.vfs_outside.specs.Outside.{Outside}
use Rattle.vfs_outside.specs.declared.tree.TreeEntry.{TreeEntry}
use Rattle.run_words.specs.Words.{Asked}
use Rattle.session_script.specs.declared.call.Line.{Line}
use Rattle.one_session.specs.Causes.{HasRemoteCause}
use Rattle.one_session.specs.Served.{Served}
use Rattle.vfs_top.proofs.Going.{later_cause, steps_later, within_before}
use Rattle.vfs_top.proofs.Still.{empty_before, still_twice}
use Rattle.vfs_top.proofs.Texts.{none_written}
use Rattle.vfs_top.specs.Around.{Around, IsStill, around}
use Rattle.vfs_top.specs.Ended.{Breaks, BreaksStarted, DoesAll, DoesNothing, DoesSome, IsStop, StarvesStarted, Told, told}
use Rattle.vfs_top.specs.Epoch.{Epoch}
use Rattle.one_session.specs.Steps.{SendsFile}
use Rattle.vfs_top.specs.Event.{Event, calls_of, deeds_of}
use Rattle.vfs_top.specs.Phases.{DoesFront, IsEpoch, history_limit}
use Rattle.vfs_top.specs.Script.{IsReady}
use Rattle.vfs_top.specs.Stop.{stop_text}
use Rattle.vfs_top.specs.declared.stop.Stop.{Stop}
use Rattle.vfs_top.specs.declared.stop.Stop.TheVariants as stops

-- before anything was written
pub starved_stop : (kept tells : Type 0) (words : List (List ℕ)) (old new : Told) (epochs : List Epoch) → DoesNothing kept old.written new.written old.around new.around epochs → Breaks kept tells words old new epochs
starved_stop kept tells words old new epochs p = inl (record {
  stop = stops.NoMemory;
  cause = inl tt;
  text = subst (λ w. AppendsFront old.written w (stop_text stops.NoMemory)) (sym p.same) (none_written old.written (stop_text stops.NoMemory));
  none = p.none;
  still = p.still;
})

-- once the script was read
pub broken_run : (kept tells : Type 0) (words : List (List ℕ)) (old new : Told) (asked : Asked) (script : List Line) (epochs : List Epoch) → IsReady words old.left new.left asked script
    → BreaksStarted kept tells asked old.written new.written old.around new.around script epochs → Breaks kept tells words old new epochs
broken_run kept tells words old new asked script epochs r (inl p) = inl (record {
  stop = p.stop;
  cause = inr (record { asked = asked; script = script; ready = r; cause = p.cause });
  text = p.text;
  none = p.none;
  still = p.still;
})
broken_run kept tells words old new asked script epochs r (inr p) = inr (record { asked = asked; script = script; ready = r; some = p })

pub starved_run : (kept tells : Type 0) (words : List (List ℕ)) (old new : Told) (asked : Asked) (script : List Line) (epochs : List Epoch) → IsReady words old.left new.left asked script
    → StarvesStarted kept tells asked old.written new.written old.around new.around script epochs → Breaks kept tells words old new epochs
starved_run kept tells words old new asked script epochs r (inl p) = starved_stop kept tells words old new epochs p
starved_run kept tells words old new asked script epochs r (inr p) = broken_run kept tells words old new asked script epochs r p

-- however often the sink failed
stop_still : (kept : Type 0) (words : List (List ℕ)) (old : Told) (left : Option (List ℕ)) (source_faults : ℕ) (written : Option (List ℕ)) (a b : ℕ) (o : Around) (stop : Stop)
    → IsStop kept words old (told left source_faults written a o) stop → IsStop kept words old (told left source_faults written b o) stop
stop_still kept words old left source_faults written a b o stop (inl p) = inl p
stop_still kept words old left source_faults written a b o stop (inr p) = inr (record { asked = p.asked; script = p.script; ready = p.ready; cause = p.cause })

pub breaks_still : (kept tells : Type 0) (words : List (List ℕ)) (old : Told) (left : Option (List ℕ)) (source_faults : ℕ) (written : Option (List ℕ)) (a b : ℕ) (o : Around) (epochs : List Epoch)
    → Breaks kept tells words old (told left source_faults written a o) epochs → Breaks kept tells words old (told left source_faults written b o) epochs
breaks_still kept tells words old left source_faults written a b o epochs (inl p) = inl (record { stop = p.stop; cause = stop_still kept words old left source_faults written a b o p.stop p.cause; text = p.text; none = p.none; still = p.still })
breaks_still kept tells words old left source_faults written a b o epochs (inr p) = inr (record { asked = p.asked; script = p.script; ready = p.ready; some = p.some })

-- an epoch after the remote and the disk were attached, told from before
module _ (kept tells : Type 0) (run : Asked) (old mid new : Around) (moment : mid.moment ≡ old.moment) (more : List (Fingerprint × List ℕ)) (f : old.remote.faults ≤ mid.remote.faults)
    (g : old.remote.changes ≤ mid.remote.changes) (h : mid.remote.handed ≡ more ++ old.remote.handed) (d : old.disk.faults ≤ mid.disk.faults) (s : IsStill kept old.disk mid.disk) where
  causes_before : (served : List Served) (tree : List TreeEntry) → AllByRecursion (λ (d : Served). HasRemoteCause d.line.call d.done tree mid.remote new.remote) served → AllByRecursion (λ (d : Served). HasRemoteCause d.line.call d.done tree old.remote new.remote) served
  causes_before [] tree causes = tt
  causes_before (d ∷ served) tree causes = (later_cause d.line.call d.done tree old.remote mid.remote new.remote more f g h causes.0, causes_before served tree causes.1)

  epoch_before : (lines : List Line) (events : List Event) (e : Epoch) → IsEpoch kept tells run mid new lines events e → IsEpoch kept tells run old new lines events e
  epoch_before lines events e p = record {
    empty = λ k. empty_before old.disk mid.disk (s.told k) (p.empty k);
    asked = p.asked;
    first = p.first;
    no_sooner = omega (arith, moment, p.no_sooner);
    timely = p.timely;
    last = p.last;
    recorded = p.recorded;
    causes = causes_before (calls_of events) e.tree p.causes;
    left = p.left;
    made = p.made;
    steps = steps_later (SendsFile kept tells history_limit e.tree) (SendsFile kept tells history_limit e.tree) (λ by u before after s. s) run.plan mid.disk.faults new.disk.faults old.disk.faults new.disk.faults p.left (deeds_of events) (reverse e.steps) d (omega arith) p.steps;
    sent = within_before old.remote mid.remote new.remote (deeds_of events) (record { faults = f; changes = g; more = more; handed = h }) p.sent;
    stored = p.stored;
    ticked = p.ticked;
    matching = p.matching;
    whole = p.whole;
    phases = p.phases;
    entered = p.entered;
    queued = p.queued;
    back = p.back;
    images = p.images;
  }

  pub all_before : (written written' : Option (List ℕ)) (script : List Line) (epochs : List Epoch) → DoesAll kept tells run written written' mid new script epochs → DoesAll kept tells run written written' old new script epochs
  all_before written written' script epochs p = record { epoch = p.epoch; only = p.only; events = p.events; did = epoch_before script p.events p.epoch p.did; ended = p.ended; text = p.text }

  front_before : (script : List Line) (events : List Event) (e : Epoch) → DoesFront kept tells run mid new script events e → DoesFront kept tells run old new script events e
  front_before script events e p = record { lines = p.lines; others = p.others; front = p.front; did = epoch_before p.lines events e p.did }

  pub some_before : (written written' : Option (List ℕ)) (script : List Line) (epochs : List Epoch) → DoesSome kept tells run written written' mid new script epochs → DoesSome kept tells run written written' old new script epochs
  some_before written written' script epochs p = record { epoch = p.epoch; only = p.only; events = p.events; did = front_before script p.events p.epoch p.did; text = p.text; told = p.told }

  pub starved_before : (written written' : Option (List ℕ)) (script : List Line) (epochs : List Epoch) → DoesNothing kept written written' mid new epochs ⊎ DoesSome kept tells run written written' mid new script epochs → StarvesStarted kept tells run written written' old new script epochs
  starved_before written written' script epochs (inl p) = inl (record { none = p.none; same = p.same; still = still_twice kept old.disk mid.disk new.disk s p.still })
  starved_before written written' script epochs (inr p) = inr (inr (some_before written written' script epochs p))
