-- How a run ends.
use Rattle.std.specs.Prelude.{◌≡◌, ◌⊎◌, ℕ, ◌++◌, IsSome, Option, List, [], ◌∷◌, Result, OnOk}
use Rattle.std.specs.Io.KnownBytes.{Appends}
use Rattle.vfs_outside.specs.Causes.{AppendsFront, Rose}
use Rattle.vfs_outside.specs.Image.{meta_in}
use Rattle.vfs_outside.specs.Slot.{image}
use Rattle.run_words.specs.Words.{Asked}
use Rattle.session_script.specs.declared.call.Line.{Line}
use Rattle.session_text.specs.Lines.{end_text, start_text}
use Rattle.vfs_top.specs.Around.{Around, IsStill}
use Rattle.vfs_top.specs.Epoch.{Epoch}
use Rattle.vfs_top.specs.Event.{Event, AreWhole, before_last}
use Rattle.vfs_top.specs.Phases.{DoesFront, IsEpoch}
use Rattle.vfs_top.specs.Script.{IsReady}
use Rattle.vfs_top.specs.Stop.{Stops, no_memory_text, status_of, stop_text}
use Rattle.vfs_top.specs.Transcript.{end_block, shown_in, texts_of, transcript}
use Rattle.vfs_top.specs.Writing.{AppendsPast, Writes}
use Rattle.vfs_top.specs.declared.stop.Stop.{Stop}
use Rattle.vfs_top.specs.declared.stop.Stop.TheVariants as stops
use Rattle.vfs_top.specs.declared.write.Unwritten.{Unwritten}

-- what the things outside tell at a moment: what the source has left, what the sink holds, how often each of the two
-- failed, and what the others tell
pub record Told : Type 0 where
  pub left : Option (List ℕ)
  pub source_faults : ℕ
  pub written : Option (List ℕ)
  pub sink_faults : ℕ
  pub around : Around

abbrev pub told : Option (List ℕ) → ℕ → Option (List ℕ) → ℕ → Around → Told
told left source_faults written sink_faults around =
    record { left = left; source_faults = source_faults; written = written; sink_faults = sink_faults; around = around }

-- what is printed of a run that was asked for this, with one epoch, in which these events came about
abbrev pub printed : Asked → List Event → Epoch → List ℕ
printed run events e = transcript run.write_back ((shown_in events, e) ∷ [])

-- All lines were done in one epoch, each to its end, and the whole transcript was written.
pub record DoesAll (kept tells : Type 0) (run : Asked) (written written' : Option (List ℕ)) (old new : Around) (script : List Line) (epochs : List Epoch) : Type 0 where
  pub epoch : Epoch
  pub only : epochs ≡ epoch ∷ []
  pub events : List Event
  pub did : IsEpoch kept tells run old new script events epoch
  pub ended : AreWhole events
  pub text : Appends written written' (printed run events epoch)

-- nothing was done, or the start was written and all that was shown before the last phase in which something was done
abbrev pub WasTold : Option (List ℕ) → Option (List ℕ) → List Event → Type 0
WasTold written written' events = (events ≡ []) ⊎ AppendsPast written written' (start_text 0 0 0 ++ texts_of (before_last events))

-- A front of the lines was done, and a front of their transcript was written. A phase was begun only once all was written that
-- those before it showed.
pub record DoesSome (kept tells : Type 0) (run : Asked) (written written' : Option (List ℕ)) (old new : Around) (script : List Line) (epochs : List Epoch) : Type 0 where
  pub epoch : Epoch
  pub only : epochs ≡ epoch ∷ []
  pub events : List Event
  pub did : DoesFront kept tells run old new script events epoch
  pub text : AppendsFront written written' (printed run events epoch)
  pub told : WasTold written written' events

-- Once the start was written: what the lines showed was written, and the end, or not. Nothing was done in a phase before all
-- was written that those before it showed.
pub record RunsLines (kept tells : Type 0) (run : Asked) (written written' : Option (List ℕ)) (faults faults' : ℕ) (old new : Around) (script : List Line) (e : Epoch) (result : Result (Unit {0}) Unwritten) : Type 0 where
  pub events : List Event
  pub did : DoesFront kept tells run old new script events e
  pub all : OnOk result (IsEpoch kept tells run old new script events e)
  pub ended : OnOk result (AreWhole events)
  pub text : Writes written written' faults faults' (texts_of events ++ (end_block run.write_back e ++ end_text 0)) result
  pub told : AppendsPast written written' (texts_of (before_last events))

-- an epoch of these lines was run, and written or not
pub record RunsEpoch (kept tells : Type 0) (run : Asked) (written written' : Option (List ℕ)) (faults faults' : ℕ) (old new : Around) (script : List Line) (e : Epoch) (result : Result (Unit {0}) Unwritten) : Type 0 where
  pub events : List Event
  pub did : DoesFront kept tells run old new script events e
  pub all : OnOk result (IsEpoch kept tells run old new script events e)
  pub ended : OnOk result (AreWhole events)
  pub text : Writes written written' faults faults' (printed run events e) result
  pub told : WasTold written written' events

-- nothing was done or written
pub record DoesNothing (kept : Type 0) (written written' : Option (List ℕ)) (old new : Around) (epochs : List Epoch) : Type 0 where
  pub none : epochs ≡ []
  pub same : written' ≡ written
  pub still : IsStill kept old.disk new.disk

-- the words are those of a run, the source was read to its end, and its script was done
pub record Done (kept tells : Type 0) (words : List (List ℕ)) (old new : Told) (epochs : List Epoch) : Type 0 where
  pub asked : Asked
  pub script : List Line
  pub ready : IsReady words old.left new.left asked script
  pub all : DoesAll kept tells asked old.written new.written old.around new.around script epochs

-- why no line is done once the script was read: the remote or the disk couldn't be attached, or a slot has metadata
abbrev pub StartCause : Type 0 → Around → Around → Stop → Type 0
StartCause kept old new stops.Usage = ⊥
StartCause kept old new (stops.Refused n reason) = ⊥
StartCause kept old new stops.Source = ⊥
StartCause kept old new (stops.Limit what) = ⊥
StartCause kept old new stops.Remote = Rose old.remote.faults new.remote.faults
StartCause kept old new stops.Disk = Rose old.disk.faults new.disk.faults
StartCause kept old new stops.Slots = kept → (slot : ℕ) × IsSome (meta_in (image (old.disk.shelf slot).now))
StartCause kept old new stops.NoMemory = Unit {0}

-- the script was read, and then no line was done
pub record FailsToStart (kept : Type 0) (words : List (List ℕ)) (old new : Told) (stop : Stop) : Type 0 where
  pub asked : Asked
  pub script : List Line
  pub ready : IsReady words old.left new.left asked script
  pub cause : StartCause kept old.around new.around stop

-- why no call was run
abbrev pub IsStop : Type 0 → List (List ℕ) → Told → Told → Stop → Type 0
IsStop kept words old new stop = Stops words old.left new.left old.source_faults new.source_faults stop ⊎ FailsToStart kept words old new stop

-- no call was run, the reason was written, and the disk has what it had
pub record Stopped (kept : Type 0) (words : List (List ℕ)) (old new : Told) (status : ℕ) (epochs : List Epoch) : Type 0 where
  pub stop : Stop
  pub ends : status ≡ status_of stop
  pub cause : IsStop kept words old new stop
  pub text : Appends old.written new.written (stop_text stop)
  pub none : epochs ≡ []
  pub still : IsStill kept old.around.disk new.around.disk

-- a front of the reason why no call was run was written, and the disk has what it had
pub record BreaksStop (kept : Type 0) (words : List (List ℕ)) (old new : Told) (epochs : List Epoch) : Type 0 where
  pub stop : Stop
  pub cause : IsStop kept words old new stop
  pub text : AppendsFront old.written new.written (stop_text stop)
  pub none : epochs ≡ []
  pub still : IsStill kept old.around.disk new.around.disk

-- a front of the script was done, and a front of its transcript was written
pub record BreaksRun (kept tells : Type 0) (words : List (List ℕ)) (old new : Told) (epochs : List Epoch) : Type 0 where
  pub asked : Asked
  pub script : List Line
  pub ready : IsReady words old.left new.left asked script
  pub some : DoesSome kept tells asked old.written new.written old.around new.around script epochs

-- a front of what would have been written was written, and each reply in it stands in the epochs
abbrev pub Breaks : Type 0 → Type 0 → List (List ℕ) → Told → Told → List Epoch → Type 0
Breaks kept tells words old new epochs = BreaksStop kept words old new epochs ⊎ BreaksRun kept tells words old new epochs

-- the sink failed
pub record Broken (kept tells : Type 0) (words : List (List ℕ)) (old new : Told) (epochs : List Epoch) : Type 0 where
  pub rose : Rose old.sink_faults new.sink_faults
  pub front : Breaks kept tells words old new epochs

-- memory was wanting: behind what was written till then comes a front of the lines that say so
pub record Starved (kept tells : Type 0) (words : List (List ℕ)) (old new : Told) (epochs : List Epoch) : Type 0 where
  pub between : Option (List ℕ)
  pub front : Breaks kept tells words old (record new { written = between }) epochs
  pub text : AppendsFront between new.written no_memory_text

-- once the script was read, no line was done, and the reason was written
pub record DoesStop (kept : Type 0) (written written' : Option (List ℕ)) (old new : Around) (status : ℕ) (epochs : List Epoch) : Type 0 where
  pub stop : Stop
  pub ends : status ≡ status_of stop
  pub cause : StartCause kept old new stop
  pub text : Appends written written' (stop_text stop)
  pub none : epochs ≡ []
  pub still : IsStill kept old.disk new.disk

-- or a front of it
pub record BreaksStart (kept : Type 0) (written written' : Option (List ℕ)) (old new : Around) (epochs : List Epoch) : Type 0 where
  pub stop : Stop
  pub cause : StartCause kept old new stop
  pub text : AppendsFront written written' (stop_text stop)
  pub none : epochs ≡ []
  pub still : IsStill kept old.disk new.disk

-- a front of what would have been written was written, once the script was read
abbrev pub BreaksStarted : Type 0 → Type 0 → Asked → Option (List ℕ) → Option (List ℕ) → Around → Around → List Line → List Epoch → Type 0
BreaksStarted kept tells run written written' old new script epochs =
    BreaksStart kept written written' old new epochs ⊎ DoesSome kept tells run written written' old new script epochs

-- memory was wanting, once the script was read
abbrev pub StarvesStarted : Type 0 → Type 0 → Asked → Option (List ℕ) → Option (List ℕ) → Around → Around → List Line → List Epoch → Type 0
StarvesStarted kept tells run written written' old new script epochs =
    DoesNothing kept written written' old new epochs ⊎ BreaksStarted kept tells run written written' old new script epochs
