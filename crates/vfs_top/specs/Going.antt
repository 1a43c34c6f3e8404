-- How an epoch goes on from line to line.
use Rattle.std.specs.Prelude.{◌≡◌, ◌≤◌, ℕ, true, ◌+◌, ◌^◌, Option, List, [], ◌∷◌, ◌++◌, ◌*◌, drop, filter, length, map, reverse, Result, Ok, OnErr, OnOk}
use Rattle.std.specs.List.{AllByRecursion}
use Rattle.std.specs.Io.KnownBytes.{Appends}
use Rattle.vfs_names.specs.declared.who.By.{By}
use Rattle.vfs_outside.specs.Disk.{Disk}
use Rattle.vfs_outside.specs.Outside.{Outside}
use Rattle.vfs_outside.specs.declared.tree.TreeEntry.{TreeEntry}
use Rattle.writeback_queue.specs.Legal.{IsNothingDue}
use Rattle.run_words.specs.Words.{Asked}
use Rattle.session_script.specs.declared.call.CallLine.{CallLine}
use Rattle.session_script.specs.declared.call.Line.{Line}
use Rattle.session_script.specs.declared.call.What.{What}
use Rattle.session_script.specs.declared.call.What.TheVariants as what
use Rattle.session_text.specs.declared.reply.Record.{Record}
use Rattle.session_text.specs.declared.shown.Shown.TheVariants.{Replied}
use Rattle.session_text.specs.Lines.{shown_text}
use Rattle.one_session.specs.Causes.{AreGiven, AreSaved, HasRemoteCause}
use Rattle.one_session.specs.Served.{Fits, IsServable, Knows, Served, Serves}
use Rattle.one_session.specs.State.{State}
use Rattle.one_session.specs.Steps.{AreSteps, Deed, QueuesStep, SendsFile, TakesStep, Upload, queue_after}
use Rattle.one_session.specs.Views.{given_all}
use Rattle.one_session.specs.Whole.{IsUpTo}
use Rattle.vfs_top.specs.Around.{Around, around}
use Rattle.vfs_top.specs.Event.{Event, AreTicked, AreTimely, AreWhole, before_last, calls_of, deeds_of, earlier, line_of, failed_in, maker_at, moment_after, pause_shown, phase_after, saved_in, sendings, Moves}
use Rattle.vfs_top.specs.Phases.{AreWithin, IsByPhase, IsLaterRemote, history_limit, is_mains, stored_by, terms_of}
use Rattle.vfs_top.specs.Transcript.{shown_texts, texts_of}
use Rattle.vfs_top.specs.Writing.{AppendsPast, Writes}
use Rattle.vfs_top.specs.declared.phase.Pause.{Pause}
use Rattle.vfs_top.specs.declared.phase.Pause.TheVariants.{Join, Advance}
use Rattle.vfs_top.specs.declared.phase.Phase.{Phase}
use Rattle.vfs_top.specs.declared.tick.Ticked.{Ticked}
use Rattle.vfs_top.specs.declared.write.Unwritten.{Unwritten}

-- line n asks for a call that the first session can be served, or ends the phase and maybe moves the clock
abbrev pub CanDo : ℕ → What → Type 0
CanDo n (what.Call c) = (n ≡ c.line) × (c.session ≡ 1) × IsServable c.call
CanDo n (what.Advance ms) = Unit {0}
CanDo n what.Tick = Unit {0}
CanDo n what.Clean = ⊥
CanDo n what.Poll = ⊥
CanDo n what.Join = Unit {0}
CanDo n what.Restart = ⊥

abbrev pub CanDoAll : List Line → Type 0
CanDoAll [] = Unit {0}
CanDoAll (line ∷ lines) = CanDo line.line line.what × CanDoAll lines

-- there is no file yet, no call was made, and nothing was entered in the tree and the queue
pub record IsUntouched (s : State) : Type 0 where
  pub tree : s.tree ≡ []
  pub items : s.items ≡ []
  pub steps : s.steps ≡ []
  pub queue : s.queue ≡ []

-- what a run tells at a moment: its session, what the sink holds, how often it failed, and what the other things outside tell
pub record Now : Type 0 where
  pub session : State
  pub written : Option (List ℕ)
  pub faults : ℕ
  pub around : Around

abbrev pub now : State → Option (List ℕ) → ℕ → Around → Now
now session written faults around = record { session = session; written = written; faults = faults; around = around }

-- a call was served, and nothing was written
pub record MakesCall (kept tells : Type 0) (run : Asked) (by : By) (c : CallLine) (a b : Now) : Type 0 where
  pub done : Record
  pub serves : Serves 1 kept tells a.around.remote.handed b.around.remote.handed by c done a.session b.session
  pub cause : HasRemoteCause c.call done b.session.tree a.around.remote b.around.remote
  pub step : TakesStep run.plan a.around.disk.faults b.around.disk.faults c.call done a.session b.session
  pub queue : QueuesStep by c.call done a.session b.session
  pub disk : a.around.disk.faults ≤ b.around.disk.faults
  pub given : AreGiven tells b.around.remote.handed (given_all b.session.items)
  pub saved : AreSaved kept tells b.around.remote.handed b.session.files
  pub later : IsUpTo by b.session.files
  pub room : a.session.room ≤ b.session.room + 1
  pub written : b.written ≡ a.written
  pub faults : b.faults ≡ a.faults
  pub moment : b.around.moment ≡ a.around.moment

-- Line n ended a phase so. What its calls showed and the line's own text were written; where that was done the next phase
-- begins at the clock's answer.
pub record EndsPhase (n : ℕ) (pause : Pause) (p q : Phase) (a b : Now) (result : Result (Unit {0}) Unwritten) : Type 0 where
  pub text : Writes a.written b.written a.faults b.faults
      (shown_texts (map Replied (drop p.before a.session.records)) ++ shown_text (pause_shown n pause b.around.moment)) result
  pub by : OnOk result (q.by ≡ maker_at (p.by.who.phase + 1) b.around.moment)
  pub before : OnOk result (q.before ≡ length a.session.records)
  pub moment : Moves pause a.around.moment b.around.moment
  pub most : b.around.moment ≤ 2 ^ 62
  pub session : b.session ≡ a.session
  pub remote : b.around.remote ≡ a.around.remote
  pub disk : b.around.disk ≡ a.around.disk

-- An epoch so far: these events came about, the newest first, and in them these deeds, maybe some uploads more; some lines
-- are left, and there is room for their records.
pub record IsGoing (kept tells : Type 0) (run : Asked) (start : Around) (first : ℕ) (lines left : List Line) (events : List Event) (deeds : List Deed) (a : Now) : Type 0 where
  pub asked : map line_of (reverse events) ++ left ≡ lines
  pub no_sooner : start.moment ≤ first
  pub timely : AreTimely first events
  pub fits : Fits 1 (Knows kept tells a.around.remote.handed) (calls_of events) a.session
  pub given : AreGiven tells a.around.remote.handed (given_all a.session.items)
  pub saved : AreSaved kept tells a.around.remote.handed a.session.files
  pub limit : a.session.limit ≡ history_limit
  pub terms : a.session.terms ≡ terms_of run
  pub entered : a.session.queue ≡ queue_after run.write_back deeds (reverse a.session.steps)
  pub causes : AllByRecursion (λ (d : Served). HasRemoteCause d.line.call d.done a.session.tree start.remote a.around.remote) (calls_of events)
  pub steps : AreSteps (SendsFile kept tells history_limit a.session.tree) run.plan start.disk.faults a.around.disk.faults a.session.items deeds (reverse a.session.steps)
  pub sent : AreWithin start.remote a.around.remote deeds
  pub stored : filter is_mains a.session.tree ≡ stored_by deeds
  pub ticked : AreTicked run.write_back events (reverse a.session.steps)
  pub ordered : IsByPhase (λ (e : TreeEntry). e.by.who.phase) a.session.tree
  pub disk_faults : start.disk.faults ≤ a.around.disk.faults
  pub remote : IsLaterRemote start.remote a.around.remote
  pub can : CanDoAll left
  pub room : length left ≤ a.session.room
  pub few : phase_after events + 2 * length left ≤ 131073

-- no entry is of a later phase or moment than this
pub record IsPast (by : By) (s : State) : Type 0 where
  pub files : IsUpTo by s.files
  pub tree : AllByRecursion (λ (e : TreeEntry). e.by.who.phase ≤ by.who.phase) s.tree

-- what the phases before the one that is under way showed was written, and just their calls were made before it
pub record IsTold (written : Option (List ℕ)) (first : ℕ) (p : Phase) (events : List Event) (a : Now) : Type 0 where
  pub text : Appends written a.written (texts_of (earlier events))
  pub faults : first ≤ a.faults
  pub before : p.before ≡ length (calls_of (earlier events))
  pub inside : p.before ≤ length a.session.records

-- Both. The clock told the moment of the phase, of which nobody made entries later; and each line that had files uploaded
-- came to its end.
pub record IsUnderWay (kept tells : Type 0) (run : Asked) (start : Now) (lines left : List Line) (p : Phase) (a : Now) : Type 0 where
  pub events : List Event
  pub first : ℕ
  pub most : a.around.moment ≤ 2 ^ 62
  pub is_now : moment_after first events ≡ a.around.moment
  pub maker : p.by ≡ maker_at (phase_after events) (moment_after first events)
  pub past : IsPast p.by a.session
  pub whole : AreWhole events
  pub going : IsGoing kept tells run start.around first lines left events (deeds_of events) a
  pub told : IsTold start.written start.faults p events a

-- the lines were done, and what they showed was written; or a front of them, where not all that these showed was written
pub record HasGone (kept tells : Type 0) (run : Asked) (lines : List Line) (start a : Now) (result : Result (Unit {0}) Unwritten) : Type 0 where
  pub first : ℕ
  pub left : List Line
  pub events : List Event
  pub is_now : moment_after first events ≡ a.around.moment
  pub going : IsGoing kept tells run start.around first lines left events (deeds_of events) a
  pub all : OnOk result (left ≡ [])
  pub whole : OnOk result (AreWhole events)
  pub text : Writes start.written a.written start.faults a.faults (texts_of events) result
  pub most : AppendsPast start.written a.written (texts_of (before_last events))

-- Files that were due were uploaded by a maker, one after the other, as is counted; where that came to its end none is due any
-- more. However an epoch went till then, it goes on by these uploads.
pub record SendsDue (kept tells : Type 0) (run : Asked) (by : By) (s t : State) (o o' : Outside) (ticked : Ticked) : Type 0 where
  pub uploads : List Upload
  pub uploaded : ticked.uploaded ≡ saved_in uploads
  pub failed : ticked.failed ≡ failed_in uploads
  pub done : ticked.whole ≡ true → IsNothingDue run.write_back (reverse t.queue) by.now
  pub past : IsPast by t
  pub given : AreGiven tells o'.handed (given_all t.items)
  pub saved : AreSaved kept tells o'.handed t.files
  pub terms : t.terms ≡ s.terms
  pub records : t.records ≡ s.records
  pub count : length t.files ≡ length s.files
  pub goes : (start : Around) (first : ℕ) (lines left : List Line) (events : List Event) (deeds : List Deed) (written : Option (List ℕ)) (faults moment : ℕ) (disk : Disk)
      → IsGoing kept tells run start first lines left events deeds (now s written faults (around moment o disk))
      → IsGoing kept tells run start first lines left events (sendings by uploads deeds) (now t written faults (around moment o' disk))

-- A line that has the files uploaded that are due: however an epoch went till then, it goes on behind the line, or not all was
-- written that its lines showed.
abbrev pub TicksLine : Type 0 → Type 0 → Asked → ℕ → Phase → Phase → Now → Now → Result (Unit {0}) Unwritten → Type 0
TicksLine kept tells run n p q a b result = (start : Now) (lines left : List Line) → IsUnderWay kept tells run start lines (record { line = n; what = what.Tick } ∷ left) p a
    → OnOk result (IsUnderWay kept tells run start lines left q b) × OnErr result (HasGone kept tells run lines start b result)

-- what is asked for was done
abbrev pub DoesLine : Type 0 → Type 0 → Asked → ℕ → What → Phase → Phase → Now → Now → Result (Unit {0}) Unwritten → Type 0
DoesLine kept tells run n (what.Call c) p q a b result = MakesCall kept tells run p.by c a b × (q ≡ p) × (result ≡ Ok tt)
DoesLine kept tells run n (what.Advance ms) p q a b result = EndsPhase n (Advance ms) p q a b result
DoesLine kept tells run n what.Tick p q a b result = TicksLine kept tells run n p q a b result
DoesLine kept tells run n what.Clean p q a b result = ⊥
DoesLine kept tells run n what.Poll p q a b result = ⊥
DoesLine kept tells run n what.Join p q a b result = EndsPhase n Join p q a b result
DoesLine kept tells run n what.Restart p q a b result = ⊥
