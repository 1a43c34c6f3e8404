-- What the lines of a script did, and in which phase. Phases are numbered from 1.
use Rattle.std.specs.Prelude.{◌≡◌, ◌≤◌, ℕ, ◌+◌, ◌^◌, min, Bool, false, true, not, drop, reverse, List, [], ◌∷◌}
use Rattle.std.specs.List.{count_by}
use Rattle.vfs_names.specs.declared.who.Actor.TheVariants.{Main, Session}
use Rattle.vfs_names.specs.declared.who.By.{By}
use Rattle.session_script.specs.declared.call.Line.{Line}
use Rattle.session_script.specs.declared.call.What.{What}
use Rattle.session_script.specs.declared.call.What.TheVariants as what
use Rattle.session_text.specs.declared.reply.Record.{Record}
use Rattle.session_text.specs.declared.shown.Shown.{Shown}
use Rattle.session_text.specs.declared.shown.Shown.TheVariants as shown
use Rattle.item_upload.specs.Whole.{is_saved}
use Rattle.writeback_queue.specs.Legal.{IsNothingDue}
use Rattle.one_session.specs.Served.{Served}
use Rattle.one_session.specs.State.{Step}
use Rattle.one_session.specs.Steps.{Deed, Serving, Sending, Upload, queue_after}
use Rattle.vfs_top.specs.declared.phase.Pause.{Pause}
use Rattle.vfs_top.specs.declared.phase.Pause.TheVariants.{Join, Advance}

-- A call was served; or the line with this number ended the phase so, and the next one began at this moment; or it ended the
-- phase and had the files uploaded that were due at this moment, the newest upload first, to the end or not.
pub data Event : Type 0 where
  Called : Served → Event
  Paused : ℕ → Pause → ℕ → Event
  Ticked : ℕ → ℕ → List Upload → Bool → Event

-- what a line asked for that ended a phase so
abbrev pub asked_of : Pause → What
asked_of Join = what.Join
asked_of (Advance ms) = what.Advance ms

-- the line of the script that asked for it
abbrev pub line_of : Event → Line
line_of (Called d) = record { line = d.line.line; what = what.Call d.line }
line_of (Paused n pause moment) = record { line = n; what = asked_of pause }
line_of (Ticked n moment uploads whole) = record { line = n; what = what.Tick }

-- what line n showed, after which the clock told this moment
abbrev pub pause_shown : ℕ → Pause → ℕ → Shown
pause_shown n Join moment = shown.Joined n
pause_shown n (Advance ms) moment = shown.Advanced n moment

-- how many of some uploads saved their file, and how many didn't
abbrev pub saved_in : List Upload → ℕ
saved_in uploads = count_by (λ (u : Upload). is_saved u.ended) uploads

abbrev pub failed_in : List Upload → ℕ
failed_in uploads = count_by (λ (u : Upload). not (is_saved u.ended)) uploads

-- what the line showed
abbrev pub shown_of : Event → Shown
shown_of (Called d) = shown.Replied d.done
shown_of (Paused n pause moment) = pause_shown n pause moment
shown_of (Ticked n moment uploads whole) = shown.Ticked n (saved_in uploads) (failed_in uploads)

-- From one phase to the next the clock doesn't go back, and it is moved by what is asked for, or as far as it goes. Moments
-- are in milliseconds.
abbrev pub Moves : Pause → ℕ → ℕ → Type 0
Moves Join old new = old ≤ new
Moves (Advance ms) old new = (old ≤ new) × (min (old + ms) (2 ^ 62) ≤ new)

abbrev pub record_of : Served → Record
record_of d = d.done

-- the calls among some events
abbrev pub calls_of : List Event → List Served
calls_of [] = []
calls_of (Called d ∷ older) = d ∷ calls_of older
calls_of (Paused n pause moment ∷ older) = calls_of older
calls_of (Ticked n moment uploads whole ∷ older) = calls_of older

-- The phase that is under way after some events, the newest first: the first one, or one more for each that ended. The
-- uploads of a line have a number of their own.
abbrev pub phase_after : List Event → ℕ
phase_after [] = 1
phase_after (Called d ∷ older) = phase_after older
phase_after (Paused n pause moment ∷ older) = phase_after older + 1
phase_after (Ticked n moment uploads whole ∷ older) = phase_after older + 2

-- its moment, where the first phase began at this one
abbrev pub moment_after : ℕ → List Event → ℕ
moment_after first [] = first
moment_after first (Called d ∷ older) = moment_after first older
moment_after first (Paused n pause moment ∷ older) = moment
moment_after first (Ticked n moment uploads whole ∷ older) = moment

-- who makes the entries of a call: the first session in a phase, at the phase's moment
abbrev pub maker_at : ℕ → ℕ → By
maker_at phase moment =
    record { who = record { epoch = 0; phase = phase; actor = Session 1 }; pass = 0; tree = false; now = moment }

-- who makes the entries of uploads: the program itself, in a number of their own, at their moment
abbrev pub main_at : ℕ → ℕ → By
main_at phase moment = record { who = record { epoch = 0; phase = phase; actor = Main }; pass = 0; tree = false; now = moment }

-- what was done in some events, and then these uploads by a maker
abbrev pub sendings : By → List Upload → List Deed → List Deed
sendings by [] older = older
sendings by (u ∷ uploads) older = Sending by u ∷ sendings by uploads older

abbrev pub deeds_of : List Event → List Deed
deeds_of [] = []
deeds_of (Called d ∷ older) = Serving d ∷ deeds_of older
deeds_of (Paused n pause moment ∷ older) = deeds_of older
deeds_of (Ticked n moment uploads whole ∷ older) = sendings (main_at (phase_after older + 1) moment) uploads (deeds_of older)

-- each call was made in the phase that was under way, at its moment, and the clock went on as was asked from phase to phase
abbrev pub AreTimely : ℕ → List Event → Type 0
AreTimely first [] = Unit {0}
AreTimely first (Called d ∷ older) =
    (d.by ≡ maker_at (phase_after older) (moment_after first older)) × AreTimely first older
AreTimely first (Paused n pause moment ∷ older) = Moves pause (moment_after first older) moment × AreTimely first older
AreTimely first (Ticked n moment uploads whole ∷ older) = (moment_after first older ≤ moment) × AreTimely first older

-- Once a line had the files uploaded that were due, to its end, no file that waits is due: by what was entered in the queue
-- till then. The steps of the calls are given newest first.
abbrev pub AreTicked : ℕ → List Event → List Step → Type 0
AreTicked write_back [] steps = Unit {0}
AreTicked write_back (Called d ∷ older) steps = AreTicked write_back older (drop 1 steps)
AreTicked write_back (Paused n pause moment ∷ older) steps = AreTicked write_back older steps
AreTicked write_back (Ticked n moment uploads whole ∷ older) steps =
    (whole ≡ true → IsNothingDue write_back (reverse (queue_after write_back (deeds_of (Ticked n moment uploads whole ∷ older)) steps)) moment)
    × AreTicked write_back older steps

-- and each came to its end
abbrev pub AreWhole : List Event → Type 0
AreWhole [] = Unit {0}
AreWhole (Called d ∷ older) = AreWhole older
AreWhole (Paused n pause moment ∷ older) = AreWhole older
AreWhole (Ticked n moment uploads whole ∷ older) = (whole ≡ true) × AreWhole older

-- the events before the phase that is under way, with the line that ended the one before it
abbrev pub earlier : List Event → List Event
earlier [] = []
earlier (Called d ∷ older) = earlier older
earlier (Paused n pause moment ∷ older) = Paused n pause moment ∷ older
earlier (Ticked n moment uploads whole ∷ older) = Ticked n moment uploads whole ∷ older

-- the events before the last phase in which something was done, be it its end
abbrev pub before_last : List Event → List Event
before_last [] = []
before_last (newest ∷ older) = earlier older
