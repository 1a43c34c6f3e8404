-- How the other lines are written: what each line of the script showed, the start and the end of an epoch, the queue.
use Rattle.std.specs.Prelude.{ℕ, ◌++◌, List, [], ◌∷◌, codes, decimal, Option, Some, None, Result, Ok, Err}
use Rattle.session_text.specs.Refusals.{refusal_text}
use Rattle.session_text.specs.Replies.{record_line}
use Rattle.session_text.specs.Words.{line}
use Rattle.session_text.specs.declared.shown.Shown.{Shown}
use Rattle.session_text.specs.declared.shown.Shown.TheVariants.{Replied, Advanced, Ticked, Cleaned, Polled, Joined, Restarted}
use Rattle.vfs_names.specs.declared.calls.QueueRow.{QueueRow}
use Rattle.vfs_names.specs.declared.refusal.Refusal.{Refusal}
use Rattle.vfs_names.specs.declared.who.SlotId.{SlotId}

-- the moment after the clock was moved, in milliseconds
abbrev pub advance_text : ℕ → ℕ → List ℕ
advance_text n now = line (decimal n ∷ codes "advance" ∷ decimal now ∷ [])

-- how many uploads saved their file, and how many didn't
abbrev pub tick_text : ℕ → ℕ → ℕ → List ℕ
tick_text n uploaded failed =
    line (decimal n ∷ codes "tick" ∷ codes "uploaded" ∷ decimal uploaded ∷ codes "failed" ∷ decimal failed ∷ [])

-- how many files were given up, and how many couldn't be
abbrev pub clean_text : ℕ → ℕ → ℕ → List ℕ
clean_text n evicted refused =
    line (decimal n ∷ codes "clean" ∷ codes "evicted" ∷ decimal evicted ∷ codes "refused" ∷ decimal refused ∷ [])

-- how many directories were forgotten, `off` where the remote doesn't poll, or why the poll was refused
abbrev pub poll_words : Result (Option ℕ) Refusal → List (List ℕ)
poll_words (Ok (Some forgot)) = codes "forgot" ∷ decimal forgot ∷ []
poll_words (Ok None) = codes "off" ∷ []
poll_words (Err why) = refusal_text why ∷ []

abbrev pub poll_text : ℕ → Result (Option ℕ) Refusal → List ℕ
poll_text n answer = line (decimal n ∷ codes "poll" ∷ poll_words answer)

abbrev pub join_text : ℕ → List ℕ
join_text n = line (decimal n ∷ codes "join" ∷ [])

abbrev pub restart_text : ℕ → List ℕ
restart_text n = line (decimal n ∷ codes "restart" ∷ [])

-- what a line of the script showed
abbrev pub shown_text : Shown → List ℕ
shown_text (Replied call) = record_line call
shown_text (Advanced n now) = advance_text n now
shown_text (Ticked n uploaded failed) = tick_text n uploaded failed
shown_text (Cleaned n evicted refused) = clean_text n evicted refused
shown_text (Polled n answer) = poll_text n answer
shown_text (Joined n) = join_text n
shown_text (Restarted n) = restart_text n

-- a slot that can't be used, and what is wrong with its metadata
abbrev pub damaged_text : SlotId → List ℕ → List ℕ
damaged_text slot field = line (codes "damaged" ∷ decimal slot.0 ∷ field ∷ [])

-- what a start found: how many files, how many of them wait for their upload, and how many slots are damaged
abbrev pub start_text : ℕ → ℕ → ℕ → List ℕ
start_text files queued damaged =
    line (codes "start" ∷ codes "files" ∷ decimal files ∷ codes "queued" ∷ decimal queued
    ∷ codes "damaged" ∷ decimal damaged ∷ [])

abbrev pub end_text : ℕ → List ℕ
end_text status = line (codes "end" ∷ decimal status ∷ [])

-- a file that waits for its upload: its number, when it is due, and how often its upload failed
abbrev pub queue_row_line : QueueRow → List ℕ
queue_row_line row = line (decimal row.item.0 ∷ decimal row.due ∷ decimal row.fails ∷ [])

abbrev pub queue_lines : List QueueRow → List ℕ
queue_lines [] = []
queue_lines (row ∷ rows) = queue_row_line row ++ queue_lines rows

-- the queue
abbrev pub queue_block : List QueueRow → List ℕ
queue_block rows = line (codes "queue" ∷ []) ++ queue_lines rows
