-- What is printed of a run that does all of its script, as its bytes.
use Rattle.std.specs.Prelude.{ℕ, ◌+◌, List, [], ◌∷◌, ◌++◌, map, reverse}
use Rattle.vfs_names.specs.declared.calls.QueueRow.{QueueRow}
use Rattle.item_core.specs.Names.{name_of}
use Rattle.session_text.specs.Entries.{file_block}
use Rattle.session_text.specs.Lines.{end_text, queue_block, shown_text, start_text}
use Rattle.session_text.specs.Tree.{tree_block}
use Rattle.session_text.specs.declared.shown.Shown.{Shown}
use Rattle.one_session.specs.Queued.{queue_of}
use Rattle.one_session.specs.State.{History}
use Rattle.vfs_top.specs.Epoch.{Epoch}
use Rattle.vfs_top.specs.Event.{Event, shown_of}

-- a file's history, with its number and the path that it has now
abbrev pub file_text : ℕ → History → List ℕ
file_text n file = file_block (record { 0 = n }) (name_of (reverse file.entries) (reverse file.names)) file.entries

-- the files' histories, the first of them with this number
abbrev pub file_texts : ℕ → List History → List ℕ
file_texts n [] = []
file_texts n (file ∷ files) = file_text n file ++ file_texts (n + 1) files

-- the histories and these rows of the queue
abbrev pub ending : Epoch → List QueueRow → List ℕ
ending e rows = tree_block e.tree ++ file_texts 0 e.files ++ queue_block rows

-- what is printed at an epoch's end: the histories, and the files that wait for an upload, by the write-back time in
-- milliseconds
abbrev pub end_block : ℕ → Epoch → List ℕ
end_block write_back e = ending e (queue_of write_back e.queue e.files)

-- what the lines of the script showed
abbrev pub shown_texts : List Shown → List ℕ
shown_texts [] = []
shown_texts (shown ∷ others) = shown_text shown ++ shown_texts others

-- of an epoch are printed its start, what its lines showed, and its end
abbrev pub epoch_text : ℕ → List Shown → Epoch → List ℕ
epoch_text write_back shown e = start_text 0 0 0 ++ shown_texts shown ++ end_block write_back e

-- the epochs, each with what its lines showed, and the last line
abbrev pub transcript : ℕ → List (List Shown × Epoch) → List ℕ
transcript write_back [] = end_text 0
transcript write_back (e ∷ es) = epoch_text write_back e.0 e.1 ++ transcript write_back es

-- what the lines of some events showed, the events being given newest first
abbrev pub shown_in : List Event → List Shown
shown_in events = map shown_of (reverse events)

abbrev pub texts_of : List Event → List ℕ
texts_of events = shown_texts (shown_in events)
