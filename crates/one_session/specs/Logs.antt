-- What is handed over at the end of an epoch.
use Rattle.one_session.specs.State.{History}
use Rattle.one_session.specs.declared.log.FileLog.{FileLog}

-- the history of a file that was handed over
abbrev pub history_of : FileLog → History
history_of file = record { entries = file.entries.items; names = file.names.items }
