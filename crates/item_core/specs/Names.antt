-- A file's path and the moment of its last use. Beside a history stands a path for each Create, Adopt and Recovered, the newest first as well.
use Rattle.std.specs.Prelude.{ℕ, nat_le, if◌then◌else◌, Option, Some, None, List, [], ◌∷◌, drop}
use Rattle.item_core.specs.declared.entry.Entry.{Entry}
use Rattle.item_core.specs.declared.entry.FileKind.{FileKind}
use Rattle.item_core.specs.declared.entry.FileKind.TheVariants.{Create, Recovered, Adopt, Write, SetSize, Read, Opened, Closed, Rename}

-- the newest of the paths
abbrev pub newest : List (List ℕ) → Option (List ℕ)
newest [] = None
newest (path ∷ paths) = Some path

-- the paths that stood beside the history before an entry
abbrev pub names_before : FileKind → List (List ℕ) → List (List ℕ)
names_before Create names = drop 1 names
names_before (Adopt print) names = drop 1 names
names_before (Recovered size base_end dirty base) names = drop 1 names
names_before _ names = names

abbrev pub name_after : FileKind → List (List ℕ) → Option (List ℕ) → Option (List ℕ)
name_after Create names old = newest names
name_after (Adopt print) names old = newest names
name_after (Recovered size base_end dirty base) names old = newest names
name_after (Rename path) names old = Some path
name_after _ names old = old

-- the file's path: that of the last Rename, or the last of the paths, whichever stands later
abbrev pub name_of : List Entry → List (List ℕ) → Option (List ℕ)
name_of [] names = None
name_of (e ∷ older) names = name_after e.kind names (name_of older (names_before e.kind names))

-- the paths that stood beside the history after that many calls on the cache file
abbrev pub names_at : List Entry → ℕ → List (List ℕ) → List (List ℕ)
names_at [] calls names = names
names_at (e ∷ older) calls names = if nat_le e.at calls then names else names_at older calls (names_before e.kind names)

abbrev pub atime_after : FileKind → ℕ → ℕ → ℕ
atime_after Create now old = now
atime_after (Adopt print) now old = now
atime_after (Opened access) now old = now
atime_after (Read pos len) now old = now
atime_after (Write pos payload) now old = now
atime_after (SetSize n) now old = now
atime_after Closed now old = now
atime_after _ now old = old

-- the moment of the last use, or the one that was saved
abbrev pub atime_of : ℕ → List Entry → ℕ
atime_of saved [] = saved
atime_of saved (e ∷ older) = atime_after e.kind e.by.now (atime_of saved older)
