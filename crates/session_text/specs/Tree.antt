-- How the tree's history is written.
use Rattle.std.specs.Prelude.{ℕ, ◌+◌, ◌++◌, List, [], ◌∷◌, codes, decimal, map, Option, Some, None}
use Rattle.session_script.specs.Escape.{escape}
use Rattle.session_script.specs.Words.{path_word}
use Rattle.session_text.specs.Names.{who_text, dirty_text, base_text}
use Rattle.session_text.specs.Refusals.{refusal_text, verb_text}
use Rattle.session_text.specs.Words.{line}
use Rattle.vfs_names.specs.Fingerprint.{print_text}
use Rattle.vfs_outside.specs.declared.listing.Kind.{Kind}
use Rattle.vfs_outside.specs.declared.listing.Kind.TheVariants.{Dir, File}
use Rattle.vfs_outside.specs.declared.listing.Row.{Row}
use Rattle.vfs_outside.specs.declared.tree.TreeEntry.{TreeEntry}
use Rattle.vfs_outside.specs.declared.tree.TreeKind.{TreeKind}
use Rattle.vfs_outside.specs.declared.tree.TreeKind.TheVariants.{Kept, Listed, Opened, Created, Closed, Stored, Gone, Removed, Renamed, MadeDir, UnmadeDir, Polled, Forgot, DirectRead, Direct, Undirect, Asked, Refused}

-- a row of a listing of a remote: a directory's name, or a file's with its fingerprint
abbrev pub row_text_by : Kind → Row → List ℕ
row_text_by Dir row = codes "d:" ++ escape row.name
row_text_by File row = codes "f:" ++ escape row.name ++ codes ":" ++ print_text row.print

abbrev pub row_text : Row → List ℕ
row_text row = row_text_by row.kind row

-- how many directories a poll forgot, or `off` where the remote doesn't poll
abbrev pub forgot_text : Option ℕ → List ℕ
forgot_text None = codes "off"
forgot_text (Some n) = decimal n

-- what an entry of the tree says
abbrev pub tree_words : TreeKind → List (List ℕ)
tree_words (Kept path item dirty) = codes "kept" ∷ path_word path ∷ decimal item.0 ∷ dirty_text dirty ∷ []
tree_words (Listed dir listing) = codes "listed" ∷ path_word dir ∷ decimal listing.number ∷ map row_text listing.rows
tree_words (Opened path item print) = codes "opened" ∷ path_word path ∷ decimal item.0 ∷ base_text print ∷ []
tree_words (Created path item) = codes "created" ∷ path_word path ∷ decimal item.0 ∷ []
tree_words (Closed item dirty) = codes "closed" ∷ decimal item.0 ∷ dirty_text dirty ∷ []
tree_words (Stored path print) = codes "stored" ∷ path_word path ∷ print_text print ∷ []
tree_words (Gone path) = codes "gone" ∷ path_word path ∷ []
tree_words (Removed path) = codes "removed" ∷ path_word path ∷ []
tree_words (Renamed from to) = codes "renamed" ∷ path_word from ∷ path_word to ∷ []
tree_words (MadeDir dir) = codes "made" ∷ path_word dir ∷ []
tree_words (UnmadeDir dir) = codes "unmade" ∷ path_word dir ∷ []
tree_words (Polled forgot) = codes "polled" ∷ forgot_text forgot ∷ []
tree_words (Forgot dir) = codes "forgot" ∷ path_word dir ∷ []
tree_words (DirectRead path print) = codes "direct_read" ∷ path_word path ∷ print_text print ∷ []
tree_words (Direct path) = codes "direct" ∷ path_word path ∷ []
tree_words (Undirect path) = codes "undirect" ∷ path_word path ∷ []
tree_words (Asked verb path) = codes "asked" ∷ verb_text verb ∷ path_word path ∷ []
tree_words (Refused verb path why) = codes "refused" ∷ verb_text verb ∷ path_word path ∷ refusal_text why ∷ []

-- an entry with its index: who made it, when, and what it says
abbrev pub tree_entry_line : ℕ → TreeEntry → List ℕ
tree_entry_line index entry =
    line (decimal index ∷ who_text entry.by.who.actor ∷ decimal entry.by.now ∷ tree_words entry.kind)

-- the entries, the first of them with this index
abbrev pub tree_entry_lines : ℕ → List TreeEntry → List ℕ
tree_entry_lines index [] = []
tree_entry_lines index (entry ∷ entries) = tree_entry_line index entry ++ tree_entry_lines (index + 1) entries

-- the tree's history
abbrev pub tree_block : List TreeEntry → List ℕ
tree_block entries = line (codes "tree" ∷ []) ++ tree_entry_lines 0 entries
