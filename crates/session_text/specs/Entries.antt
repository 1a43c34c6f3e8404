-- How a file's history is written.
use Rattle.std.specs.Prelude.{ℕ, ◌+◌, ◌++◌, List, [], ◌∷◌, codes, decimal, Option, Some, None}
use Rattle.item_core.specs.declared.entry.Dropped.{Dropped}
use Rattle.item_core.specs.declared.entry.Dropped.TheVariants.{Cancelled, Refused as Failed}
use Rattle.item_core.specs.declared.entry.Entry.{Entry}
use Rattle.item_core.specs.declared.entry.FileKind.{FileKind}
use Rattle.item_core.specs.declared.entry.FileKind.TheVariants.{Create, Recovered, Bind, Adopt, Write, SetSize, Read, Stat, Opened, Closed, Rename, UploadStart, Uploaded, UploadDropped, Evict, Discard, Refused}
use Rattle.session_script.specs.Words.{access_word, path_word}
use Rattle.session_text.specs.Names.{who_text, dirty_text, base_text, payload_text}
use Rattle.session_text.specs.Refusals.{refusal_text, verb_text}
use Rattle.session_text.specs.Words.{line}
use Rattle.vfs_names.specs.Fingerprint.{print_text}
use Rattle.vfs_names.specs.declared.who.ItemId.{ItemId}

-- why an upload ended without saving: the versions that differ, or the refusal
abbrev pub dropped_words : Dropped → List (List ℕ)
dropped_words (Cancelled was now) = codes "cancelled" ∷ decimal was ∷ decimal now ∷ []
dropped_words (Failed why) = refusal_text why ∷ []

-- what an entry says
abbrev pub kind_words : FileKind → List (List ℕ)
kind_words Create = codes "create" ∷ []
kind_words (Recovered size base_end dirty base) =
    codes "recovered" ∷ decimal size ∷ decimal base_end ∷ dirty_text dirty ∷ base_text base ∷ []
kind_words (Bind print) = codes "bind" ∷ print_text print ∷ []
kind_words (Adopt print) = codes "adopt" ∷ print_text print ∷ []
kind_words (Write pos payload) = codes "write" ∷ decimal pos ∷ payload_text payload ∷ []
kind_words (SetSize size) = codes "size" ∷ decimal size ∷ []
kind_words (Read pos len) = codes "read" ∷ decimal pos ∷ decimal len ∷ []
kind_words Stat = codes "stat" ∷ []
kind_words (Opened access) = codes "opened" ∷ access_word access ∷ []
kind_words Closed = codes "closed" ∷ []
kind_words (Rename path) = codes "rename" ∷ path_word path ∷ []
kind_words (UploadStart version) = codes "upload_start" ∷ decimal version ∷ []
kind_words (Uploaded start print) = codes "uploaded" ∷ decimal start ∷ print_text print ∷ []
kind_words (UploadDropped start why) = codes "upload_dropped" ∷ decimal start ∷ dropped_words why
kind_words Evict = codes "evict" ∷ []
kind_words Discard = codes "discard" ∷ []
kind_words (Refused verb why) = codes "refused" ∷ verb_text verb ∷ refusal_text why ∷ []

-- an entry with its index: who made it, when, after how many calls on the cache file, and what it says
abbrev pub entry_line : ℕ → Entry → List ℕ
entry_line index entry =
    line (decimal index ∷ who_text entry.by.who.actor ∷ decimal entry.by.now ∷ decimal entry.at ∷ kind_words entry.kind)

-- the entries, the first of them with this index
abbrev pub entry_lines : ℕ → List Entry → List ℕ
entry_lines index [] = []
entry_lines index (entry ∷ entries) = entry_line index entry ++ entry_lines (index + 1) entries

-- the path that a file has now, or `-` where it has none
abbrev pub place_text : Option (List ℕ) → List ℕ
place_text None = codes "-"
place_text (Some path) = path_word path

-- a file's history: its number, its path, and its entries
abbrev pub file_block : ItemId → Option (List ℕ) → List Entry → List ℕ
file_block item path entries =
    line (codes "file" ∷ decimal item.0 ∷ place_text path ∷ []) ++ entry_lines 0 entries
