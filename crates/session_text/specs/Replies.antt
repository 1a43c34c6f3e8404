-- How the answer of a call is written: the line's number, the reply, and where the call stands in the histories.
use Rattle.std.specs.Prelude.{ℕ, ◌++◌, List, [], ◌∷◌, codes, decimal, length, map, Option, Some, None}
use Rattle.hex.specs.Hex.{encode_lower}
use Rattle.session_script.specs.Escape.{escape}
use Rattle.session_text.specs.Refusals.{refusal_text}
use Rattle.session_text.specs.Words.{joined, line}
use Rattle.session_text.specs.declared.reply.Record.{Record}
use Rattle.session_text.specs.declared.reply.Reply.{Reply}
use Rattle.session_text.specs.declared.reply.Reply.TheVariants.{Done, Bytes, Wrote, Dir, File, Listed, Refused}
use Rattle.vfs_names.specs.declared.who.ItemId.{ItemId}
use Rattle.vfs_outside.specs.declared.listing.Kind.{Kind}
use Rattle.vfs_outside.specs.declared.listing.Kind.TheVariants.{Dir as Directory, File as Plain}
use Rattle.vfs_outside.specs.declared.listing.NameRow.{NameRow}

-- what stands before a name
abbrev pub mark_of : Kind → List ℕ
mark_of Directory = codes "d:"
mark_of Plain = codes "f:"

-- a name in an answer to `list`
abbrev pub name_text : NameRow → List ℕ
name_text row = mark_of row.kind ++ escape row.name

-- the bytes that a read gives: how many, and their digits where there are any
abbrev pub bytes_words : List ℕ → List (List ℕ)
bytes_words [] = codes "0" ∷ []
bytes_words (byte ∷ bytes) = decimal (length (byte ∷ bytes)) ∷ encode_lower (byte ∷ bytes) ∷ []

-- the names that a list gives: how many, and each
abbrev pub names_words : List NameRow → List (List ℕ)
names_words names = decimal (length names) ∷ map name_text names

abbrev pub reply_text : Reply → List ℕ
reply_text Done = codes "ok"
reply_text (Bytes bytes) = joined (codes "ok" ∷ bytes_words bytes)
reply_text (Wrote n) = joined (codes "ok" ∷ decimal n ∷ [])
reply_text Dir = codes "ok dir"
reply_text (File size) = joined (codes "ok" ∷ codes "file" ∷ decimal size ∷ [])
reply_text (Listed names) = joined (codes "ok" ∷ names_words names)
reply_text (Refused why) = refusal_text why

-- a place in the tree's history
abbrev pub tree_place : ℕ → List ℕ
tree_place place = codes "t" ++ decimal place

-- a file's number, and a place in its history
abbrev pub file_place : ItemId × ℕ → List ℕ
file_place file = codes "f" ++ decimal file.0.0 ++ codes ":" ++ decimal file.1

-- the places of the call's own entries, in brackets, the tree's first
abbrev pub places_text : Option ℕ → Option (ItemId × ℕ) → List ℕ
places_text None None = []
places_text (Some place) None = codes " [" ++ tree_place place ++ codes "]"
places_text None (Some file) = codes " [" ++ file_place file ++ codes "]"
places_text (Some place) (Some file) =
    codes " [" ++ tree_place place ++ codes " " ++ file_place file ++ codes "]"

abbrev pub record_line : Record → List ℕ
record_line call =
    line (decimal call.line ∷ (reply_text call.reply ++ places_text call.tree call.file) ∷ [])
