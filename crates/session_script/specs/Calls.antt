-- What a line asks for, by its words.
use Rattle.std.specs.Prelude.{◌≡◌, ◌≢◌, ℕ, ◌<◌, ◌≤◌, ◌^◌, Bool, true, false, not, ◌&&◌, ◌||◌, List, [], ◌∷◌, ◌++◌, codes, decimal}
use Rattle.std.specs.Str.{IsUtf8}
use Rattle.vfs_names.specs.declared.calls.Access.{Access}
use Rattle.vfs_names.specs.declared.calls.Access.TheVariants as access
use Rattle.vfs_names.specs.declared.calls.How.{How}
use Rattle.session_script.specs.declared.verb.Verb.{Verb}
use Rattle.session_script.specs.declared.verb.Verb.TheVariants as verb
use Rattle.session_script.specs.declared.verb.Control.{Control}
use Rattle.session_script.specs.declared.verb.Control.TheVariants as control
use Rattle.session_script.specs.declared.call.Call.{Call}
use Rattle.session_script.specs.declared.call.Call.TheVariants as call
use Rattle.session_script.specs.declared.call.What.{What}
use Rattle.session_script.specs.declared.call.What.TheVariants as what
use Rattle.session_script.specs.Words.{words_of, has_gap, IsSession, session_word, IsPathWord, access_word, IsPayloadWord}

abbrev pub verb_word : Verb → List ℕ
verb_word verb.Open = codes "open"
verb_word verb.Read = codes "read"
verb_word verb.Write = codes "write"
verb_word verb.Size = codes "size"
verb_word verb.Close = codes "close"
verb_word verb.Stat = codes "stat"
verb_word verb.List = codes "list"
verb_word verb.MakeDir = codes "mkdir"
verb_word verb.RemoveDir = codes "rmdir"
verb_word verb.Unlink = codes "unlink"
verb_word verb.Rename = codes "rename"

abbrev pub control_word : Control → List ℕ
control_word control.Advance = codes "advance"
control_word control.Tick = codes "tick"
control_word control.Clean = codes "clean"
control_word control.Poll = codes "poll"
control_word control.Join = codes "join"
control_word control.Restart = codes "restart"

abbrev pub verb_of : Call → Verb
verb_of (call.Open h path how) = verb.Open
verb_of (call.Read h pos len) = verb.Read
verb_of (call.Write h pos payload) = verb.Write
verb_of (call.Size h size) = verb.Size
verb_of (call.Close h) = verb.Close
verb_of (call.Stat path) = verb.Stat
verb_of (call.List path) = verb.List
verb_of (call.MakeDir path) = verb.MakeDir
verb_of (call.RemoveDir path) = verb.RemoveDir
verb_of (call.Unlink path) = verb.Unlink
verb_of (call.Rename from to) = verb.Rename

-- a word that stands where b holds
abbrev pub word_if : Bool → List ℕ → List (List ℕ)
word_if true word = word ∷ []
word_if false word = []

-- the flags of an open, in this order
abbrev pub flag_words : How → List (List ℕ)
flag_words how = word_if how.create (codes "create") ++ word_if how.excl (codes "excl") ++ word_if how.trunc (codes "trunc") ++ word_if how.append (codes "append")

-- whether an access goes with flags
abbrev pub takes_flags : Access → Bool
takes_flags access.Read = false
takes_flags access.Write = true
takes_flags access.Both = true

-- a file that is opened for reading has no flag, and `excl` stands only with `create`
abbrev pub is_how : How → Bool
is_how how = (takes_flags how.access || not (how.create || how.excl || how.trunc || how.append)) && (how.create || not how.excl)

-- the path of a file: any but the root
abbrev pub IsFileWord : List ℕ → List ℕ → Type 0
IsFileWord word path = (path ≢ []) × IsPathWord word path

-- the words after the verb
abbrev pub AreArguments : List (List ℕ) → Call → Type 0
AreArguments words (call.Open h path how) = (h < 256) × (is_how how ≡ true) × (file : List ℕ) × IsFileWord file path × (words ≡ decimal h ∷ file ∷ access_word how.access ∷ flag_words how)
AreArguments words (call.Read h pos len) = (h < 256) × (pos < 2 ^ 64) × (len < 2 ^ 64) × (words ≡ decimal h ∷ decimal pos ∷ decimal len ∷ [])
AreArguments words (call.Write h pos payload) = (h < 256) × (pos < 2 ^ 64) × (bytes : List ℕ) × IsPayloadWord bytes payload × (words ≡ decimal h ∷ decimal pos ∷ bytes ∷ [])
AreArguments words (call.Size h size) = (h < 256) × (size < 2 ^ 64) × (words ≡ decimal h ∷ decimal size ∷ [])
AreArguments words (call.Close h) = (h < 256) × (words ≡ decimal h ∷ [])
AreArguments words (call.Stat path) = (word : List ℕ) × IsPathWord word path × (words ≡ word ∷ [])
AreArguments words (call.List path) = (word : List ℕ) × IsPathWord word path × (words ≡ word ∷ [])
AreArguments words (call.MakeDir path) = (word : List ℕ) × IsFileWord word path × (words ≡ word ∷ [])
AreArguments words (call.RemoveDir path) = (word : List ℕ) × IsFileWord word path × (words ≡ word ∷ [])
AreArguments words (call.Unlink path) = (word : List ℕ) × IsFileWord word path × (words ≡ word ∷ [])
AreArguments words (call.Rename from to) = (old new : List ℕ) × IsFileWord old from × IsFileWord new to × (words ≡ old ∷ new ∷ [])

-- the words of line n ask for this
abbrev pub Asks : ℕ → List (List ℕ) → What → Type 0
Asks n words (what.Call c) = (c.line ≡ n) × IsSession c.session × (arguments : List (List ℕ)) × AreArguments arguments c.call × (words ≡ session_word c.session ∷ verb_word (verb_of c.call) ∷ arguments)
Asks n words (what.Advance ms) = (ms ≤ 2 ^ 40) × (words ≡ control_word control.Advance ∷ decimal ms ∷ [])
Asks n words what.Tick = words ≡ control_word control.Tick ∷ []
Asks n words what.Clean = words ≡ control_word control.Clean ∷ []
Asks n words what.Poll = words ≡ control_word control.Poll ∷ []
Asks n words what.Join = words ≡ control_word control.Join ∷ []
Asks n words what.Restart = words ≡ control_word control.Restart ∷ []

-- line n, whose text this is, asks for this: it is UTF-8, its words are joined by single spaces, and they say so
pub record IsLine (n : ℕ) (text : List ℕ) (asked : What) : Type 0 where
  pub utf8 : IsUtf8 text
  pub spaces : has_gap (words_of text) ≡ false
  pub words : Asks n (words_of text) asked
