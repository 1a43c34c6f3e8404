-- Why a line isn't in the language: the first of its words that doesn't fit.
use Rattle.std.specs.Prelude.{◌≡◌, ◌≢◌, ◌⊎◌, ℕ, ◌<◌, ◌≤◌, ◌^◌, ◌==◌, ◌&&◌, nat_le, Bool, true, false, slice_index, List, [], ◌∷◌, decimal}
use Rattle.std.specs.Str.{IsUtf8}
use Rattle.vfs_names.specs.declared.payload.Payload.{Payload}
use Rattle.vfs_names.specs.declared.calls.Access.{Access}
use Rattle.vfs_names.specs.declared.calls.How.{How}
use Rattle.session_script.specs.declared.verb.Verb.{Verb}
use Rattle.session_script.specs.declared.verb.Verb.TheVariants as verb
use Rattle.session_script.specs.declared.verb.Control.{Control}
use Rattle.session_script.specs.declared.verb.Control.TheVariants as control
use Rattle.session_script.specs.declared.why.Why.{Why}
use Rattle.session_script.specs.declared.why.Why.TheVariants as why
use Rattle.session_script.specs.declared.fault.Fault.{Fault}
use Rattle.session_script.specs.declared.fault.Fault.TheVariants.{Bad, NoMemory}
use Rattle.session_script.specs.Words.{words_of, has_gap, IsSession, session_word, IsPathWord, access_word, IsPayloadWord}
use Rattle.session_script.specs.Calls.{verb_word, control_word, flag_words, is_how, IsFileWord}

-- what a word stands for
pub data Place : Type 0 where
  handle : Place
  number : Place
  span : Place
  path : Place
  file : Place
  access : Place
  payload : Place

-- the word is one of its place; a span of time is at most 2^40 milliseconds
abbrev pub Fits : Place → List ℕ → Type 0
Fits handle word = (h : ℕ) × (h < 256) × (word ≡ decimal h)
Fits number word = (n : ℕ) × (n < 2 ^ 64) × (word ≡ decimal n)
Fits span word = (ms : ℕ) × (ms ≤ 2 ^ 40) × (word ≡ decimal ms)
Fits path word = (p : List ℕ) × IsPathWord word p
Fits file word = (p : List ℕ) × IsFileWord word p
Fits access word = (a : Access) × (word ≡ access_word a)
Fits payload word = (p : Payload) × IsPayloadWord word p

abbrev pub why_of : Place → Why
why_of handle = why.Handle
why_of number = why.Number
why_of span = why.Number
why_of path = why.Path
why_of file = why.Path
why_of access = why.Access
why_of payload = why.Payload

-- the first place whose word doesn't fit, or is missing, gives the reason
abbrev pub IsMisfit : List Place → List (List ℕ) → Why → Type 0
IsMisfit [] words reason = ⊥
IsMisfit (place ∷ places) [] reason = reason ≡ why.Words
IsMisfit (place ∷ places) (word ∷ words) reason = (¬ (Fits place word) × (reason ≡ why_of place)) ⊎ (Fits place word × IsMisfit places words reason)

-- each place has its word, and more words follow
abbrev pub IsTooLong : List Place → List (List ℕ) → Type 0
IsTooLong [] words = words ≢ []
IsTooLong (place ∷ places) [] = ⊥
IsTooLong (place ∷ places) (word ∷ words) = Fits place word × IsTooLong places words

-- a word of these places is wrong or missing, or there are too many
abbrev pub IsFault : List Place → List (List ℕ) → Why → Type 0
IsFault places words reason = IsMisfit places words reason ⊎ (IsTooLong places words × (reason ≡ why.Words))

-- the places after a verb; the flags of an open follow its three
abbrev pub places_of : Verb → List Place
places_of verb.Open = handle ∷ file ∷ access ∷ []
places_of verb.Read = handle ∷ number ∷ number ∷ []
places_of verb.Write = handle ∷ number ∷ payload ∷ []
places_of verb.Size = handle ∷ number ∷ []
places_of verb.Close = handle ∷ []
places_of verb.Stat = path ∷ []
places_of verb.List = path ∷ []
places_of verb.MakeDir = file ∷ []
places_of verb.RemoveDir = file ∷ []
places_of verb.Unlink = file ∷ []
places_of verb.Rename = file ∷ file ∷ []

-- what follows the first three words of an open isn't its flags
abbrev pub HasBadFlags : List (List ℕ) → Type 0
HasBadFlags (h ∷ file_word ∷ access_of ∷ flags) = Fits handle h × Fits file file_word × ((a : Access) × (access_of ≡ access_word a) × ((how : How) → how.access ≡ a → is_how how ≡ true → flags ≢ flag_words how))
HasBadFlags words = ⊥

-- what is wrong with the words after a verb
abbrev pub IsArgumentFault : Verb → List (List ℕ) → Why → Type 0
IsArgumentFault verb.Open words reason = IsMisfit (places_of verb.Open) words reason ⊎ (HasBadFlags words × (reason ≡ why.Flag))
IsArgumentFault v words reason = IsFault (places_of v) words reason

-- what is wrong with the words after a session
abbrev pub IsCallFault : List (List ℕ) → Why → Type 0
IsCallFault [] reason = reason ≡ why.Words
IsCallFault (word ∷ words) reason = (((v : Verb) → word ≢ verb_word v) × (reason ≡ why.Verb)) ⊎ ((v : Verb) × (word ≡ verb_word v) × IsArgumentFault v words reason)

abbrev pub control_places : Control → List Place
control_places control.Advance = span ∷ []
control_places control.Tick = []
control_places control.Clean = []
control_places control.Poll = []
control_places control.Join = []
control_places control.Restart = []

-- the word begins with an `s` and a digit
abbrev pub begins_as_session : List ℕ → Bool
begins_as_session word = slice_index word 0 == 115 && nat_le 48 (slice_index word 1) && nat_le (slice_index word 1) 57

-- what is wrong with the words of a line
abbrev pub IsWordFault : List (List ℕ) → Why → Type 0
IsWordFault [] reason = reason ≡ why.Words
IsWordFault (first ∷ words) reason =
    ((s : ℕ) × IsSession s × (first ≡ session_word s) × IsCallFault words reason)
    ⊎ ((begins_as_session first ≡ true) × ((s : ℕ) → IsSession s → first ≢ session_word s) × (reason ≡ why.Session))
    ⊎ ((c : Control) × (first ≡ control_word c) × IsFault (control_places c) words reason)
    ⊎ ((begins_as_session first ≡ false) × ((c : Control) → first ≢ control_word c) × (reason ≡ why.Verb))

-- the line isn't in the language, and this is why: it isn't UTF-8, its spaces are wrong, or a word doesn't fit
abbrev pub IsBadLine : List ℕ → Why → Type 0
IsBadLine text reason =
    (¬ (IsUtf8 text) × (reason ≡ why.Utf8))
    ⊎ (IsUtf8 text × (has_gap (words_of text) ≡ true) × (reason ≡ why.Words))
    ⊎ (IsUtf8 text × (has_gap (words_of text) ≡ false) × IsWordFault (words_of text) reason)

-- the reason of a fault, where it is one of the line's, is such a one
abbrev pub By : (Why → Type 0) → Fault → Type 0
By P (Bad reason) = P reason
By P NoMemory = Unit {0}
