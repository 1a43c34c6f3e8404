-- The words of a line, and how the parts of a call are spelled. A text is its bytes.
use Rattle.std.specs.Prelude.{◌≡◌, ◌⊎◌, ℕ, ◌<◌, ◌≤◌, ◌^◌, ◌==◌, Bool, true, List, [], ◌∷◌, ◌++◌, length, codes, decimal, Option, None, Some}
use denote.Ref.{Bor}
use Rattle.std.specs.List.{slice_split, list_any}
use Rattle.std.specs.Str.{IsUtf8}
use Rattle.hex.specs.Hex.{encode_lower, IsBytes}
use Rattle.vfs_names.specs.Path.{is_path}
use Rattle.vfs_names.specs.declared.payload.Payload.{Payload}
use Rattle.vfs_names.specs.declared.payload.Payload.TheVariants.{Bytes, Fill, Pattern}
use Rattle.vfs_names.specs.declared.calls.Access.{Access}
use Rattle.vfs_names.specs.declared.calls.Access.TheVariants as access
use Rattle.session_script.specs.Escape.{escape}

-- what stands between the spaces of a line
abbrev pub words_of : List ℕ → List (List ℕ)
words_of text = slice_split (λ byte. byte == 32) text

-- two spaces stand together, or one at an end
abbrev pub has_gap : List (List ℕ) → Bool
has_gap words = list_any (λ word. length word == 0) words

-- sessions are s1 to s16
abbrev pub IsSession : ℕ → Type 0
IsSession s = (1 ≤ s) × (s ≤ 16)

abbrev pub session_word : ℕ → List ℕ
session_word s = 115 ∷ decimal s

-- the root is a slash alone, any other path is escaped
abbrev pub path_word : List ℕ → List ℕ
path_word [] = codes "/"
path_word (byte ∷ bytes) = escape (byte ∷ bytes)

pub record IsPathWord (word path : List ℕ) : Type 0 where
  pub utf8 : IsUtf8 path
  pub names : is_path path ≡ true
  pub spelled : word ≡ path_word path

abbrev pub access_word : Access → List ℕ
access_word access.Read = codes "r"
access_word access.Write = codes "w"
access_word access.Both = codes "rw"

-- a byte, and a length after a colon
abbrev pub counted : ℕ → ℕ → List ℕ
counted byte len = decimal byte ++ codes ":" ++ decimal len

-- bytes are spelled as escaped text or in hexadecimal digits; a byte so many times, or a pattern's seed, has its length
abbrev pub IsPayloadWord : List ℕ → Payload → Type 0
IsPayloadWord word (Bytes bytes) = (IsUtf8 bytes × (word ≡ codes "text:" ++ escape bytes)) ⊎ (IsBytes bytes × (word ≡ codes "hex:" ++ encode_lower bytes))
IsPayloadWord word (Fill byte len) = (byte < 256) × (len < 2 ^ 64) × (word ≡ codes "fill:" ++ counted byte len)
IsPayloadWord word (Pattern seed len) = (seed ≤ 250) × (len < 2 ^ 64) × (word ≡ codes "pat:" ++ counted seed len)

-- the words that are left of a line: those of what stands after the last space that was passed, if there was one
abbrev pub words_left : Option (Bor (List ℕ)) → List (List ℕ)
words_left None = []
words_left (Some text) = words_of text.now
