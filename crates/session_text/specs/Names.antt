-- How the small words of an entry are written: who made it, what a fingerprint and a payload are.
use Rattle.std.specs.Prelude.{ℕ, Bool, true, false, ◌++◌, List, codes, decimal, Option, Some, None}
use Rattle.hex.specs.Hex.{encode_lower}
use Rattle.session_script.specs.Words.{counted}
use Rattle.vfs_names.specs.Fingerprint.{print_text}
use Rattle.vfs_names.specs.declared.who.Actor.{Actor}
use Rattle.vfs_names.specs.declared.who.Actor.TheVariants.{Main, Session, Worker}
use Rattle.vfs_names.specs.declared.fingerprint.Fingerprint.{Fingerprint}
use Rattle.vfs_names.specs.declared.payload.Payload.{Payload}
use Rattle.vfs_names.specs.declared.payload.Payload.TheVariants.{Bytes, Fill, Pattern}

-- the program is `m`, a session `s` and a worker `w` with its number
abbrev pub who_text : Actor → List ℕ
who_text Main = codes "m"
who_text (Session n) = codes "s" ++ decimal n
who_text (Worker n) = codes "w" ++ decimal n

-- whether something waits for its upload
abbrev pub dirty_text : Bool → List ℕ
dirty_text true = codes "dirty"
dirty_text false = codes "clean"

-- a fingerprint that may be missing
abbrev pub base_text : Option Fingerprint → List ℕ
base_text None = codes "-"
base_text (Some print) = print_text print

-- bytes are written as digits, two a byte; the others by what makes them
abbrev pub payload_text : Payload → List ℕ
payload_text (Bytes bytes) = codes "hex:" ++ encode_lower bytes
payload_text (Fill byte len) = codes "fill:" ++ counted byte len
payload_text (Pattern seed len) = codes "pat:" ++ counted seed len
