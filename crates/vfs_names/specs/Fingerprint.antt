-- When two fingerprints are of one content, and how one is printed.
use Rattle.std.specs.Prelude.{◌≡◌, ℕ, ◌==◌, ◌&&◌, ◌++◌, Bool, true, List, codes, decimal}
use Rattle.vfs_names.specs.declared.fingerprint.Fingerprint.{Fingerprint}

-- the two are fingerprints of one content
abbrev pub agree : Fingerprint → Fingerprint → Bool
agree a b = a.size == b.size && a.mtime == b.mtime && a.rev == b.rev

abbrev pub Agree : Fingerprint → Fingerprint → Type 0
Agree a b = agree a b ≡ true

-- the text SIZE.MTIME.REV
abbrev pub print_text : Fingerprint → List ℕ
print_text print = decimal print.size ++ codes "." ++ decimal print.mtime ++ codes "." ++ decimal print.rev
