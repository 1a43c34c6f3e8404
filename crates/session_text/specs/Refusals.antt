-- How refusals and the verbs that they name are written.
use Rattle.std.specs.Prelude.{ℕ, ◌++◌, List, codes}
use Rattle.vfs_names.specs.Fingerprint.{print_text}
use Rattle.vfs_names.specs.declared.refusal.Found.{Found}
use Rattle.vfs_names.specs.declared.refusal.Found.TheVariants.{Missing, Other, Changed}
use Rattle.vfs_names.specs.declared.refusal.Refusal.{Refusal}
use Rattle.vfs_names.specs.declared.refusal.Refusal.TheVariants.{NotFound, Exists, IsDir, NotDir, NotEmpty, BadHandle, NotReadable, NotWritable, TableFull, InUse, Unsupported, TooBig, RemoteFault, DiskFault, Stale, HistoryFull, NoMemory}
use Rattle.vfs_names.specs.declared.refusal.Verb.{Verb}
use Rattle.vfs_names.specs.declared.refusal.Verb.TheVariants.{Open, Read, Write, Size, Close, Stat, List as ListNames, MakeDir, RemoveDir, Unlink, Rename, Clean, Poll, Upload, Refresh}

abbrev pub verb_text : Verb → List ℕ
verb_text Open = codes "open"
verb_text Read = codes "read"
verb_text Write = codes "write"
verb_text Size = codes "size"
verb_text Close = codes "close"
verb_text Stat = codes "stat"
verb_text ListNames = codes "list"
verb_text MakeDir = codes "mkdir"
verb_text RemoveDir = codes "rmdir"
verb_text Unlink = codes "unlink"
verb_text Rename = codes "rename"
verb_text Clean = codes "clean"
verb_text Poll = codes "poll"
verb_text Upload = codes "upload"
verb_text Refresh = codes "vfs/refresh"

-- what stood where an object was looked for
abbrev pub found_text : Found → List ℕ
found_text Missing = codes "missing"
found_text (Other print) = print_text print
found_text Changed = codes "changed"

abbrev pub refusal_text : Refusal → List ℕ
refusal_text NotFound = codes "E1 not found"
refusal_text Exists = codes "E2 exists"
refusal_text IsDir = codes "E3 is a directory"
refusal_text NotDir = codes "E4 not a directory"
refusal_text NotEmpty = codes "E5 not empty"
refusal_text BadHandle = codes "E6 bad handle"
refusal_text NotReadable = codes "E7 not readable"
refusal_text NotWritable = codes "E8 not writable"
refusal_text TableFull = codes "E9 table full"
refusal_text InUse = codes "E10 in use"
refusal_text Unsupported = codes "E11 unsupported"
refusal_text TooBig = codes "E12 too big"
refusal_text RemoteFault = codes "E13 remote fault"
refusal_text DiskFault = codes "E14 disk fault"
refusal_text (Stale held found) = codes "E15 stale " ++ print_text held ++ codes " " ++ found_text found
refusal_text HistoryFull = codes "E16 history full"
refusal_text NoMemory = codes "E17 no memory"
