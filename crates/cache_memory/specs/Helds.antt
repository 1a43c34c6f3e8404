-- What a slot holds, in the words of the record that its file tells.
use Rattle.std.specs.Prelude.{◌++◌, List, reverse}
use Rattle.vfs_outside.specs.Slot.{Told}
use Rattle.vfs_outside.specs.declared.file_call.FileCall.{FileCall}
use Rattle.cache_memory.specs.declared.held.Held.{Held}

abbrev pub told_of : Held → Told
told_of held = record { first = reverse held.before.items; since = reverse held.since.items }

-- these calls were made too, in order
abbrev pub with_calls : List FileCall → Told → Told
with_calls calls t = record { first = t.first; since = reverse calls ++ t.since }
