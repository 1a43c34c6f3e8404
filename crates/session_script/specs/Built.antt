-- Which lines the program can do.
use Rattle.std.specs.Prelude.{ℕ, ◌==◌, ◌&&◌, Bool, true, false, not, List}
use Rattle.std.specs.List.{list_any}
use Rattle.vfs_names.specs.declared.calls.Access.{Access}
use Rattle.vfs_names.specs.declared.calls.Access.TheVariants as access
use Rattle.vfs_names.specs.declared.calls.How.{How}
use Rattle.session_script.specs.declared.call.Call.{Call}
use Rattle.session_script.specs.declared.call.Call.TheVariants as call
use Rattle.session_script.specs.declared.call.What.{What}
use Rattle.session_script.specs.declared.call.What.TheVariants as what

abbrev pub may_read : Access → Bool
may_read access.Read = true
may_read access.Write = false
may_read access.Both = true

-- a file is opened to be read, or to be read and written, and maybe made where there is none
abbrev pub is_plain_open : How → Bool
is_plain_open how = may_read how.access && not how.excl && not how.trunc && not how.append

-- the path has one name
abbrev pub is_one_name : List ℕ → Bool
is_one_name path = not (list_any (λ byte. byte == 47) path)

abbrev pub is_built_call : Call → Bool
is_built_call (call.Open h path how) = is_plain_open how && is_one_name path
is_built_call (call.Read h pos len) = true
is_built_call (call.Write h pos payload) = true
is_built_call (call.Size h size) = true
is_built_call (call.Close h) = true
is_built_call (call.Stat path) = false
is_built_call (call.List path) = false
is_built_call (call.MakeDir path) = false
is_built_call (call.RemoveDir path) = false
is_built_call (call.Unlink path) = false
is_built_call (call.Rename from to) = false

-- the program can do what a line asks for: so far the first session's calls on files of one name each, the
-- end of a phase, moving the clock, and the uploads that are due
abbrev pub is_built : What → Bool
is_built (what.Call c) = c.session == 1 && is_built_call c.call
is_built (what.Advance ms) = true
is_built what.Tick = true
is_built what.Clean = false
is_built what.Poll = false
is_built what.Join = true
is_built what.Restart = false
