-- What is planned for a store in memory.
use Rattle.std.specs.Prelude.{◌≡◌, ◌<◌, ◌≤◌, ℕ, Bool, true, false, List}
use Rattle.remote_memory.specs.declared.script.Change.{Change}
use Rattle.remote_memory.specs.declared.script.Change.TheVariants.{Put, Delete}
use Rattle.remote_memory.specs.declared.script.RemoteCall.{RemoteCall}
use Rattle.remote_memory.specs.declared.script.RemoteCall.TheVariants as call

-- the path that a change is of
abbrev pub changed_path : Change → List ℕ
changed_path (Put path bytes mtime) = path
changed_path (Delete path) = path

-- a listing that gets its number raises the count of listings, and no other call moves it
abbrev pub CountsListing : RemoteCall → ℕ → ℕ → Bool → Type 0
CountsListing call.Attach old new done = new ≡ old
CountsListing call.List old new true = old < new
CountsListing call.List old new false = old ≤ new
CountsListing call.OpenObject old new done = new ≡ old
CountsListing call.Stage old new done = new ≡ old
CountsListing call.Append old new done = new ≡ old
CountsListing call.Commit old new done = new ≡ old
