-- What writing a text says. What a sink holds is known where it tells.
use Rattle.std.specs.Prelude.{◌≡◌, ℕ, ◌≤◌, ◌++◌, Option, List, Result, Err, OnErr, OnOk}
use Rattle.std.specs.Io.KnownBytes.{Appends}
use Rattle.vfs_outside.specs.Causes.{AppendsFront, Rose}
use Rattle.vfs_top.specs.declared.write.Unwritten.{Unwritten}
use Rattle.vfs_top.specs.declared.write.Unwritten.TheVariants.{Failed}

-- the whole text was appended, or a front of it; where the sink failed, the count of its faults rose
pub record Writes (old new : Option (List ℕ)) (before after : ℕ) (text : List ℕ) (result : Result (Unit {0}) Unwritten) : Type 0 where
  pub all : OnOk result (Appends old new text)
  pub front : OnErr result (AppendsFront old new text)
  pub rose : result ≡ Err Failed → Rose before after
  pub later : before ≤ after

-- this text was appended, and maybe more behind it
abbrev pub AppendsPast : Option (List ℕ) → Option (List ℕ) → List ℕ → Type 0
AppendsPast old new text = (more : List ℕ) × Appends old new (text ++ more)
