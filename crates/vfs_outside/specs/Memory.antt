-- What the source and the sink in memory tell.
use Rattle.std.specs.Prelude.{ℕ, List}

-- the bytes that are left to read, or that were written, and how often a call failed
pub record Held : Type 0 where
  pub bytes : List ℕ
  pub faults : ℕ
