use Rattle.std.proofs.Common.{◌*◌, ◌^◌, ◌≤◌, take}
use Rattle.cleaner.specs.Sifted.{IsSifted}
use Rattle.cleaner.proofs.choice.sift.Given as goal

-- the rows passed so far are sifted, and each has fewer than 2^64 bytes
abbrev pub invariant-loop-row : goal.invariant-loop-row
invariant-loop-row g l = record {
  so_far : IsSifted l.pins l.now l.age (take l.row-index l.rows) l.chosen.items l.turns.items l.bytes;
  small : l.bytes ≤ l.row-index * 2 ^ 64;
}
