use Rattle.std.proofs.Common.{◌≡◌, ℕ, List, Some, true}
use Rattle.byte_ranges.specs.Ranges.{has}
use Rattle.downloaders.specs.declared.Ask.{Ask}
use Rattle.downloaders.specs.Rules.{AreAsks}
use Rattle.item_meta.specs.InRange.{IsMeta}
use Rattle.base_object.specs.Base.{IsLaterOf}
use Rattle.base_object.specs.Pulls.{progress_of}
use Rattle.base_object.specs.PullsLeft.{pulls_left}
use Rattle.base_object.proofs.WholeRead.{UnderWay}
use Rattle.sparse_item.specs.Fetching.{StandsOn}
use Rattle.sparse_item.specs.Moves.{GoesOn}
use Rattle.sparse_item.proofs.fetch.bring.Given as goal

abbrev pub invariant-loop-why : goal.invariant-loop-why
invariant-loop-why g l = record {
  stands : StandsOn g.F.CacheFile.tells g.O.Object.tells (Some l.initial.meta) l.initial.slot l.initial.base (Some l.meta) l.slot l.base;
  asks : (asks : List Ask) → AreAsks l.plan l.part l.base_end (λ p. has l.initial.meta.ranges p) l.initial.base.crew asks
      → UnderWay l.plan l.part l.base_end asks (λ p. has l.initial.meta.ranges p) (λ p. has l.meta.ranges p) (progress_of l.initial.base) (progress_of l.base);
  grown : (p : ℕ) → has l.initial.meta.ranges p ≡ true → has l.meta.ranges p ≡ true;
  object : IsLaterOf l.initial.base.object l.base.object;
  state : l.base.state ≡ l.initial.base.state;
  fits : IsMeta l.meta;
  same : l.meta ≡ record l.initial.meta { ranges = l.meta.ranges };
  goes : GoesOn g.F.CacheFile.tells l.initial.slot l.slot;
}

abbrev pub decreases-loop-why : goal.decreases-loop-why
decreases-loop-why g l = pulls_left (λ p. has l.meta.ranges p) l.part l.base_end l.base.crew
