use Rattle.std.proofs.Common.{◌≡◌, List}
use Rattle.byte_ranges.specs.Ranges.{has}
use Rattle.downloaders.specs.declared.Ask.{Ask}
use Rattle.downloaders.specs.Rules.{AreAsks}
use Rattle.base_object.specs.Base.{IsLaterOf, bytes_of}
use Rattle.base_object.specs.Pulls.{IsBlock, progress_of}
use Rattle.base_object.specs.PullsLeft.{pulls_left}
use Rattle.base_object.specs.Reads.{AddsBlocks}
use Rattle.base_object.proofs.WholeRead.{UnderWay}
use Rattle.base_object.proofs.base.BaseObject.read_through.Given as goal

abbrev pub invariant-loop-why : goal.invariant-loop-why
invariant-loop-why g l = record {
  asks : (asks : List Ask) → AreAsks l.plan l.span l.base_end (λ p. has l.initial.present p) l.initial.self.crew asks
      → UnderWay l.plan l.span l.base_end asks (λ p. has l.initial.present p) (λ p. has l.present p) (progress_of l.initial.self) (progress_of l.self);
  blocks : AddsBlocks (IsBlock g.O.Object.tells (bytes_of l.initial.self.object) l.base_end) l.base_end (λ p. has l.initial.present p) (λ p. has l.present p) l.initial.blocks.items l.blocks.items;
  object : IsLaterOf l.initial.self.object l.self.object;
  state : l.self.state ≡ l.initial.self.state;
}

abbrev pub decreases-loop-why : goal.decreases-loop-why
decreases-loop-why g l = pulls_left (λ p. has l.present p) l.span l.base_end l.self.crew
