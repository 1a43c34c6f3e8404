use Rattle.std.proofs.Common.{◌∙◌, ◌<◌, ap, subst, sym, refl, Ok}
use Rattle.byte_ranges.specs.Ranges.{has}
use Rattle.downloaders.specs.Crew.{Team}
use Rattle.base_object.specs.Base.{bytes_of}
use Rattle.base_object.specs.Pulls.{IsBlock}
use Rattle.base_object.specs.PullsLeft.{pulls_left}
use Rattle.base_object.proofs.ReadsOn.{block_of, brought, front_made, goes_on, idle, no_asks, pull_refused}
use Rattle.base_object.proofs.PullsLeft.{pulls_fewer}
use Rattle.base_object.proofs.base.BaseObject.read_next.Goals as goal

pub returns-in-Ok-keep-clause-asks : goal.returns-in-Ok-keep-clause-asks
returns-in-Ok-keep-clause-asks g c asks all = goes_on c.args.plan.now c.args.span c.args.base_end (λ p. has c.args.present.now p) (λ p. has c.keep.new.present p) asks c.in-Some.block _ _ all
    (brought c.args.self.now.state asks _ _ c.in-Ok-pull.found c.in-Some.block c.in-Some.is (c.in-Ok-pull.ensures.asks asks all)) c.in-Ok-keep.ensures.here

pub returns-in-Ok-keep-clause-fewer : goal.returns-in-Ok-keep-clause-fewer
returns-in-Ok-keep-clause-fewer g c e =
    let asks = c.in-Ok-pull.ensures.ends.0 in
    let all = c.in-Ok-pull.ensures.ends.1 in
    let b = brought c.args.self.now.state asks _ _ c.in-Ok-pull.found c.in-Some.block c.in-Some.is (c.in-Ok-pull.ensures.asks asks all) in
    let block = block_of (λ b. IsBlock g.O.Object.tells (bytes_of c.args.self.now.object) c.args.base_end b) c.in-Ok-pull.found c.in-Some.block c.in-Some.is c.in-Ok-pull.ensures.block in
    let fewer = pulls_fewer c.args.plan.now c.args.span c.args.base_end (λ p. has c.args.present.now p) (λ p. has c.keep.new.present p) c.args.self.now.crew asks c.in-Some.block
    c.requires.chunk c.in-Ok-pull.ensures.team all b.is_pull block.some c.in-Ok-keep.ensures.here in
    subst (λ (t : Team). pulls_left (λ p. has c.keep.new.present p) c.args.span c.args.base_end t < pulls_left (λ p. has c.args.present.now p) c.args.span c.args.base_end c.args.self.now.crew) (sym b.crew) fewer

pub returns-in-Err-keep-clause-asks : goal.returns-in-Err-keep-clause-asks
returns-in-Err-keep-clause-asks g c asks all =
    front_made asks _ _ (brought c.args.self.now.state asks _ _ c.in-Ok-pull.found c.in-Some.block c.in-Some.is (c.in-Ok-pull.ensures.asks asks all)).asked

pub returns-in-None-clause-asks : goal.returns-in-None-clause-asks
returns-in-None-clause-asks g c asks all = (
  no_asks c.args.plan.now c.args.span c.args.base_end (λ p. has c.args.present.now p) c.args.self.now.crew asks (c.pull.ensures.none.0 (c.in-Ok-pull.is ∙ ap (λ o. Ok o) c.in-None.is)) all,
  idle c.args.self.now.state asks _ _ c.in-Ok-pull.found c.in-None.is (c.in-Ok-pull.ensures.asks asks all),
  (λ p. refl),
)

pub returns-in-Err-clause-asks : goal.returns-in-Err-clause-asks
returns-in-Err-clause-asks g c asks all = pull_refused c.args.self.now.state asks _ _ c.in-Err.why (c.in-Err.ensures.asks asks all)
