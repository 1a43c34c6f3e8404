use Rattle.std.proofs.Common.{◌≡◌, ◌-◌, ◌<◌, min, [], sym, ap, subst, arith}
use Rattle.byte_ranges.specs.Ranges.{has}
use Rattle.downloaders.specs.Crew.{Team}
use Rattle.downloaders.specs.Rules.{AreAsks}
use Rattle.base_object.specs.Base.{Downloading}
use Rattle.base_object.proofs.NextPull.{low_run, request_asks, pull_asks, request_below, pull_below}
use Rattle.base_object.proofs.Outcomes.{brings_all, fails_all, block_is}
use Rattle.base_object.proofs.downloads.Downloads.pull.Goals as goal

pub pull_first-requires-clause-low : goal.pull_first-requires-clause-low
pull_first-requires-clause-low g c = low_run _ _ c.in-Request.ensures.team c.in-Request.ensures.doable.2

pub returns-in-Ok-clause-asks : goal.returns-in-Ok-clause-asks
returns-in-Ok-clause-asks g c asks all =
    let crew : c.self.inside.crew ≡ c.args.self.now.crew = ap (λ (v : Downloading). v.crew) c.self.view_is in
    let front = request_asks c.args.plan.now (λ p. has c.args.present.now p) c.self.inside.crew c.args.span c.args.base_end c.in-Request.run' c.in-Request.start c.in-Request.end c.in-Request.chunk asks c.self.invariant.0 c.in-Request.ensures.doable.0 c.in-Request.ensures.rules
    (subst (λ (t : Team). AreAsks c.args.plan.now c.args.span c.args.base_end (λ p. has c.args.present.now p) t asks) (sym crew) all) in
    brings_all asks _ _ _ _ front.1 (c.in-Ok.ensures.asks front.0)

pub returns-in-Ok-clause-block : goal.returns-in-Ok-clause-block
returns-in-Ok-clause-block g c =
    let first = c.in-Ok.ensures.asks [] in
    let below = request_below c.args.plan.now (λ p. has c.args.present.now p) c.self.inside.crew c.args.span c.args.base_end c.in-Request.run' c.in-Request.start c.in-Request.end c.in-Request.chunk c.in-Request.ensures.rules in
    let some : c.in-Request.start < c.in-Request.end = c.in-Request.ensures.doable.0 in
    block_is _ _ _ _ c.in-Request.start (min 131072 (c.in-Request.end - c.in-Request.start)) first.is_pull.0 first.is_pull.1 (omega (arith, some)) (omega arith) below.0 c.in-Ok.ensures.bytes

pub returns-in-Err-clause-asks : goal.returns-in-Err-clause-asks
returns-in-Err-clause-asks g c asks all =
    let crew : c.self.inside.crew ≡ c.args.self.now.crew = ap (λ (v : Downloading). v.crew) c.self.view_is in
    let front = request_asks c.args.plan.now (λ p. has c.args.present.now p) c.self.inside.crew c.args.span c.args.base_end c.in-Request.run' c.in-Request.start c.in-Request.end c.in-Request.chunk asks c.self.invariant.0 c.in-Request.ensures.doable.0 c.in-Request.ensures.rules
    (subst (λ (t : Team). AreAsks c.args.plan.now c.args.span c.args.base_end (λ p. has c.args.present.now p) t asks) (sym crew) all) in
    fails_all asks _ _ _ _ front.1 (c.in-Err.ensures.asks front.0)

pub returns-in-Ok-pull_next-clause-asks : goal.returns-in-Ok-pull_next-clause-asks
returns-in-Ok-pull_next-clause-asks g c asks all =
    let crew : c.self.inside.crew ≡ c.args.self.now.crew = ap (λ (v : Downloading). v.crew) c.self.view_is in
    let front = pull_asks c.args.plan.now (λ p. has c.args.present.now p) c.self.inside.crew c.args.span c.args.base_end c.in-Pull.run' c.in-Pull.pos c.in-Pull.len asks c.in-Pull.ensures.rules
    (subst (λ (t : Team). AreAsks c.args.plan.now c.args.span c.args.base_end (λ p. has c.args.present.now p) t asks) (sym crew) all) in
    brings_all asks _ _ _ _ front.1 (c.in-Ok-pull_next.ensures.asks front.0)

pub returns-in-Ok-pull_next-clause-block : goal.returns-in-Ok-pull_next-clause-block
returns-in-Ok-pull_next-clause-block g c =
    let first = c.in-Ok-pull_next.ensures.asks [] in
    let below = pull_below c.args.plan.now (λ p. has c.args.present.now p) c.self.inside.crew c.args.span c.args.base_end c.in-Pull.run' c.in-Pull.pos c.in-Pull.len c.in-Pull.ensures.rules in
    block_is _ _ _ _ c.in-Pull.pos c.in-Pull.len first.is_pull.0 first.is_pull.1 c.in-Pull.ensures.doable.0 c.in-Pull.ensures.doable.1 below c.in-Ok-pull_next.ensures.bytes

pub returns-in-Err-pull_next-clause-asks : goal.returns-in-Err-pull_next-clause-asks
returns-in-Err-pull_next-clause-asks g c asks all =
    let crew : c.self.inside.crew ≡ c.args.self.now.crew = ap (λ (v : Downloading). v.crew) c.self.view_is in
    let front = pull_asks c.args.plan.now (λ p. has c.args.present.now p) c.self.inside.crew c.args.span c.args.base_end c.in-Pull.run' c.in-Pull.pos c.in-Pull.len asks c.in-Pull.ensures.rules
    (subst (λ (t : Team). AreAsks c.args.plan.now c.args.span c.args.base_end (λ p. has c.args.present.now p) t asks) (sym crew) all) in
    fails_all asks _ _ _ _ front.1 (c.in-Err-pull_next.ensures.asks front.0)
