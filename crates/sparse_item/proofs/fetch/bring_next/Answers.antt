use Rattle.std.proofs.Common.{◌≡◌, ◌∙◌, ◌<◌, ℕ, Option, Ok, ap, inl, refl, sym, subst}
use Rattle.byte_ranges.specs.Ranges.{has}
use Rattle.downloaders.specs.Crew.{Team}
use Rattle.downloaders.specs.Rules.{AllHere}
use Rattle.base_object.specs.declared.block.Block.{Block}
use Rattle.base_object.specs.Base.{bytes_of}
use Rattle.base_object.specs.Pulls.{IsBlock, here_with}
use Rattle.base_object.specs.PullsLeft.{pulls_left}
use Rattle.base_object.proofs.PullsLeft.{pulls_fewer}
use Rattle.base_object.proofs.ReadsOn.{block_of, brought, idle, no_asks}
use Rattle.sparse_item.proofs.Nexts.{brings_next, brings_none, pull_refused}
use Rattle.sparse_item.proofs.Pulled.{beside_sound, error_moves, error_none, is_bound, lacks_some, pull_cause, stored_sound}
use Rattle.sparse_item.proofs.Putting.{nothing_put}
use Rattle.sparse_item.proofs.fetch.bring_next.Goals as goal

pub returns-in-Ok-store-clause-stands : goal.returns-in-Ok-store-clause-stands
returns-in-Ok-store-clause-stands g c past names saved pairs atime b =
    let bound = is_bound c.args.base.now.state (AllHere (λ p. has c.args.meta.now.ranges p) c.args.part c.args.base_end) c.in-Some.block c.pull.result
    (c.in-Ok.is ∙ ap (λ o. Ok o) c.in-Some.is) c.requires.ready c.pull.ensures.none.1 c.pull.ensures.lost in
    let block = block_of (λ b. IsBlock g.O.Object.tells (bytes_of c.args.base.now.object) c.args.base_end b) c.in-Ok.found c.in-Some.block c.in-Some.is c.in-Ok.ensures.block in
    stored_sound {base' = c.pull.new.self} c.args.base_end c.in-Some.block bound.0 b bound.1 c.state.ensures.facts block c.requires.end c.requires.settled c.in-Ok-store.ensures.ok c.pull.ensures.object c.in-Ok.ensures.state

pub returns-in-Ok-store-clause-asks : goal.returns-in-Ok-store-clause-asks
returns-in-Ok-store-clause-asks g c asks all = brings_next c.args.base_end (λ p. has c.args.meta.now.ranges p) (λ p. has c.store.new.meta.ranges p) asks c.in-Some.block _ _
    (brought c.args.base.now.state asks _ _ c.in-Ok.found c.in-Some.block c.in-Some.is (c.in-Ok.ensures.asks asks all))
    (subst (λ n. (p : ℕ) → has c.store.new.meta.ranges p ≡ here_with c.in-Some.block n (λ q. has c.args.meta.now.ranges q) p) (sym c.requires.end) c.in-Ok-store.ensures.here)

pub returns-in-Ok-store-clause-fewer : goal.returns-in-Ok-store-clause-fewer
returns-in-Ok-store-clause-fewer g c e =
    let asks = c.in-Ok.ensures.ends.0 in
    let all = c.in-Ok.ensures.ends.1 in
    let b = brought c.args.base.now.state asks _ _ c.in-Ok.found c.in-Some.block c.in-Some.is (c.in-Ok.ensures.asks asks all) in
    let block = block_of (λ b. IsBlock g.O.Object.tells (bytes_of c.args.base.now.object) c.args.base_end b) c.in-Ok.found c.in-Some.block c.in-Some.is c.in-Ok.ensures.block in
    let fewer = pulls_fewer c.args.plan.now c.args.part c.args.base_end (λ p. has c.args.meta.now.ranges p) (λ p. has c.store.new.meta.ranges p) c.args.base.now.crew asks c.in-Some.block
    c.requires.chunk c.in-Ok.ensures.team all b.is_pull block.some
    (subst (λ n. (p : ℕ) → has c.store.new.meta.ranges p ≡ here_with c.in-Some.block n (λ q. has c.args.meta.now.ranges q) p) (sym c.requires.end) c.in-Ok-store.ensures.here) in
    subst (λ (t : Team). pulls_left (λ p. has c.store.new.meta.ranges p) c.args.part c.args.base_end t < pulls_left (λ p. has c.args.meta.now.ranges p) c.args.part c.args.base_end c.args.base.now.crew) (sym b.crew) fewer

pub returns-in-Some-clause-stands : goal.returns-in-Some-clause-stands
returns-in-Some-clause-stands g c past names saved pairs atime b = beside_sound b c.in-Err-store.ensures.beside c.in-Err-store.ensures.same c.pull.ensures.object (inl c.in-Ok.ensures.state)

pub returns-in-Ok-clause-asks : goal.returns-in-Ok-clause-asks
returns-in-Ok-clause-asks g c asks all = brings_none c.args.base_end (λ p. has c.args.meta.now.ranges p) (λ p. has c.args.meta.now.ranges p) asks _ _
    (no_asks c.args.plan.now c.args.part c.args.base_end (λ p. has c.args.meta.now.ranges p) c.args.base.now.crew asks (c.pull.ensures.none.0 (c.in-Ok.is ∙ ap (λ o. Ok o) c.in-None.is)) all)
    (idle c.args.base.now.state asks _ _ c.in-Ok.found c.in-None.is (c.in-Ok.ensures.asks asks all)) (λ p. refl)

pub returns-clause-stands : goal.returns-clause-stands
returns-clause-stands g c past names saved pairs atime b = beside_sound b (nothing_put c.args.slot.now) refl c.pull.ensures.object
    (error_moves (Option Block) c.args.base.now c.pull.new.self c.in-Err.why c.in-Err.ensures.state c.in-Err.ensures.causes)

pub returns-clause-asks : goal.returns-clause-asks
returns-clause-asks g c asks all = pull_refused c.args.base.now.state asks _ _ c.in-Err.why (c.in-Err.ensures.asks asks all)

pub returns-clause-causes : goal.returns-clause-causes
returns-clause-causes g c = pull_cause c.args.base.now c.pull.new.self c.args.slot.now c.args.slot.now c.in-Err.why c.in-Err.ensures.causes
    (lacks_some c.args.plan.now c.args.part c.args.base_end c.args.meta.now.ranges c.args.base.now.crew c.in-Err.ensures.ends.0 c.in-Err.ensures.ends.1
    (λ all. error_none c.pull.result c.in-Err.why c.in-Err.is (c.pull.ensures.none.1 all)))
