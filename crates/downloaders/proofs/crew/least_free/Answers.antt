use Rattle.std.proofs.Common.{◌≡◌, ◌∙◌, ◌-◌, ap, sym, length, arith}
use Rattle.downloaders.specs.Crew.{free_from}
use Rattle.downloaders.proofs.Teams.{free_found, free_more, free_none}
use Rattle.downloaders.proofs.crew.least_free.Goals as goal

pub loop-run-init : goal.loop-run-init
loop-run-init c = let all : length c.args.members.now - 0 ≡ length c.args.members.now = omega arith in ap (λ n. free_from n 0 c.args.members.now) all

pub returns-then-not-has_run : goal.returns-then-not-has_run
returns-then-not-has_run c =
    sym (free_found (length c.args.members.now) c.loop-run.run c.args.members.now c.loop-run-test.true (sym c.if-not-has_run.ensures)) ∙ c.loop-run.invariant

pub loop-run-preserved : goal.loop-run-preserved
loop-run-preserved c =
    sym (free_more (length c.args.members.now) c.loop-run.run c.args.members.now c.loop-run-test.true (sym c.if-not-has_run.ensures)) ∙ c.loop-run.invariant

pub returns : goal.returns
returns c =
    let same : length c.args.members.now ≡ c.loop-run.run = omega (arith, c.loop-run.auto.run-end, c.loop-run-test.false) in
    same ∙ sym (free_none (length c.args.members.now) c.loop-run.run c.args.members.now c.loop-run-test.false) ∙ c.loop-run.invariant
