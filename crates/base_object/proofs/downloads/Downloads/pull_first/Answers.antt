use Rattle.std.proofs.Common.{◌∙◌}
use Rattle.base_object.proofs.Outcomes.{first_pulled}
use Rattle.base_object.proofs.downloads.Downloads.pull_first.Goals as goal

pub returns-in-Ok-request-clause-asks : goal.returns-in-Ok-request-clause-asks
returns-in-Ok-request-clause-asks g c rest = first_pulled c.args.run c.args.start c.args.end c.args.chunk _ _ rest
    c.args.self.now.object.asked c.request.new.self.object.asked c.fill.new.self.object.asked c.args.self.now.crew c.request.new.self.crew c.fill.new.self.crew c.fill.result
    (c.in-Ok.ensures ∙ c.min.ensures) c.in-Ok-request.ensures.asked c.in-Ok-request.ensures.ok
    c.fill.ensures.asked c.fill.ensures.pos c.fill.ensures.length c.fill.ensures.ok c.fill.ensures.err
