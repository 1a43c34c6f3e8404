use Rattle.std.proofs.Common.{ap, ◌∙◌}
use Rattle.one_session.specs.Tree.{shown}
use Rattle.one_session.proofs.tree.Tree.shows.Goals as goal

pub returns : goal.returns
returns c = c.get.ensures ∙ c.self.invariant.0.found c.args.path.now ∙ ap (λ v. shown v.entries c.args.path.now) c.self.view_is
