use Rattle.std.proofs.Common.{◌∙◌, sym}
use Rattle.remote_memory.proofs.Choices.{none_moves}
use Rattle.remote_memory.proofs.Listed.{child_below}
use Rattle.remote_memory.proofs.rows.rest_in.Goals as goal

pub returns-else-is_empty-clause-none : goal.returns-else-is_empty-clause-none
returns-else-is_empty-clause-none c = none_moves c.rest_below.result (λ n rest e. n rest (e ∙ child_below c.args.dir.now rest (sym c.if-is_empty.ensures))) c.rest_below.ensures.none
