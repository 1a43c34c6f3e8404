use Rattle.std.proofs.Common.{◌∙◌}
use Rattle.sparse_item.proofs.StoreCalls.{commit_cause}
use Rattle.sparse_item.proofs.upload.Upload.commit.Goals as goal

pub returns-in-Err-clause-causes : goal.returns-in-Err-clause-causes
returns-in-Err-clause-causes g c = commit_cause (g.R.Remote.outside c.args.remote.now) (g.R.Remote.outside c.commit.new.self) c.in-Err.why c.keep.result (c.commit.ensures.call.counts.may_come c.in-Err.why c.in-Err.is)
    (c.commit.ensures.call.counts.cause c.in-Err.why c.in-Err.is) (c.keep.ensures.why ∙ c.refusal_of.ensures)
