use Rattle.std.proofs.Common.{◌∙◌}
use Rattle.sparse_item.proofs.StoreCalls.{may_fail, stage_cause}
use Rattle.sparse_item.proofs.upload.Upload.stage.Goals as goal

pub refusal_of-requires : goal.refusal_of-requires
refusal_of-requires g c = may_fail c.in-Err.why (c.stage.ensures.call.counts.may_come c.in-Err.why c.in-Err.is)

pub returns-in-Err-clause-causes : goal.returns-in-Err-clause-causes
returns-in-Err-clause-causes g c = stage_cause (g.R.Remote.outside c.args.remote.now) (g.R.Remote.outside c.stage.new.self) c.in-Err.why c.keep.result (c.stage.ensures.call.counts.may_come c.in-Err.why c.in-Err.is)
    (c.stage.ensures.call.counts.cause c.in-Err.why c.in-Err.is) (c.keep.ensures.why ∙ c.refusal_of.ensures)
