use Rattle.std.proofs.Common.{◌∙◌, Err, ap, inl, refl}
use Rattle.vfs_outside.specs.declared.remote.RemoteError.TheVariants as errors
use Rattle.vfs_top.proofs.start.attach_remote.Goals as goal

pub unreachable-requires : goal.unreachable-requires
unreachable-requires g c = c.attach.ensures.call.counts.may_come errors.Missing (c.in-Err-Missing.is ∙ ap Err c.in-Err-Missing.field-0-is)

pub unreachable-requires-in-Err-Exists : goal.unreachable-requires-in-Err-Exists
unreachable-requires-in-Err-Exists g c = c.attach.ensures.call.counts.may_come errors.Exists (c.in-Err-Exists.is ∙ ap Err c.in-Err-Exists.field-0-is)

pub unreachable-requires-in-Err-NotEmpty : goal.unreachable-requires-in-Err-NotEmpty
unreachable-requires-in-Err-NotEmpty g c = c.attach.ensures.call.counts.may_come errors.NotEmpty (c.in-Err-NotEmpty.is ∙ ap Err c.in-Err-NotEmpty.field-0-is)

pub returns-in-Err-Failed-clause-causes : goal.returns-in-Err-Failed-clause-causes
returns-in-Err-Failed-clause-causes g c = inl (refl, c.attach.ensures.call.counts.cause errors.Failed (c.in-Err-Failed.is ∙ ap Err c.in-Err-Failed.field-0-is))
