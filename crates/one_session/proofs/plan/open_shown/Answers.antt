use Rattle.std.proofs.Common.{ap, ◌∙◌, Err}
use Rattle.vfs_outside.specs.declared.remote.RemoteError.TheVariants as errors
use Rattle.one_session.proofs.Meeting.{gives_chosen, plans_chosen}
use Rattle.one_session.proofs.plan.open_shown.Goals as goal

pub unreachable-requires : goal.unreachable-requires
unreachable-requires g c = c.open_object.ensures.call.counts.may_come errors.Exists (c.in-Err-Exists.is ∙ ap Err c.in-Err-Exists.field-0-is)

pub unreachable-requires-in-Err-NotEmpty : goal.unreachable-requires-in-Err-NotEmpty
unreachable-requires-in-Err-NotEmpty g c = c.open_object.ensures.call.counts.may_come errors.NotEmpty (c.in-Err-NotEmpty.is ∙ ap Err c.in-Err-NotEmpty.field-0-is)

pub returns-in-Ok-clause-plans : goal.returns-in-Ok-clause-plans
returns-in-Ok-clause-plans g c = plans_chosen g.R.Object.Object.print_of g.R.Object.Object.bytes c.args.met (g.R.Remote.outside c.args.remote.now) (g.R.Remote.outside c.open_object.new.self) c.in-Ok.object (record { unused = c.requires.unused; print = c.args.print; there = c.requires.shown }) c.in-Ok.ensures.call.handed c.choose.result c.choose.ensures.chosen

pub returns-in-Ok-clause-gives : goal.returns-in-Ok-clause-gives
returns-in-Ok-clause-gives g c = gives_chosen g.R.Object.Object.print_of g.R.Object.Object.bytes c.args.met (g.R.Remote.outside c.args.remote.now) (g.R.Remote.outside c.open_object.new.self) c.in-Ok.object (record { unused = c.requires.unused; print = c.args.print; there = c.requires.shown }) c.in-Ok.ensures.call.handed c.choose.result c.choose.ensures.chosen

pub returns-in-Err-Missing-clause-plans : goal.returns-in-Err-Missing-clause-plans
returns-in-Err-Missing-clause-plans g c = (record { unused = c.requires.unused; print = c.args.print; there = c.requires.shown }, c.open_object.ensures.call.counts.cause errors.Missing (c.in-Err-Missing.is ∙ ap Err c.in-Err-Missing.field-0-is))

pub returns-in-Err-Failed-clause-plans : goal.returns-in-Err-Failed-clause-plans
returns-in-Err-Failed-clause-plans g c = (record { unused = c.requires.unused; print = c.args.print; there = c.requires.shown }, c.open_object.ensures.call.counts.cause errors.Failed (c.in-Err-Failed.is ∙ ap Err c.in-Err-Failed.field-0-is))
