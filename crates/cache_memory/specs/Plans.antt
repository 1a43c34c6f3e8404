-- How many calls of each kind a disk in memory was asked for.
use Rattle.std.specs.Prelude.{ℕ}
use Rattle.cache_memory.specs.declared.plan.Plan.{Plan}
use Rattle.cache_memory.specs.declared.script.DiskCall.{DiskCall}
use Rattle.cache_memory.specs.declared.script.DiskCall.TheVariants.{Attach, Slots, Take}

abbrev pub made_of : Plan → DiskCall → ℕ
made_of plan Attach = plan.attaches
made_of plan Slots = plan.lists
made_of plan Take = plan.takes
