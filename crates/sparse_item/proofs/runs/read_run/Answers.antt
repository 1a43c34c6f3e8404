use Rattle.std.proofs.Common.{ℕ, arith, length-drop, length-take}
use Rattle.vfs_outside.specs.declared.file_call.FileCall.TheVariants.{Quiet}
use Rattle.sparse_item.specs.Moves.{idles, stays}
use Rattle.sparse_item.proofs.Moved.{failed_idles, idles_move, no_step}
use Rattle.sparse_item.proofs.Shown.{fills_next}
use Rattle.sparse_item.proofs.runs.read_run.Goals as goal

pub returns-in_default-clause-moves : goal.returns-in_default-clause-moves
returns-in_default-clause-moves g c meta = stays (no_step c.args.slot.now)

pub returns-in-Ok-clause-ok : goal.returns-in-Ok-clause-ok
returns-in-Ok-clause-ok g c first before same f =
    fills_next c.args.slot.now c.in-Some.run' c.read_at.new.into f same c.in-Some.ensures.first c.requires.from
    (omega (arith, c.read_at.auto.into, c.in-Some.ensures.first.to, c.in-Some.ensures.first.from, c.in-Some.ensures.first.some, length-take {A = ℕ}, length-drop {A = ℕ})) c.in-Ok.ensures.bytes

pub returns-in-Ok-clause-moves : goal.returns-in-Ok-clause-moves
returns-in-Ok-clause-moves g c meta = idles c.in-Ok.ensures.call

pub returns-in-Err-clause-moves : goal.returns-in-Err-clause-moves
returns-in-Err-clause-moves g c meta = idles_move (failed_idles (Unit {0}) Quiet c.in-Err.why c.in-Err.ensures.call)
