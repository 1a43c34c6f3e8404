use Rattle.std.proofs.Common.{◌⊎◌, inl, inr, ℕ, ◌+◌, List, arith, refl, reverse}
use Rattle.writeback_queue.specs.Legal.{IsNothingDue}
use Rattle.writeback_queue.specs.declared.entry.QueueEntry.{QueueEntry}
use Rattle.one_session.specs.Queued.{id_of}
use Rattle.one_session.specs.Steps.{Upload}
use Rattle.vfs_top.specs.Due.{HasUpload, IsDue}
use Rattle.vfs_top.specs.Event.{deeds_of, main_at, phase_after}
use Rattle.vfs_top.proofs.Dues.{uploaded_or_due}
use Rattle.vfs_top.proofs.laws.each_file_that_is_due_is_uploaded.Goals as goal

has_one : (write_back now item : ℕ) (past : List QueueEntry) (uploads : List Upload) → IsNothingDue write_back past now → HasUpload item uploads ⊎ IsDue write_back past item now → HasUpload item uploads
has_one write_back now item past uploads none (inl has) = has
has_one write_back now item past uploads none (inr is) = absurd (omega (arith, is.due, none (id_of item) is.waits))

pub returns : goal.returns
returns c = λ write_back n moment uploads older steps ticked item due.
    has_one write_back moment item _ uploads (ticked.0 refl) (uploaded_or_due write_back moment (main_at (phase_after older + 1) moment) item (deeds_of older) steps uploads due)
