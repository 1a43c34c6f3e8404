-- The uploads of other files leave a file that is due as it is.
use Rattle.std.proofs.Common.{◌≡◌, ◌∙◌, ◌⊎◌, inl, inr, ℕ, ◌≤◌, ◌==◌, ◌||◌, ◌&&◌, ◌++◌, Bool, true, false, not, if◌then◌else◌, List, [], ◌∷◌, ap, arith, eqb-true, refl, reverse, subst, sym, true≢false}
use Rattle.std.proofs.lemmas.List.{reverse-append}
use Rattle.vfs_names.specs.declared.who.By.{By}
use Rattle.item_upload.specs.Whole.{is_saved}
use Rattle.writeback_queue.specs.History.{due_moment, is_member, is_taken, is_waiting}
use Rattle.writeback_queue.specs.declared.entry.QueueEntry.{QueueEntry}
use Rattle.one_session.specs.Queued.{id_of, turn_by}
use Rattle.one_session.specs.State.{Step}
use Rattle.one_session.specs.Steps.{Deed, Sending, Upload, queue_after}
use Rattle.vfs_top.specs.Due.{HasUpload, IsDue}
use Rattle.vfs_top.specs.Event.{sendings}

waits_still : (b m t : Bool) → b ≡ false → m && not t ≡ true → (not b && m) && not (b || t) ≡ true
waits_still true m t e w = absurd (true≢false e)
waits_still false m t e w = w

waits_after_fail : (b m t : Bool) → b ≡ false → m && not t ≡ true → m && not (not b && (b || t)) ≡ true
waits_after_fail true m t e w = absurd (true≢false e)
waits_after_fail false m t e w = w

due_still : (b : Bool) (again due : ℕ) → b ≡ false → (if b then again else due) ≡ due
due_still true again due e = absurd (true≢false e)
due_still false again due e = refl

-- the turn of another file was ended
turned : (write_back now : ℕ) (by : By) (other item : ℕ) (saved : Bool) (past : List QueueEntry) → (other == item) ≡ false
    → IsDue write_back past item now → IsDue write_back (reverse (turn_by by other saved) ++ past) item now
turned write_back now by other item true past e d = record {
  waits = waits_still (other == item) (is_member past (id_of item)) (is_taken past (id_of item)) e d.waits;
  due = d.due;
}
turned write_back now by other item false past e d = record {
  waits = waits_after_fail (other == item) (is_member past (id_of item)) (is_taken past (id_of item)) e d.waits;
  due = subst (λ (n : ℕ). n ≤ now) (sym (due_still (other == item) _ (due_moment write_back past (id_of item)) e)) d.due;
}

same_or_not : (b : Bool) → (b ≡ true) ⊎ (b ≡ false)
same_or_not true = inl refl
same_or_not false = inr refl

-- behind some uploads a file that was due is so still, or one of them is its own
pub uploaded_or_due : (write_back now : ℕ) (by : By) (item : ℕ) (deeds : List Deed) (steps : List Step) (uploads : List Upload)
    → IsDue write_back (reverse (queue_after write_back deeds steps)) item now
    → HasUpload item uploads ⊎ IsDue write_back (reverse (queue_after write_back (sendings by uploads deeds) steps)) item now
uploaded_or_due write_back now by item deeds steps [] d = inr d
uploaded_or_due write_back now by item deeds steps (u ∷ older) d = next (uploaded_or_due write_back now by item deeds steps older d) (same_or_not (u.item == item))
  where
    before : List QueueEntry
    before = queue_after write_back (sendings by older deeds) steps

    next : HasUpload item older ⊎ IsDue write_back (reverse before) item now → ((u.item == item) ≡ true) ⊎ ((u.item == item) ≡ false)
        → HasUpload item (u ∷ older) ⊎ IsDue write_back (reverse (before ++ turn_by by u.item (is_saved u.ended))) item now
    next (inl has) same = inl (inr has)
    next (inr due) (inl same) = inl (inl (eqb-true u.item item same))
    next (inr due) (inr other) = inr (subst (λ (past : List QueueEntry). IsDue write_back past item now) (sym (reverse-append before (turn_by by u.item (is_saved u.ended)))) (turned write_back now by u.item item (is_saved u.ended) (reverse before) other due))
