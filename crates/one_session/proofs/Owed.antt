-- Whether a file waits for an upload after one entry more, and what it enters in the queue.
use Rattle.std.proofs.Common.{◌≡◌, ◌⊎◌, ◌<◌, ℕ, zero, suc, ◌+◌, ◌-◌, ◌++◌, ◌∙◌, ◌&&◌, ◌||◌, ap, sym, refl, subst, inl, inr, arith, Bool, true, false, not, List, [], ◌∷◌, cond, eqb, nat_lt, map, reverse}
use Rattle.vfs_names.specs.Payload.{payload_len}
use Rattle.vfs_names.specs.declared.calls.Access.{Access}
use Rattle.vfs_names.specs.declared.payload.Payload.{Payload}
use Rattle.vfs_names.specs.declared.fingerprint.Fingerprint.{Fingerprint}
use Rattle.vfs_names.specs.declared.who.By.{By}
use Rattle.item_core.specs.declared.entry.Entry.{Entry}
use Rattle.item_core.specs.declared.entry.FileKind.{FileKind}
use Rattle.item_core.specs.declared.entry.FileKind.TheVariants as file
use Rattle.item_core.specs.Effects.{dirty_after, is_closed, is_opened, raises}
use Rattle.item_core.specs.History.{count_of, is_dirty, is_modified, is_owed, opens_of, since_rest}
use Rattle.one_session.specs.Calls.{in_file}
use Rattle.one_session.specs.Queued.{is_rest, queue_news}
use Rattle.one_session.specs.Start.{MayStart, front_of, opening}
use Rattle.one_session.specs.declared.start.Start.{Start}
use Rattle.one_session.specs.declared.start.Start.TheVariants.{Kept, Create, Bind, Adopt}

never_owed : (b : Bool) → b && false ≡ false
never_owed true = refl
never_owed false = refl

some_more : (n : ℕ) → eqb (n + 1) 0 ≡ false
some_more n = grind arith

-- an entry that began a version leaves nothing that waits
pub raised_owed : (e : Entry) (past : List Entry) → is_closed e.kind ≡ false → raises e.kind ≡ true → is_owed (e ∷ past) ≡ false
raised_owed e past shut rises = ap (λ m. is_dirty (e ∷ past) && not m) modified ∙ never_owed (is_dirty (e ∷ past)) where
  since : since_rest (e ∷ past) ≡ e ∷ since_rest past
  since = ap (λ b. cond (b && eqb (opens_of past) 1) [] (e ∷ since_rest past)) shut

  modified : is_modified (e ∷ past) ≡ true
  modified = ap (λ l. not (eqb (count_of raises l) 0)) since
      ∙ ap (λ b. not (eqb (cond b (count_of raises (since_rest past) + 1) (count_of raises (since_rest past))) 0)) rises
      ∙ ap not (some_more (count_of raises (since_rest past)))

-- one that begins none, closes nothing and leaves the content as changed as it was leaves it waiting or not
pub quiet_owed : (e : Entry) (past : List Entry) → is_closed e.kind ≡ false → raises e.kind ≡ false → dirty_after e.kind (is_dirty past) ≡ is_dirty past → is_owed (e ∷ past) ≡ is_owed past
quiet_owed e past shut rises dirty = ap (λ d. d && not (is_modified (e ∷ past))) dirty ∙ ap (λ m. is_dirty past && not m) modified where
  modified : is_modified (e ∷ past) ≡ is_modified past
  modified = ap (λ l. not (eqb (count_of raises l) 0)) (ap (λ b. cond (b && eqb (opens_of past) 1) [] (e ∷ since_rest past)) shut)
      ∙ ap (λ b. not (eqb (cond b (count_of raises (since_rest past) + 1) (count_of raises (since_rest past))) 0)) rises

-- the last close leaves a changed file waiting, and another close leaves what was
closed_by : (by : By) (at : ℕ) (past : List Entry) (b : Bool) → eqb (opens_of past) 1 ≡ b → is_owed (record { by = by; at = at; kind = file.Closed } ∷ past) ≡ is_dirty past && not (not (eqb (count_of raises (cond b [] (record { by = by; at = at; kind = file.Closed } ∷ since_rest past))) 0))
closed_by by at past b e = ap (λ b. is_dirty past && not (not (eqb (count_of raises (cond b [] (record { by = by; at = at; kind = file.Closed } ∷ since_rest past))) 0))) e

and_true : (b : Bool) → b && true ≡ b
and_true true = refl
and_true false = refl

pub last_owed : (by : By) (at : ℕ) (past : List Entry) → eqb (opens_of past) 1 ≡ true → is_owed (record { by = by; at = at; kind = file.Closed } ∷ past) ≡ is_dirty past
last_owed by at past e = closed_by by at past true e ∙ and_true (is_dirty past)

pub other_owed : (by : By) (at : ℕ) (past : List Entry) → eqb (opens_of past) 1 ≡ false → is_owed (record { by = by; at = at; kind = file.Closed } ∷ past) ≡ is_owed past
other_owed by at past e = closed_by by at past false e

-- a file that isn't changed doesn't wait
clean_owed : (past : List Entry) → is_dirty past ≡ false → is_owed past ≡ false
clean_owed past e = ap (λ d. d && not (is_modified past)) e

opened_owed : (by : By) (access : Access) (made : ℕ) (past : List Entry) → is_owed (in_file by true made (file.Opened access) ∷ past) ≡ is_owed past
opened_owed by access made past = quiet_owed (in_file by true made (file.Opened access)) past refl refl refl

-- an open leaves it waiting or not
pub start_owed : {O S : Type 0} (print_of : O → Fingerprint) (by : By) (access : Access) (made : ℕ) (start : Start O S) (past : List Entry) → MayStart print_of start past → is_owed (reverse (opening by access made (front_of print_of start)) ++ past) ≡ is_owed past
start_owed print_of by access made Kept past may = opened_owed by access made past
start_owed print_of by access made Create past may = opened_owed by access made (in_file by true made file.Create ∷ past) ∙ raised_owed (in_file by true made file.Create) past refl refl ∙ sym (clean_owed past may.0)
start_owed print_of by access made (Bind object) past may = opened_owed by access made (in_file by true made (file.Bind (print_of object)) ∷ past) ∙ quiet_owed (in_file by true made (file.Bind (print_of object))) past refl refl refl
start_owed print_of by access made (Adopt object) past may = opened_owed by access made (in_file by true made (file.Adopt (print_of object)) ∷ past) ∙ sym (clean_owed past may.0)

-- a write that isn't empty began a version
pub wrote_owed : (e : Entry) (past : List Entry) (pos : ℕ) (payload : Payload) → e.kind ≡ file.Write pos payload → 0 < payload_len payload → is_owed (e ∷ past) ≡ false
wrote_owed e past pos payload is some = raised_owed e past (ap is_closed is) (ap raises is ∙ not_none (payload_len payload) some) where
  not_none : (n : ℕ) → 0 < n → not (eqb n 0) ≡ true
  not_none n lt = grind (arith, lt)

pub unwrote_owed : (e : Entry) (past : List Entry) (pos : ℕ) (payload : Payload) → e.kind ≡ file.Write pos payload → payload_len payload ≡ 0 → is_owed (e ∷ past) ≡ is_owed past
unwrote_owed e past pos payload is none = quiet_owed e past (ap is_closed is) rises (ap (λ k. dirty_after k (is_dirty past)) is ∙ ap (λ n. not (eqb n 0) || is_dirty past) none) where
  rises : raises e.kind ≡ false
  rises = ap raises is ∙ ap (λ n. not (eqb n 0)) none

-- where it waits as before, and the last handle wasn't closed, nothing is entered
pub news_none : (write_back : ℕ) (by : By) (item : ℕ) (before after : List Entry) → is_owed after ≡ is_owed before → is_rest before after ≡ false → queue_news write_back by item before after ≡ []
news_none write_back by item before after same going = by_owed (is_owed before) refl where
  by_owed : (b : Bool) → is_owed before ≡ b → queue_news write_back by item before after ≡ []
  by_owed true e = rw (same, e, going) refl
  by_owed false e = rw (same, e) refl

-- as many handles are open, or more
pub not_rest : (before after : List Entry) → opens_of before ≡ opens_of after → is_rest before after ≡ false
not_rest before after e = ap (λ n. nat_lt 0 n && eqb (opens_of after) 0) e ∙ no (opens_of after) where
  no : (n : ℕ) → nat_lt 0 n && eqb n 0 ≡ false
  no n = grind arith
