-- The queue follows the files.
use Rattle.std.proofs.Common.{◌≡◌, ◌⊎◌, ◌<◌, ℕ, zero, suc, ◌+◌, ◌++◌, ◌∙◌, ◌&&◌, ◌||◌, ap, sym, refl, subst, inl, inr, arith, Bool, true, false, not, List, [], ◌∷◌, append-nil, cond, eqb, length, reverse, set}
use Rattle.std.specs.List.{AllByRecursion}
use Rattle.std.proofs.lemmas.Bool.Decides.{eqb_tells}
use Rattle.std.proofs.lemmas.List.{reverse-append, reverse-reverse, get_or-set_same, get_or-set_other}
use Rattle.vfs_names.specs.declared.who.By.{By}
use Rattle.vfs_names.specs.declared.who.ItemId.{ItemId}
use Rattle.item_core.specs.declared.entry.Entry.{Entry}
use Rattle.item_core.specs.History.{is_owed}
use Rattle.sparse_item.specs.Item.{Item}
use Rattle.writeback_queue.specs.declared.entry.QueueEntry.{QueueEntry}
use Rattle.writeback_queue.specs.declared.entry.QueueKind.{QueueKind}
use Rattle.writeback_queue.specs.declared.entry.QueueKind.TheVariants.{Add, Remove, SetDue}
use Rattle.writeback_queue.specs.declared.entry.QueueTerms.{QueueTerms}
use Rattle.writeback_queue.specs.History.{is_member, is_uploading}
use Rattle.writeback_queue.specs.Legal.{IsLegal}
use Rattle.writeback_queue.specs.Queue.{entry, removed_by}
use Rattle.one_session.specs.Queued.{IsDueAfter, IsQueued, awaited_by, book_by, id_of, is_rest, owed_in, owed_item, queue_news, rested_by, withdrawn_by}
use Rattle.one_session.specs.State.{blank, item_in}
use Rattle.one_session.specs.Views.{histories}
use Rattle.one_session.proofs.Owed.{news_none}

-- one file waits or not, and the others do as before
abbrev pub put : (ℕ → Bool) → ℕ → Bool → ℕ → Bool
put owed n b i = cond (eqb n i) b (owed i)

pub put_same : (owed : ℕ → Bool) (n : ℕ) (b : Bool) (i : ℕ) → owed n ≡ b → put owed n b i ≡ owed i
put_same owed n b i e = tell (eqb_tells n i) where
  tell : ((eqb n i ≡ true) × (n ≡ i)) ⊎ ((eqb n i ≡ false) × (n ≡ i → ⊥)) → put owed n b i ≡ owed i
  tell (inl h) = ap (λ t. cond t b (owed i)) h.0 ∙ sym e ∙ ap owed h.1
  tell (inr h) = ap (λ t. cond t b (owed i)) h.0

pub all_end : {A : Type 0} (P : A → Type 0) (xs : List A) (x : A) → AllByRecursion P xs → P x → AllByRecursion P (xs ++ x ∷ [])
all_end P [] x all p = (p, tt)
all_end P (y ∷ xs) x all p = (all.0, all_end P xs x all.1 p)

pub gone_is : (t m : Bool) → (not t && m) ≡ cond t false m
gone_is true m = refl
gone_is false m = refl

added_is : (t m : Bool) → (t || m) ≡ cond t true m
added_is true m = refl
added_is false m = refl

gone_idle : (t m k : Bool) → m && k ≡ false → (not t && m) && k ≡ false
gone_idle true m k e = refl
gone_idle false m k e = e

added_idle : (t m k : Bool) → m && k ≡ false → (t || m) && (not t && k) ≡ false
added_idle true m k e = refl
added_idle false m k e = e

-- it is told of the same files
pub queued_along : (terms : QueueTerms) (owed owed' : ℕ → Bool) (q : List QueueEntry) → ((i : ℕ) → owed' i ≡ owed i) → IsQueued terms owed q → IsQueued terms owed' q
queued_along terms owed owed' q e s = record {
  legal = s.legal;
  members = λ item. s.members item ∙ sym (e item.0);
  idle = s.idle;
  due = s.due;
}

module _ (terms : QueueTerms) (owed : ℕ → Bool) (q : List QueueEntry) (s : IsQueued terms owed q) (by : By) (n : ℕ) where
  still : (b : Bool) → owed n ≡ b → IsQueued terms (put owed n b) q
  still b e = queued_along terms owed (put owed n b) q (λ i. put_same owed n b i e) s

  one_more : (b : Bool) (e : QueueEntry) → IsLegal terms (reverse (q ++ e ∷ [])) → ((item : ItemId) → is_member (e ∷ reverse q) item ≡ put owed n b item.0)
      → ((item : ItemId) → is_uploading (e ∷ reverse q) item ≡ false) → IsDueAfter terms.write_back e.by e.kind → IsQueued terms (put owed n b) (q ++ e ∷ [])
  one_more b e legal members idle due = record {
    legal = legal;
    members = λ item. ap (λ l. is_member l item) (reverse-append q (e ∷ [])) ∙ members item;
    idle = λ item. ap (λ l. is_uploading l item) (reverse-append q (e ∷ [])) ∙ idle item;
    due = all_end (λ (e : QueueEntry). IsDueAfter terms.write_back e.by e.kind) q e s.due due;
  }

  legal_at : (q' : List QueueEntry) (more : List QueueEntry) → q' ≡ q ++ more → IsLegal terms (reverse q') → IsLegal terms (reverse (q ++ more))
  legal_at q' more e legal = subst (λ l. IsLegal terms (reverse l)) e legal

  removed : IsLegal terms (reverse (q ++ entry (book_by by n) (Remove (id_of n)))) → IsQueued terms (put owed n false) (q ++ entry (book_by by n) (Remove (id_of n)))
  removed legal = one_more false (record { by = book_by by n; kind = Remove (id_of n) }) legal
      (λ item. gone_is (eqb n item.0) (is_member (reverse q) item) ∙ ap (cond (eqb n item.0) false) (s.members item))
      (λ item. gone_idle (eqb n item.0) (is_member (reverse q) item) _ (s.idle item)) tt

  added : IsLegal terms (reverse (q ++ entry (book_by by n) (Add (id_of n) (by.now + terms.write_back)))) → IsQueued terms (put owed n true) (q ++ entry (book_by by n) (Add (id_of n) (by.now + terms.write_back)))
  added legal = one_more true (record { by = book_by by n; kind = Add (id_of n) (by.now + terms.write_back) }) legal
      (λ item. added_is (eqb n item.0) (is_member (reverse q) item) ∙ ap (cond (eqb n item.0) true) (s.members item))
      (λ item. added_idle (eqb n item.0) (is_member (reverse q) item) _ (s.idle item)) refl

  moved : owed n ≡ true → IsLegal terms (reverse (q ++ entry (book_by by n) (SetDue (id_of n) (by.now + terms.write_back)))) → IsQueued terms (put owed n true) (q ++ entry (book_by by n) (SetDue (id_of n) (by.now + terms.write_back)))
  moved e legal = one_more true (record { by = book_by by n; kind = SetDue (id_of n) (by.now + terms.write_back) }) legal
      (λ item. s.members item ∙ sym (put_same owed n true item.0 e)) (λ item. s.idle item) refl

  -- a version began, or not
  pub withdrawn : (began b : Bool) (q' : List QueueEntry) → (began ≡ true → b ≡ false) → (began ≡ false → b ≡ owed n) → q' ≡ q ++ withdrawn_by by n began (is_member (reverse q) (id_of n)) → IsLegal terms (reverse q') → IsQueued terms (put owed n b) q'
  withdrawn false b q' so not_so is legal = subst (IsQueued terms (put owed n b)) (sym (is ∙ append-nil q)) (still b (sym (not_so refl)))
  withdrawn true b q' so not_so is legal = by_member (is_member (reverse q) (id_of n)) refl where
    by_member : (m : Bool) → is_member (reverse q) (id_of n) ≡ m → IsQueued terms (put owed n b) q'
    by_member true e = let is' = is ∙ ap (λ m. q ++ removed_by (book_by by n) (id_of n) m) e in
        subst (λ b. IsQueued terms (put owed n b) q') (sym (so refl)) (subst (IsQueued terms (put owed n false)) (sym is') (removed (legal_at q' _ is' legal)))
    by_member false e = let is' = is ∙ ap (λ m. q ++ removed_by (book_by by n) (id_of n) m) e ∙ append-nil q in
        subst (IsQueued terms (put owed n b)) (sym is') (still b (sym (s.members (id_of n)) ∙ e ∙ sym (so refl)))

  -- the last handle of a changed file was closed, or not
  pub rested : (rests b : Bool) (q' : List QueueEntry) → (rests ≡ true → b ≡ true) → (rests ≡ false → b ≡ owed n) → q' ≡ q ++ rested_by rests terms.write_back by n (is_member (reverse q) (id_of n)) → IsLegal terms (reverse q') → IsQueued terms (put owed n b) q'
  rested false b q' so not_so is legal = subst (IsQueued terms (put owed n b)) (sym (is ∙ append-nil q)) (still b (sym (not_so refl)))
  rested true b q' so not_so is legal = subst (λ b. IsQueued terms (put owed n b) q') (sym (so refl)) (by_member (is_member (reverse q) (id_of n)) refl) where
    by_member : (m : Bool) → is_member (reverse q) (id_of n) ≡ m → IsQueued terms (put owed n true) q'
    by_member true e = let is' = is ∙ ap (λ m. q ++ awaited_by terms.write_back by n m) e in
        subst (IsQueued terms (put owed n true)) (sym is') (moved (sym (s.members (id_of n)) ∙ e) (legal_at q' _ is' legal))
    by_member false e = let is' = is ∙ ap (λ m. q ++ awaited_by terms.write_back by n m) e in
        subst (IsQueued terms (put owed n true)) (sym is') (added (legal_at q' _ is' legal))

  module _ (before after : List Entry) (was : is_owed before ≡ owed n) where
    member : is_member (reverse q) (id_of n) ≡ is_owed before
    member = s.members (id_of n) ∙ sym was

    -- what was entered then is what the file's change enters
    pub withdrawn_news : (began : Bool) → (began ≡ true → is_owed after ≡ false) → (began ≡ false → is_owed after ≡ is_owed before) → is_rest before after ≡ false
        → withdrawn_by by n began (is_member (reverse q) (id_of n)) ≡ queue_news terms.write_back by n before after
    withdrawn_news false so not_so going = sym (news_none terms.write_back by n before after (not_so refl) going)
    withdrawn_news true so not_so going = ap (removed_by (book_by by n) (id_of n)) member ∙ by_owed (is_owed before) refl where
      by_owed : (b : Bool) → is_owed before ≡ b → removed_by (book_by by n) (id_of n) (is_owed before) ≡ queue_news terms.write_back by n before after
      by_owed true e = rw (so refl, e) refl
      by_owed false e = rw (so refl, e) refl

    pub rested_news : (rests : Bool) → (rests ≡ true → (is_owed after ≡ true) × (is_rest before after ≡ true)) → (rests ≡ false → is_owed after ≡ is_owed before)
        → (rests ≡ false → is_owed after ≡ true → is_rest before after ≡ false)
        → rested_by rests terms.write_back by n (is_member (reverse q) (id_of n)) ≡ queue_news terms.write_back by n before after
    rested_news false so not_so going = by_owed (is_owed after) refl where
      by_owed : (b : Bool) → is_owed after ≡ b → [] ≡ queue_news terms.write_back by n before after
      by_owed true e = rw (e, sym (not_so refl) ∙ e, going refl e) refl
      by_owed false e = rw (e, sym (not_so refl) ∙ e) refl
    rested_news true so not_so going = ap (awaited_by terms.write_back by n) member ∙ by_owed (is_owed before) refl where
      by_owed : (b : Bool) → is_owed before ≡ b → awaited_by terms.write_back by n (is_owed before) ≡ queue_news terms.write_back by n before after
      by_owed true e = rw ((so refl).0, e, (so refl).1) refl
      by_owed false e = rw ((so refl).0, e) refl

-- the files with another in one place
pub owed_put : (items : List Item) (n : ℕ) (new : Item) → n < length items → (i : ℕ) → owed_item (set items n new) i ≡ put (owed_item items) n (is_owed new.log.past) i
owed_put items n new lt i = tell (eqb_tells n i) where
  tell : ((eqb n i ≡ true) × (n ≡ i)) ⊎ ((eqb n i ≡ false) × (n ≡ i → ⊥)) → owed_item (set items n new) i ≡ put (owed_item items) n (is_owed new.log.past) i
  tell (inl h) = ap (λ j. owed_item (set items n new) j) (sym h.1) ∙ ap (λ (x : Item). is_owed x.log.past) (get_or-set_same items n new blank lt) ∙ sym (ap (λ t. cond t (is_owed new.log.past) (owed_item items i)) h.0)
  tell (inr h) = ap (λ (x : Item). is_owed x.log.past) (get_or-set_other items n i new blank (λ e. h.1 (sym e))) ∙ sym (ap (λ t. cond t (is_owed new.log.past) (owed_item items i)) h.0)

-- one more at the end that doesn't wait
pub owed_end : (items : List Item) (new : Item) → is_owed new.log.past ≡ false → (i : ℕ) → owed_item (items ++ new ∷ []) i ≡ owed_item items i
owed_end [] new none zero = none
owed_end [] new none (suc i) = refl
owed_end (x ∷ items) new none zero = refl
owed_end (x ∷ items) new none (suc i) = owed_end items new none i

-- whether a file waits is told by its history
pub owed_seen : (items : List Item) (n : ℕ) → owed_in (histories items) n ≡ owed_item items n
owed_seen [] zero = refl
owed_seen [] (suc n) = refl
owed_seen (x ∷ items) zero = ap is_owed (reverse-reverse x.log.past)
owed_seen (x ∷ items) (suc n) = owed_seen items n

-- before anything is entered nothing waits
pub none_queued : (terms : QueueTerms) (items : List Item) (q : List QueueEntry) → items ≡ [] → q ≡ [] → IsQueued terms (owed_item items) q
none_queued terms items q no_items no_entries = subst (λ l. IsQueued terms (owed_item l) q) (sym no_items) (subst (IsQueued terms (owed_item [])) (sym no_entries)
    (record { legal = tt; members = λ item. none item.0; idle = λ item. refl; due = tt })) where
      none : (n : ℕ) → false ≡ owed_item [] n
      none zero = refl
      none (suc n) = refl
