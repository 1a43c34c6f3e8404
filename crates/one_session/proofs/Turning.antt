-- The turn of a file in the queue.
use Rattle.std.proofs.Common.{◌≡◌, ◌⊎◌, ◌<◌, ◌≤◌, ℕ, zero, suc, ◌+◌, ◌++◌, ◌∙◌, ◌&&◌, ◌||◌, ap, sym, refl, subst, inl, inr, arith, Bool, true, false, not, Option, Some, None, List, [], ◌∷◌, append_assoc, append-nil, cond, eqb, length, reverse}
use Rattle.std.specs.List.{AllByRecursion, count_by, sum_by}
use Rattle.std.proofs.Math.Nat.{zero-add}
use Rattle.std.proofs.lemmas.Bool.{eq-eqb}
use Rattle.std.proofs.lemmas.List.{reverse-append}
use Rattle.std.proofs.lemmas.List.Sums.{sum_by-cons}
use Rattle.vfs_names.specs.declared.who.By.{By}
use Rattle.vfs_names.specs.declared.who.ItemId.{ItemId}
use Rattle.item_core.specs.History.{is_owed}
use Rattle.sparse_item.specs.Item.{Item}
use Rattle.writeback_queue.specs.declared.entry.QueueEntry.{QueueEntry}
use Rattle.writeback_queue.specs.declared.entry.QueueKind.TheVariants.{Take, Remove, Fail}
use Rattle.writeback_queue.specs.declared.entry.QueueTerms.{QueueTerms}
use Rattle.writeback_queue.specs.History.{is_member, is_taken, is_uploading, is_waiting, members, uploads}
use Rattle.writeback_queue.specs.Legal.{IsLegal, IsNext, IsNothingDue}
use Rattle.writeback_queue.specs.Queue.{IsBusy, IsIdle, Queue, entry, past_of}
use Rattle.one_session.specs.Queued.{IsDueAfter, IsQueued, book_by, id_of, owed_item, settled_by}
use Rattle.one_session.specs.State.{blank, item_in}
use Rattle.one_session.proofs.Queued.{all_end, gone_is, put, put_same}

and_false : (b : Bool) → b && false ≡ false
and_false true = refl
and_false false = refl

and_true : (b : Bool) → b && true ≡ b
and_true true = refl
and_true false = refl

gone_idle : (t m k : Bool) → m && k ≡ false → (not t && m) && (t || k) ≡ false
gone_idle true m k e = refl
gone_idle false m k e = e

again_idle : (t m k : Bool) → m && k ≡ false → m && (not t && (t || k)) ≡ false
again_idle true m k e = and_false m
again_idle false m k e = e

-- what waits is a member
member_of : (m k : Bool) → m && not k ≡ true → m ≡ true
member_of true k e = refl
member_of false k e = e

pub waits_member : (past : List QueueEntry) (item : ItemId) → is_waiting past item ≡ true → is_member past item ≡ true
waits_member past item e = member_of (is_member past item) (is_taken past item) e

-- a file that waits is one of those that there are
pub owed_inside : (items : List Item) (n : ℕ) → owed_item items n ≡ true → n < length items
owed_inside [] zero e = absurd (cc)
owed_inside [] (suc n) e = absurd (cc)
owed_inside (x ∷ items) zero e = omega arith
owed_inside (x ∷ items) (suc n) e = omega (arith, owed_inside items n e)

-- none is under way, so that one may be taken
none_counted : (past : List QueueEntry) (items : List ItemId) → ((item : ItemId) → is_uploading past item ≡ false) → count_by (λ item. is_uploading past item) items ≡ 0
none_counted past [] none = refl
none_counted past (item ∷ items) none = let as_number : Bool → ℕ = λ b. cond b 1 0 in let each : ItemId → ℕ = λ item. as_number (is_uploading past item) in
    sum_by-cons each item items ∙ ap (λ b. as_number b + sum_by each items) (none item) ∙ zero-add (sum_by each items) ∙ none_counted past items none

pub not_busy : {A : Type 0} (terms : QueueTerms) (owed : ℕ → Bool) (q : List QueueEntry) → IsQueued terms owed q → 0 < terms.transfers → terms.transfers ≤ uploads (reverse q) → A
not_busy terms owed q s some busy = absurd (omega (arith, some, busy, none_counted (reverse q) (members (reverse q)) s.idle))

module _ (terms : QueueTerms) (owed : ℕ → Bool) (q : List QueueEntry) (s : IsQueued terms owed q) (by : By) (n : ℕ) (member : is_member (reverse q) (id_of n) ≡ true) where
  waited : owed n ≡ true
  waited = sym (s.members (id_of n)) ∙ member

  abbrev taken : QueueEntry
  taken = record { by = by; kind = Take (id_of n) }

  -- its upload is under way
  pub under_way : (q' : List QueueEntry) → q' ≡ q ++ entry by (Take (id_of n)) → is_uploading (reverse q') (id_of n) ≡ true
  under_way q' is = subst (λ l. is_uploading l (id_of n) ≡ true) (sym (ap reverse is ∙ reverse-append q (taken ∷ []))) (ap (λ m. m && (eqb n n || is_taken (reverse q) (id_of n))) member ∙ self n (is_taken (reverse q) (id_of n))) where
    self : (n : ℕ) (k : Bool) → (eqb n n || k) ≡ true
    self n k = ap (λ b. b || k) (eq-eqb n n refl)

  ended : (b : Bool) (e : QueueEntry) → IsLegal terms (reverse ((q ++ taken ∷ []) ++ e ∷ [])) → ((item : ItemId) → is_member (e ∷ taken ∷ reverse q) item ≡ put owed n b item.0)
      → ((item : ItemId) → is_uploading (e ∷ taken ∷ reverse q) item ≡ false) → IsDueAfter terms.write_back e.by e.kind → IsQueued terms (put owed n b) ((q ++ taken ∷ []) ++ e ∷ [])
  ended b e legal members idle due = record {
    legal = legal;
    members = λ item. ap (λ l. is_member l item) turned ∙ members item;
    idle = λ item. ap (λ l. is_uploading l item) turned ∙ idle item;
    due = all_end (λ (e : QueueEntry). IsDueAfter terms.write_back e.by e.kind) (q ++ taken ∷ []) e (all_end (λ (e : QueueEntry). IsDueAfter terms.write_back e.by e.kind) q taken s.due tt) due;
  } where
    turned : reverse ((q ++ taken ∷ []) ++ e ∷ []) ≡ e ∷ taken ∷ reverse q
    turned = reverse-append (q ++ taken ∷ []) (e ∷ []) ∙ ap (λ l. e ∷ l) (reverse-append q (taken ∷ []))

  -- it ended: saved, the file waits no more; else it waits as before
  pub turned : (saved : Bool) (q' : List QueueEntry) → q' ≡ (q ++ entry by (Take (id_of n))) ++ settled_by by n saved → IsLegal terms (reverse q') → IsQueued terms (put owed n (not saved)) q'
  turned true q' is legal = subst (IsQueued terms (put owed n false)) (sym is) (ended false (record { by = book_by by n; kind = Remove (id_of n) }) (subst (λ l. IsLegal terms (reverse l)) is legal)
      (λ item. gone_is (eqb n item.0) (is_member (reverse q) item) ∙ ap (λ m. cond (eqb n item.0) false m) (s.members item))
      (λ item. gone_idle (eqb n item.0) (is_member (reverse q) item) (is_taken (reverse q) item) (s.idle item)) tt)
  turned false q' is legal = subst (IsQueued terms (put owed n true)) (sym is) (ended true (record { by = by; kind = Fail (id_of n) }) (subst (λ l. IsLegal terms (reverse l)) is legal)
      (λ item. s.members item ∙ sym (put_same owed n true item.0 waited))
      (λ item. again_idle (eqb n item.0) (is_member (reverse q) item) (is_taken (reverse q) item) (s.idle item)) tt)

-- the queue, once room was made in it
module _ (items : List Item) (terms : QueueTerms) (q : List QueueEntry) (spare now : ℕ) (reserved : Queue) (s : IsQueued terms (owed_item items) q) (ok : reserved ≡ record { terms = terms; entries = q; spare = spare }) where
  -- nobody's turn is next, so that none is due
  pub idle : 0 < terms.transfers → IsIdle reserved now ⊎ IsBusy reserved → IsNothingDue terms.write_back (reverse q) now
  idle some (inl h) = subst (λ (x : Queue). IsIdle x now) ok h
  idle some (inr h) = not_busy terms (owed_item items) q s some (subst IsBusy ok h)

  module _ (item : ItemId) (n : IsNext reserved.terms.write_back (past_of reserved) now item) where
    pub next_up : IsNext terms.write_back (reverse q) now item
    next_up = subst (λ (x : Queue). IsNext x.terms.write_back (past_of x) now item) ok n

    pub next_member : is_member (reverse q) item ≡ true
    next_member = waits_member (reverse q) item next_up.waits

    pub next_owed : owed_item items item.0 ≡ true
    next_owed = sym (s.members item) ∙ next_member

    pub next_inside : item.0 < length items
    next_inside = owed_inside items item.0 next_owed
