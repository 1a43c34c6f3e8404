-- What callers say of a lock and of its passes.
use Rattle.std.specs.Prelude.{◌≡◌, ℕ, Bool, true, false, List, [], ◌∷◌, Option}
pub use Rattle.atomic_table.specs.Seated.{TableId}
pub use Rattle.pass_lock.specs.Lists.{Has, without, StartsWith, longer, entries_of, GoesOn, BelongsTo, GrowsBy}
use Rattle.pass_lock.specs.declared.pass.PassOf.{PassOf}
use Rattle.pass_lock.specs.declared.held.Held.{Held}
use Rattle.pass_lock.specs.declared.lock.PassLock.{PassLock}

-- which lock it is
abbrev pub lock_id : {S E T : Type 0} → PassLock S E T → TableId
lock_id l = l.table.shared.table_id

-- the state that `new` took, whose terms are the lock's
abbrev pub first_state : {S E T : Type 0} → PassLock S E T → S
first_state l = l.table.shared.key.value

module _ {S E T : Type 0} where
  -- the state that is out
  abbrev pub held_state : Held S E T → S
  held_state h = h.state

  -- the state is out with this pass
  abbrev pub IsHeldBy : Held S E T → PassOf S E T → Type 0
  IsHeldBy h p = (h.place.value.table_id ≡ p.seat.table_id) × (h.place.value.id ≡ p.seat.id)

  -- the lock that a pass is of
  abbrev pub lock_of : PassOf S E T → TableId
  lock_of p = p.seat.table_id

  -- the number that is the pass's own
  abbrev pub number_of : PassOf S E T → ℕ
  number_of p = p.number

  -- the numbers that a pass holds, of which its own is the first
  abbrev pub numbers_of : PassOf S E T → List ℕ
  numbers_of p = p.seat.me.0.numbers

  -- the list as the pass has seen it
  abbrev pub seen_by : PassOf S E T → List E
  seen_by p = p.seat.me.0.seen

  -- the entries of a number, of those that the pass has seen
  abbrev pub mine_of : (E → ℕ → Bool) → PassOf S E T → ℕ → List E
  mine_of belongs p n = entries_of belongs n (seen_by p)

  -- of each number that p holds, q has seen the entries that p has seen
  abbrev pub KeepsMine : (E → ℕ → Bool) → PassOf S E T → PassOf S E T → Type 0
  KeepsMine belongs p q = (n : ℕ) → Has (numbers_of p) n → mine_of belongs q n ≡ mine_of belongs p n

  -- how many numbers were made, of a pass that holds number 0; else 0
  abbrev pub made_by : PassOf S E T → ℕ
  made_by p = p.made

  -- the terms of the lock, of a pass that holds a number
  abbrev pub terms_of : PassOf S E T → Option T
  terms_of p = p.seat.me.0.terms

  -- the pass has no state out
  abbrev pub IsFree : PassOf S E T → Type 0
  IsFree p = p.seat.me.0.holds ≡ false

  -- the pass has the state out
  abbrev pub IsLocking : PassOf S E T → Type 0
  IsLocking p = p.seat.me.0.holds ≡ true

  -- both are of one lock, with the same numbers and terms; what they have seen may differ
  pub record IsSamePass (p q : PassOf S E T) : Type 0 where
    pub lock : lock_of q ≡ lock_of p
    pub number : number_of q ≡ number_of p
    pub numbers : numbers_of q ≡ numbers_of p
    pub made : made_by q ≡ made_by p
    pub terms : terms_of q ≡ terms_of p

  -- a free pass of this lock, which holds the number n alone
  pub record IsPassOf (lock : TableId) (n : ℕ) (p : PassOf S E T) : Type 0 where
    pub lock_is : lock_of p ≡ lock
    pub free : IsFree p
    pub number : number_of p ≡ n
    pub numbers : numbers_of p ≡ n ∷ []
