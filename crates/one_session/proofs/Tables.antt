-- Handles in the table.
use Rattle.std.proofs.Common.{◌≡◌, ◌≢◌, ◌⊎◌, ◌<◌, ℕ, zero, suc, ◌+◌, ◌∙◌, ap, sym, refl, subst, inl, inr, arith, Bool, true, false, Option, None, Some, List, [], ◌∷◌, length, set, cond, eqb, replicate, zero-add}
use Rattle.std.specs.List.{count_by}
use Rattle.std.proofs.lemmas.Bool.{ne_eqb, eq-eqb}
use Rattle.std.proofs.lemmas.Bool.Decides.{eqb_tells}
use Rattle.std.proofs.lemmas.List.{get_or-set_same, get_or-set_other}
use Rattle.std.proofs.lemmas.List.Sums.{sum_by-append, sum_by-set}
use Rattle.std.proofs.lemmas.Option.{none-some}
use Rattle.one_session.specs.Sound.{has_file, has_some}
use Rattle.one_session.specs.State.{file_at}
use Rattle.one_session.specs.declared.handle.Handle.{Handle}

-- a handle that has a file open is counted
counted : (o : Option Handle) (k : Handle) → o ≡ Some k → ◌≡◌ {A = ℕ} (cond (has_file k.item o) 1 0) 1
counted o k h = let f : Option Handle → ℕ = λ q. cond (has_file k.item q) 1 0 in let g : Bool → ℕ = λ b. cond b 1 0 in
    ap f h ∙ ap g (eq-eqb k.item k.item refl)

pub some_open : (table : List (Option Handle)) (handle : ℕ) (k : Handle) → file_at table handle ≡ Some k → 0 < count_by (has_file k.item) table
some_open [] handle k h = absurd (none-some k h)
some_open (o ∷ table) zero k h = let f : Option Handle → ℕ = λ x. cond (has_file k.item x) 1 0 in
    omega (arith, sum_by-append f (o ∷ []) table, zero-add (f o), counted o k h)
some_open (o ∷ table) (suc handle) k h = let f : Option Handle → ℕ = λ x. cond (has_file k.item x) 1 0 in
    omega (arith, sum_by-append f (o ∷ []) table, some_open table handle k h)

-- what a handle has open after another was put there
pub at_put : (table : List (Option Handle)) (h handle : ℕ) (v : Option Handle) → h < length table → file_at (set table h v) handle ≡ cond (eqb h handle) v (file_at table handle)
at_put table h handle v lt = tell (eqb_tells h handle) where
  tell : ((eqb h handle ≡ true) × (h ≡ handle)) ⊎ ((eqb h handle ≡ false) × (h ≢ handle)) → file_at (set table h v) handle ≡ cond (eqb h handle) v (file_at table handle)
  tell (inl k) = subst (λ j. file_at (set table h v) j ≡ v) k.1 (get_or-set_same table h v None lt) ∙ sym (ap (λ b. cond b v (file_at table handle)) k.0)
  tell (inr k) = get_or-set_other table h handle v None (λ e. k.1 (sym e)) ∙ sym (ap (λ b. cond b v (file_at table handle)) k.0)

-- how many handles pass a test after one was changed
count_put : (test : Option Handle → Bool) (table : List (Option Handle)) (h : ℕ) (v : Option Handle) → h < length table → count_by test (set table h v) + cond (test (file_at table h)) 1 0 ≡ count_by test table + cond (test v) 1 0
count_put test table h v lt = let f : Option Handle → ℕ = λ x. cond (test x) 1 0 in sum_by-set f table h v None lt

counted_some : (o : Option Handle) (k : Handle) → o ≡ Some k → ◌≡◌ {A = ℕ} (cond (has_some o) 1 0) 1
counted_some o k h = let f : Option Handle → ℕ = λ q. cond (has_some q) 1 0 in ap f h

counted_other : (o : Option Handle) (k : Handle) (i : ℕ) → o ≡ Some k → i ≢ k.item → ◌≡◌ {A = ℕ} (cond (has_file i o) 1 0) 0
counted_other o k i h ne = let f : Option Handle → ℕ = λ q. cond (has_file i q) 1 0 in let g : Bool → ℕ = λ b. cond b 1 0 in ap f h ∙ ap g (ne_eqb k.item i (λ e. ne (sym e)))

counted_none : (o : Option Handle) (i : ℕ) → o ≡ None → ◌≡◌ {A = ℕ} (cond (has_file i o) 1 0) 0
counted_none o i h = let f : Option Handle → ℕ = λ q. cond (has_file i q) 1 0 in ap f h

none_some : (o : Option Handle) → o ≡ None → ◌≡◌ {A = ℕ} (cond (has_some o) 1 0) 0
none_some o h = let f : Option Handle → ℕ = λ q. cond (has_some q) 1 0 in ap f h

-- a handle is closed
pub shut_own : (table : List (Option Handle)) (h : ℕ) (k : Handle) → h < length table → file_at table h ≡ Some k → count_by (has_file k.item) (set table h None) + 1 ≡ count_by (has_file k.item) table
shut_own table h k lt at = omega (arith, count_put (has_file k.item) table h None lt, counted (file_at table h) k at)

pub shut_other : (table : List (Option Handle)) (h : ℕ) (k : Handle) (i : ℕ) → h < length table → file_at table h ≡ Some k → i ≢ k.item → count_by (has_file i) (set table h None) ≡ count_by (has_file i) table
shut_other table h k i lt at ne = omega (arith, count_put (has_file i) table h None lt, counted_other (file_at table h) k i at ne)

pub shut_some : (table : List (Option Handle)) (h : ℕ) (k : Handle) → h < length table → file_at table h ≡ Some k → count_by has_some (set table h None) + 1 ≡ count_by has_some table
shut_some table h k lt at = omega (arith, count_put has_some table h None lt, counted_some (file_at table h) k at)

-- a handle is opened
pub opened_own : (table : List (Option Handle)) (h : ℕ) (k : Handle) → h < length table → file_at table h ≡ None → count_by (has_file k.item) (set table h (Some k)) ≡ count_by (has_file k.item) table + 1
opened_own table h k lt at = omega (arith, count_put (has_file k.item) table h (Some k) lt, counted_none (file_at table h) k.item at, counted (Some k) k refl)

pub opened_other : (table : List (Option Handle)) (h : ℕ) (k : Handle) (i : ℕ) → h < length table → file_at table h ≡ None → i ≢ k.item → count_by (has_file i) (set table h (Some k)) ≡ count_by (has_file i) table
opened_other table h k i lt at ne = omega (arith, count_put (has_file i) table h (Some k) lt, counted_none (file_at table h) i at, counted_other (Some k) k i refl ne)

pub opened_some : (table : List (Option Handle)) (h : ℕ) (k : Handle) → h < length table → file_at table h ≡ None → count_by has_some (set table h (Some k)) ≡ count_by has_some table + 1
opened_some table h k lt at = omega (arith, count_put has_some table h (Some k) lt, none_some (file_at table h) at, counted_some (Some k) k refl)

-- a value that is none of the others is none
pub none_by : (P : Option Handle → Type 0) → ((k : Handle) → P (Some k) → ⊥) → (y : Option Handle) → P y → y ≡ None
none_by P f None h = refl
none_by P f (Some k) h = absurd (f k h)

-- no handle is open in a table of nothing
pub none_open : (n handle : ℕ) → file_at (replicate n None) handle ≡ None
none_open zero handle = refl
none_open (suc n) zero = refl
none_open (suc n) (suc handle) = none_open n handle

pub count_none : (test : Option Handle → Bool) (n : ℕ) → test None ≡ false → count_by test (replicate n None) ≡ 0
count_none test zero h = refl
count_none test (suc n) h = let f : Option Handle → ℕ = λ x. cond (test x) 1 0 in let g : Bool → ℕ = λ b. cond b 1 0 in
    omega (arith, sum_by-append f (None ∷ []) (replicate n None), zero-add (f None), ap g h, count_none test n h)
