-- Which numbers are in a list of numbers.
use Rattle.std.proofs.Common.{◌≡◌, ◌≢◌, ◌⊎◌, ℕ, List, [], ◌∷◌, ◌++◌, take, sym, ap, ◌∙◌, subst, inl, inr, ⊎_elim, eq-eqb, ne_eqb, cond}
use mathlib.Core.Logic.{dite}
use native.Mathlib.Decide.{ℕ_discrete}
use Rattle.pass_lock.specs.Lists.{Has, without}

pub Has-append : (xs ys : List ℕ) (n : ℕ) → Has (xs ++ ys) n → Has xs n ⊎ Has ys n
Has-append [] ys n h = inr h
Has-append (x ∷ xs) ys n (inl e) = inl (inl e)
Has-append (x ∷ xs) ys n (inr h) = ⊎_elim (λ k. inl (inr k)) (λ k. inr k) (Has-append xs ys n h)

pub Has-append_left : (xs ys : List ℕ) (n : ℕ) → Has xs n → Has (xs ++ ys) n
Has-append_left [] ys n h = absurd h
Has-append_left (x ∷ xs) ys n (inl e) = inl e
Has-append_left (x ∷ xs) ys n (inr h) = inr (Has-append_left xs ys n h)

pub Has-append_right : (xs ys : List ℕ) (n : ℕ) → Has ys n → Has (xs ++ ys) n
Has-append_right [] ys n h = h
Has-append_right (x ∷ xs) ys n h = inr (Has-append_right xs ys n h)

-- the first number is one of them
pub Has-first : (xs : List ℕ) (n : ℕ) → take 1 xs ≡ n ∷ [] → Has xs n
Has-first [] n e = absurd cc
Has-first (x ∷ xs) n e = inl cc

pub Has-without : (n : ℕ) (xs : List ℕ) (m : ℕ) → Has (without n xs) m → Has xs m × (m ≢ n)
Has-without n [] m h = absurd h
Has-without n (x ∷ xs) m h =
    dite (ℕ_discrete x n)
    (λ e. let k = subst (λ b. Has (cond b (without n xs) (x ∷ without n xs)) m) (eq-eqb x n e) h in let r = Has-without n xs m k in (inr r.0, r.1))
    (λ ne.
    let k : (x ≡ m) ⊎ Has (without n xs) m = subst (λ b. Has (cond b (without n xs) (x ∷ without n xs)) m) (ne_eqb x n ne) h in
    ⊎_elim (λ e. (inl e, λ q. ne (e ∙ q))) (λ r. let s = Has-without n xs m r in (inr s.0, s.1)) k)

-- the other numbers stay
pub Has-without_other : (n : ℕ) (xs : List ℕ) (m : ℕ) → Has xs m → m ≢ n → Has (without n xs) m
Has-without_other n [] m h ne = absurd h
Has-without_other n (x ∷ xs) m h ne =
    dite (ℕ_discrete x n)
    (λ e.
    subst (λ b. Has (cond b (without n xs) (x ∷ without n xs)) m) (sym (eq-eqb x n e))
    (⊎_elim (λ q. absurd (ne (sym q ∙ e))) (λ k. Has-without_other n xs m k ne) h))
    (λ other.
    subst (λ b. Has (cond b (without n xs) (x ∷ without n xs)) m) (sym (ne_eqb x n other))
    (⊎_elim (λ q. inl q) (λ k. inr (Has-without_other n xs m k ne)) h))

-- the first number stays, where another is left out
pub first-without : (n : ℕ) (xs : List ℕ) (m : ℕ) → take 1 xs ≡ m ∷ [] → n ≢ m → take 1 (without n xs) ≡ m ∷ []
first-without n [] m e ne = absurd cc
first-without n (x ∷ xs) m e ne =
    let same : x ≡ m = cc in subst (λ b. take 1 (cond b (without n xs) (x ∷ without n xs)) ≡ m ∷ []) (sym (ne_eqb x n (λ q. ne (sym q ∙ same)))) (ap (λ (y : ℕ). y ∷ []) same)

pub first-append : (xs ys : List ℕ) (m : ℕ) → take 1 xs ≡ m ∷ [] → take 1 (xs ++ ys) ≡ m ∷ []
first-append [] ys m e = absurd cc
first-append (x ∷ xs) ys m e = e
