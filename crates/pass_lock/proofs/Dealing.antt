-- No number stands in two views, however views are cut and joined.
use Rattle.std.proofs.Common.{◌≡◌, ◌≢◌, ◌⊎◌, ℕ, zero, suc, ◌+◌, ◌<◌, ◌≤◌, Bool, List, [], ◌∷◌, ◌++◌, length, set, eqb, cond, refl, sym, ap, ◌∙◌, subst, inl, inr, ⊎_elim, arith, eq-eqb, ne_eqb}
use mathlib.Core.Option.{some, some-injective, some-ne-none}
use lib.ListN.{get_elem?}
use Rattle.atomic_table.proofs.Lists.{at_set, set_here}
use Rattle.pass_lock.specs.Lists.{Has}
use Rattle.pass_lock.specs.Rule.{HoldsNumber, Dealt, made_with, counted_up, fresh, left_without, only, beside, spent}
use Rattle.pass_lock.specs.declared.view.View.{View}
use Rattle.pass_lock.proofs.Numbers.{Has-without}

module _ {A : Type 0} where
  pub at_inside : (l : List A) (i : ℕ) (a : A) → get_elem? l i ≡ some a → i < length l
  at_inside [] i a e = absurd (some-ne-none a (sym e))
  at_inside (x ∷ xs) zero a e = omega arith
  at_inside (x ∷ xs) (suc i) a e = let h = at_inside xs i a e in omega arith

  pub at_one : (l : List A) (i : ℕ) (a b : A) → get_elem? l i ≡ some a → get_elem? l i ≡ some b → a ≡ b
  at_one l i a b e f = some-injective a b (sym e ∙ f)

  -- the last of a longer list stands at the end
  pub at_end : (l : List A) (a b : A) (j : ℕ) → get_elem? (l ++ a ∷ []) j ≡ some b → (get_elem? l j ≡ some b) ⊎ ((j ≡ length l) × (a ≡ b))
  at_end [] a b zero e = inr (refl, some-injective a b e)
  at_end [] a b (suc j) e = absurd (some-ne-none b (sym e))
  at_end (x ∷ xs) a b zero e = inl e
  at_end (x ∷ xs) a b (suc j) e = ⊎_elim (λ h. inl h) (λ t. inr (ap suc t.0, t.1)) (at_end xs a b j e)

  -- a fact of each seat, after one of them changed
  pub set_each : (P : ℕ → A → Type 0) (l : List A) (i : ℕ) (a : A) → P i a → ((j : ℕ) (b : A) → j ≢ i → get_elem? l j ≡ some b → P j b) → (j : ℕ) (b : A) → get_elem? (set l i a) j ≡ some b → P j b
  set_each P l i a here others j b e =
      ⊎_elim
      (λ (t : (j ≡ i) × (a ≡ b)). subst (λ (z : ℕ × A). P z.0 z.1) (λ k. (sym t.0 k, t.1 k)) here)
      (λ (t : (j ≢ i) × (get_elem? l j ≡ some b)). others j b t.0 t.1)
      (at_set l i j a b e)

  -- and after one more came
  pub end_each : (P : ℕ → A → Type 0) (l : List A) (a : A) → P (length l) a → ((j : ℕ) (b : A) → get_elem? l j ≡ some b → P j b) → (j : ℕ) (b : A) → get_elem? (l ++ a ∷ []) j ≡ some b → P j b
  end_each P l a last others j b e =
      ⊎_elim
      (λ (h : get_elem? l j ≡ some b). others j b h)
      (λ (t : (j ≡ length l) × (a ≡ b)). subst (λ (z : ℕ × A). P z.0 z.1) (λ k. (sym t.0 k, t.1 k)) last)
      (at_end l a b j e)

made_with_zero : (n made : ℕ) → n ≡ 0 → made_with n made ≡ made
made_with_zero n made e = ap (λ (b : Bool). cond b made 0) (eq-eqb n 0 e)

-- where the numbers of a seat are, once the seat i has taken in the other
abbrev join_to : ℕ → ℕ → ℕ → ℕ
join_to i other j = cond (eqb j other) i j

module _ {E T : Type 0} where
  -- the seat i had the number n
  pub record Had (views : List (View E T)) (move : ℕ → ℕ) (j : ℕ) (u : (View E T)) (n : ℕ) : Type 0 where
    pub seat : ℕ
    pub view : (View E T)
    pub at : get_elem? views seat ≡ some view
    pub holds : HoldsNumber view n
    pub moved : j ≡ move seat
    pub made : n ≡ 0 → view.made ≤ u.made

  -- each holder of a number was one before, or has it from one
  pub dealt_from : (views views' : List (View E T)) (move : ℕ → ℕ) → Dealt views → ((j : ℕ) (u : (View E T)) (n : ℕ) → get_elem? views' j ≡ some u → HoldsNumber u n → Had views move j u n) → Dealt views'
  dealt_from views views' move d from = record {
    apart = λ i j n v w a b h k.
        let o = from i v n a h in
        let p = from j w n b k in
        let same : o.seat ≡ p.seat = d.apart o.seat p.seat n o.view p.view o.at p.at o.holds p.holds in
        o.moved ∙ (ap move same ∙ sym p.moved);
    below = λ i j n v w a b h k.
        let o = from i v 0 a h in
        let p = from j w n b k in
        let lt : n < o.view.made = d.below o.seat p.seat n o.view p.view o.at p.at o.holds p.holds in
        let more : o.view.made ≤ v.made = o.made refl in
        omega arith;
  }

  -- one view changes, and holds no number that it didn't hold
  pub dealt_set : (views : List (View E T)) (i : ℕ) (v w : (View E T)) → Dealt views → get_elem? views i ≡ some v → ((n : ℕ) → HoldsNumber w n → HoldsNumber v n) → v.made ≤ w.made → Dealt (set views i w)
  dealt_set views i v w d at fewer more =
      dealt_from views (set views i w) (λ (j : ℕ). j) d
      (λ j u n e. set_each (λ (k : ℕ) (x : (View E T)). HoldsNumber x n → Had views (λ (j : ℕ). j) k x n) views i w
      (λ h. record { seat = i; view = v; at = at; holds = fewer n h; moved = refl; made = λ _. more })
      (λ k x _ f h. record { seat = k; view = x; at = f; holds = h; moved = refl; made = λ _. omega arith })
      j u e)

  -- One more view: its numbers stand in no other
  pub record Apart (views : List (View E T)) (r : (View E T)) : Type 0 where
    pub others : (i n : ℕ) (u : (View E T)) → get_elem? views i ≡ some u → HoldsNumber u n → HoldsNumber r n → ⊥
    pub counts : HoldsNumber r 0 → (i n : ℕ) (u : (View E T)) → get_elem? views i ≡ some u → HoldsNumber u n → n < r.made
    pub counts_own : HoldsNumber r 0 → (n : ℕ) → HoldsNumber r n → n < r.made
    pub counted : (i n : ℕ) (u : (View E T)) → get_elem? views i ≡ some u → HoldsNumber u 0 → HoldsNumber r n → n < u.made

  pub dealt_more : (views : List (View E T)) (r : (View E T)) → Dealt views → Apart views r → Dealt (views ++ r ∷ [])
  dealt_more views r d a = record {
    apart = λ i j n v w e f h k.
        end_each (λ (i : ℕ) (v : (View E T)). HoldsNumber v n → i ≡ j) views r
        (λ h. end_each (λ (j : ℕ) (w : (View E T)). HoldsNumber w n → length views ≡ j) views r (λ _. refl) (λ j w f k. absurd (a.others j n w f k h)) j w f k)
        (λ i v e h. end_each (λ (j : ℕ) (w : (View E T)). HoldsNumber w n → i ≡ j) views r (λ k. absurd (a.others i n v e h k)) (λ j w f k. d.apart i j n v w e f h k) j w f k)
        i v e h;
    below = λ i j n v w e f h k.
        end_each (λ (i : ℕ) (v : (View E T)). HoldsNumber v 0 → n < v.made) views r
        (λ h. end_each (λ (j : ℕ) (w : (View E T)). HoldsNumber w n → n < r.made) views r (λ k. a.counts_own h n k) (λ j w f k. a.counts h j n w f k) j w f k)
        (λ i v e h. end_each (λ (j : ℕ) (w : (View E T)). HoldsNumber w n → n < v.made) views r (λ k. a.counted i n v e h k) (λ j w f k. d.below i j n v w e f h k) j w f k)
        i v e h;
  }

  -- a new number goes to a new view
  pub dealt_fresh : (views : List (View E T)) (i : ℕ) (v : (View E T)) → Dealt views → get_elem? views i ≡ some v → Has v.numbers 0 → Dealt (set views i (counted_up v) ++ fresh v ∷ [])
  dealt_fresh views i v d at zeroth =
      let inside : i < length views = at_inside views i v at in
      let here = set_here views i (counted_up v) inside in
      let d' : Dealt (set views i (counted_up v)) = dealt_set views i v (counted_up v) d at (λ n. ⊎_elim (λ h. inl h) (λ h. absurd h)) (omega arith) in
      let positive : 0 < v.made = d.below i i 0 v v at at (inl zeroth) (inl zeroth) in
      let is_made : (n : ℕ) → HoldsNumber (fresh v) n → v.made ≡ n = λ n. ⊎_elim (⊎_elim (λ e. e) (λ h. absurd h)) (λ h. absurd h) in
      dealt_more (set views i (counted_up v)) (fresh v) d'
      record {
        others = λ j n u e h k.
            set_each (λ (j : ℕ) (u : (View E T)). HoldsNumber u n → ⊥) views i (counted_up v)
            (λ h. let q = is_made n k in let old = ⊎_elim (λ x. d.below i i n v v at at (inl zeroth) (inl x)) (λ x. absurd x) h in omega arith)
            (λ j u _ e h. let q = is_made n k in let old = d.below i j n v u at e (inl zeroth) h in omega arith)
            j u e h;
        counts = λ h. let q = is_made 0 h in absurd (omega arith);
        counts_own = λ h. let q = is_made 0 h in absurd (omega arith);
        counted = λ j n u e h k.
            set_each (λ (j : ℕ) (u : (View E T)). HoldsNumber u 0 → n < u.made) views i (counted_up v)
            (λ h. let q = is_made n k in omega arith)
            (λ j u ne e h. absurd (ne (d.apart j i 0 u v e at h (inl zeroth))))
            j u e h;
      }

  -- a number that a view held goes to a view of its own
  pub dealt_out : (views : List (View E T)) (i : ℕ) (v : (View E T)) (n : ℕ) → Dealt views → get_elem? views i ≡ some v → Has v.numbers n → Dealt (set views i (left_without n v) ++ only n v ∷ [])
  dealt_out views i v n d at has =
      let left : (m : ℕ) → HoldsNumber (left_without n v) m → Has v.numbers m × (m ≢ n) = λ m. ⊎_elim (λ h. Has-without n v.numbers m h) (λ h. absurd h) in
      let d' : Dealt (set views i (left_without n v)) = dealt_set views i v (left_without n v) d at (λ m h. inl (left m h).0) (omega arith) in
      let is_n : (m : ℕ) → HoldsNumber (only n v) m → n ≡ m = λ m. ⊎_elim (⊎_elim (λ e. e) (λ h. absurd h)) (λ h. absurd h) in
      let all_below : n ≡ 0 → (m : ℕ) → m < v.made → m < made_with n v.made = λ z m lt. subst (λ (k : ℕ). m < k) (sym (made_with_zero n v.made z)) lt in
      let zeroth : n ≡ 0 → HoldsNumber v 0 = λ z. inl (subst (λ (k : ℕ). Has v.numbers k) z has) in
      dealt_more (set views i (left_without n v)) (only n v) d'
      record {
        others = λ j m u e h k.
            set_each (λ (j : ℕ) (u : (View E T)). HoldsNumber u m → ⊥) views i (left_without n v)
            (λ h. (left m h).1 (sym (is_n m k)))
            (λ j u ne e h. ne (d.apart j i n u v e at (subst (λ (z : ℕ). HoldsNumber u z) (sym (is_n m k)) h) (inl has)))
            j u e h;
        counts = λ z j m u e h.
            set_each (λ (j : ℕ) (u : (View E T)). HoldsNumber u m → m < made_with n v.made) views i (left_without n v)
            (λ h. all_below (is_n 0 z) m (d.below i i m v v at at (zeroth (is_n 0 z)) (inl (left m h).0)))
            (λ j u _ e h. all_below (is_n 0 z) m (d.below i j m v u at e (zeroth (is_n 0 z)) h))
            j u e h;
        counts_own = λ z m h. all_below (is_n 0 z) m (d.below i i m v v at at (zeroth (is_n 0 z)) (inl (subst (λ (k : ℕ). Has v.numbers k) (is_n m h) has)));
        counted = λ j m u e h k.
            let has_m : HoldsNumber v m = inl (subst (λ (z : ℕ). Has v.numbers z) (is_n m k) has) in
            set_each (λ (j : ℕ) (u : (View E T)). HoldsNumber u 0 → m < u.made) views i (left_without n v)
            (λ h. d.below i i m v v at at (inl (left 0 h).0) has_m)
            (λ j u _ e h. d.below j i m u v e at h has_m)
            j u e h;
      }

  -- a view of no number
  pub dealt_note : (views : List (View E T)) (r : (View E T)) → Dealt views → ((n : ℕ) → HoldsNumber r n → ⊥) → Dealt (views ++ r ∷ [])
  dealt_note views r d none = dealt_more views r d record {
    others = λ i n u e h k. none n k;
    counts = λ z. absurd (none 0 z);
    counts_own = λ z. absurd (none 0 z);
    counted = λ i n u e h k. absurd (none n k);
  }

  -- one view takes in the numbers of another
  pub dealt_join : (views : List (View E T)) (i other : ℕ) (v w : (View E T)) → Dealt views → get_elem? views i ≡ some v → get_elem? views other ≡ some w → other ≢ i → v.told_numbers ≡ [] → w.told_numbers ≡ []
      → Dealt (set (set views i (beside v w)) other spent)
  dealt_join views i other v w d at there ne v_told w_told =
      let move : ℕ → ℕ = join_to i other in
      let stays : (j : ℕ) → j ≢ other → j ≡ move j = λ j n. sym (ap (λ b. cond b i j) (ne_eqb j other n)) in
      let goes : i ≡ move other = sym (ap (λ b. cond b i other) (eq-eqb other other refl)) in
      dealt_from views (set (set views i (beside v w)) other spent) move d
      (λ j u n e.
      set_each (λ (k : ℕ) (x : (View E T)). HoldsNumber x n → Had views move k x n) (set views i (beside v w)) other spent
      (⊎_elim (λ h. absurd h) (λ h. absurd h))
      (λ k x k_ne f.
      set_each (λ (k : ℕ) (x : (View E T)). k ≢ other → HoldsNumber x n → Had views move k x n) views i (beside v w)
      (λ i_ne. ⊎_elim
      (λ h. record { seat = i; view = v; at = at; holds = inl h; moved = stays i i_ne; made = λ _. omega arith })
      (λ h. record { seat = other; view = w; at = there; holds = inl h; moved = goes; made = λ _. omega arith }))
      (λ k x _ f k_ne h. record { seat = k; view = x; at = f; holds = h; moved = stays k k_ne; made = λ _. omega arith })
      k x f k_ne)
      j u e)
