-- Each step on a lock's table keeps its rule.
use Rattle.std.proofs.Common.{◌≡◌, ◌≢◌, ◌⊎◌, ℕ, zero, suc, ◌+◌, ◌<◌, ◌≤◌, Bool, true, false, true≢false, List, [], ◌∷◌, ◌++◌, length, get_or, set, eqb, Option, Some, None, refl, sym, ap, ◌∙◌, subst, inl, inr, ⊎_elim, arith, length-set, get_or-set_other, get_or-set_same, eq-eqb, ne_eqb}
use mathlib.Core.Option.{some, none, some-injective, some-ne-none}
use mathlib.Core.Logic.{dite}
use native.Mathlib.Decide.{ℕ_discrete, dec_lt}
use lib.ListN.{get_elem?}
use lib.Seq.{set-get_or}
use prog.Atomic.{either}
use Rattle.atomic_table.specs.Table.{State, Me, step, keeps, takes, gives, rest, stepped, opening, Allows, Splits, Joins, Final, Seen}
use Rattle.atomic_table.proofs.Lists.{set_here, set_else, set_again, at_longer}
use Rattle.pass_lock.specs.Lists.{Has, without, entries_of, GoesOn, BelongsTo, GrowsBy}
use Rattle.pass_lock.specs.Rule.{HoldsNumber, Dealt, Knows, Kept, first_view, made_with, holding, idle, counted_up, fresh, left_without, only, note, beside, spent, settled, released, raised, looked, merged, HasTaken, took}
use Rattle.pass_lock.specs.declared.view.View.{View}
use Rattle.pass_lock.proofs.Numbers.{Has-append, Has-without}
use Rattle.pass_lock.proofs.Growing.{none_before, none_after, same_entries, none_of, goes_on_refl, goes_on_more, goes_on_entries, joined}
use Rattle.pass_lock.proofs.Dealing.{at_inside, at_one, set_each, end_each, dealt_set, dealt_fresh, dealt_out, dealt_note, dealt_join}

off : {b : Bool} → b ≡ false → b ≡ true → ⊥
off is_off is_on = true≢false (sym is_on ∙ is_off)

pub same_some : {T : Type 0} (x y : T) → Some x ≡ Some y → x ≡ y
same_some x y e = cc

first_slot : {S : Type 0} → List (ℕ × Option S) → Option S
first_slot [] = None
first_slot (p ∷ ps) = p.1

-- the state that a seat holds
same_slot : {S : Type 0} (c : List (ℕ × Option S)) (x y : S) → c ≡ (0, Some x) ∷ [] → c ≡ (0, Some y) ∷ [] → x ≡ y
unfolding first_slot
same_slot c x y e f = same_some x y (sym (ap first_slot e) ∙ ap first_slot f)

module _ {S E T : Type 0} (entries : S → List E) (belongs : E → ℕ → Bool) (terms : S → T) where
  abbrev V : Type 0
  V = View E T

  abbrev St : Type 0
  St = State (Option S) V

  abbrev M : Type 0
  M = Me (Option S) V

  abbrev Rule : St → Type 0
  Rule = Kept entries belongs terms

  abbrev locked : St → ℕ
  locked s = get_or s.words 0 0

  -- views change, and neither the words nor the slot
  review : (s : St) (k : Rule s) (views : List V) → ((v : V) → get_elem? s.views k.holder ≡ some v → v.holds ≡ true → get_elem? views k.holder ≡ some v)
      → ((j : ℕ) (v : V) → get_elem? views j ≡ some v → Knows belongs (locked s) k.log k.about k.holder j v) → Dealt views → Rule record { words = s.words; homes = s.homes; views = views }
  review s k views stays each dealt = record {
    log = k.log;
    about = k.about;
    holder = k.holder;
    wide = k.wide;
    counted = k.counted;
    home = k.home;
    held = λ ne. let h = k.held ne in (h.0, stays h.0 h.1 h.2, h.2);
    each = each;
    dealt = dealt;
  }

  -- a step that leaves its word as it was
  unmoved : (s : St) (i id : ℕ) (cs : List (ℕ × Option S)) (w : V) → Rule record { words = s.words; homes = s.homes; views = set s.views id w } → Rule (stepped s i (get_or s.words i 0) id cs w keeps)
  unmoved s i id cs w kept = subst (λ (ws : List ℕ). Rule record { words = ws; homes = s.homes; views = set s.views id w }) (sym (set-get_or s.words i 0)) kept

  -- nothing changes
  still : (s : St) (k : Rule s) (i id : ℕ) (cs : List (ℕ × Option S)) (v : V) → get_elem? s.views id ≡ some v → Rule (stepped s i (get_or s.words i 0) id cs v keeps)
  still s k i id cs v at = unmoved s i id cs v (subst (λ (vs : List V). Rule record { words = s.words; homes = s.homes; views = vs }) (sym (set_again s.views id v at)) k)

  -- a seat that doesn't hold isn't the holder
  not_holder : (s : St) (k : Rule s) (id : ℕ) (v : V) → get_elem? s.views id ≡ some v → v.holds ≡ false → (u : V) → get_elem? s.views k.holder ≡ some u → u.holds ≡ true → k.holder ≢ id
  not_holder s k id v at free u there holds same =
      off free (ap (λ (z : V). z.holds) (at_one s.views id v u at (subst (λ (z : ℕ). get_elem? s.views z ≡ some u) same there)) ∙ holds)

  -- the state leaves its slot, and the word is no more 0
  taken : (s : St) (k : Rule s) (id new : ℕ) (v : V) (x : S) → new ≢ 0 → get_elem? s.views id ≡ some v → locked s ≡ 0 → entries x ≡ k.log → ((n : ℕ) × Has v.numbers n)
      → Rule record { words = set s.words 0 new; homes = set s.homes 0 none; views = set s.views id (holding v (entries x)) }
  taken s k id new v x is_new at free same number =
      let w : V = holding v (entries x) in
      let wide = k.wide in
      let mine = k.each id v at in
      let now : get_or (set s.words 0 new) 0 0 ≡ new = get_or-set_same s.words 0 new 0 (omega arith) in
      record {
        log = k.log;
        about = k.about;
        holder = id;
        wide = length-set s.words 0 new ∙ wide;
        counted = get_or-set_other s.words 0 1 new 0 (λ e. omega arith) ∙ k.counted;
        home = λ e. absurd (is_new (sym now ∙ e));
        held = λ _. (w, set_here s.views id w (at_inside s.views id v at), refl);
        each = subst (λ (z : ℕ). (j : ℕ) (u : V) → get_elem? (set s.views id w) j ≡ some u → Knows belongs z k.log k.about id j u) (sym now)
            (set_each (λ (j : ℕ) (u : V). Knows belongs new k.log k.about id j u) s.views id w
            record {
              list = subst (λ (l : List E). GoesOn belongs v.numbers l k.log) (sym same) (goes_on_refl belongs v.numbers k.log);
              told = mine.told;
              holding = λ _. (is_new, refl, same);
              numbered = λ _. number;
              agreed = mine.agreed;
              unmade = mine.unmade;
            }
            (λ j u _ e.
            let know = k.each j u e in
            record {
              list = know.list;
              told = know.told;
              holding = λ holds. absurd ((know.holding holds).0 free);
              numbered = know.numbered;
              agreed = know.agreed;
              unmade = know.unmade;
            }));
        dealt = dealt_set s.views id v w k.dealt at (λ n h. h) (omega arith);
      }

  -- the word of a lock that is out stays other than 0
  awaited : (s : St) (k : Rule s) (id new : ℕ) (cs : List (ℕ × Option S)) (v : V) → new ≢ 0 → locked s ≢ 0 → get_elem? s.views id ≡ some v → Rule (stepped s 0 new id cs v keeps)
  awaited s k id new cs v is_new busy at =
      let wide = k.wide in
      let now : get_or (set s.words 0 new) 0 0 ≡ new = get_or-set_same s.words 0 new 0 (omega arith) in
      subst (λ (vs : List V). Rule record { words = set s.words 0 new; homes = s.homes; views = vs }) (sym (set_again s.views id v at))
      record {
        log = k.log;
        about = k.about;
        holder = k.holder;
        wide = length-set s.words 0 new ∙ wide;
        counted = get_or-set_other s.words 0 1 new 0 (λ e. omega arith) ∙ k.counted;
        home = λ e. absurd (is_new (sym now ∙ e));
        held = λ _. k.held busy;
        each = subst (λ (z : ℕ). (j : ℕ) (u : V) → get_elem? s.views j ≡ some u → Knows belongs z k.log k.about k.holder j u) (sym now)
            (λ j u e.
            let know = k.each j u e in
            record {
              list = know.list;
              told = know.told;
              holding = λ holds. (is_new, (know.holding holds).1, (know.holding holds).2);
              numbered = know.numbered;
              agreed = know.agreed;
              unmade = know.unmade;
            });
        dealt = k.dealt;
      }

  -- what a seat is told that tries to take the lock, by a step that sets the word to `new` where it was 0
  free_told : (s : St) (k : Rule s) (id : ℕ) (me : M) → ((n : ℕ) × Has me.0.numbers n) → get_elem? s.views id ≡ some me.0 → (free : locked s ≡ 0) → (x : S) → entries x ≡ k.log → terms x ≡ k.about
      → HasTaken entries belongs terms me (holding me.0 (entries x), (0, Some x) ∷ me.1)
  free_told s k id me number at free x same about =
      let mine = k.each id me.0 at in (
        x,
        refl,
        refl,
        subst (λ (l : List E). GoesOn belongs me.0.numbers me.0.seen l) (sym same) mine.list,
        mine.agreed number.0 (inl number.1) ∙ ap (λ (z : T). Some z) (sym about),
      )

  pub tries : (slots id new : ℕ) (me : M) → new ≢ 0 → ((n : ℕ) × Has me.0.numbers n) → Allows Rule slots id me 0 (λ n. either (eqb n 0) new n) (took entries belongs terms (step slots 0 0 new none) me)
  tries slots id new me is_new number s k _ at _ =
      dite (ℕ_discrete (locked s) 0)
      (λ free.
      let h = k.home free in
      let w : V = holding me.0 (entries h.0) in (
        w,
        takes 0 (Some h.0),
        h.1,
        subst (λ b. Rule (stepped s 0 (either b new (locked s)) id me.1 w (takes 0 (Some h.0)))) (sym (eq-eqb (locked s) 0 free)) (taken s k id new me.0 h.0 is_new at free h.2 number),
        ((λ _. free_told s k id me number at free h.0 h.2 h.3), (λ ne. absurd (ne free))),
      ))
      (λ busy. (
        me.0,
        keeps,
        tt,
        subst (λ b. Rule (stepped s 0 (either b new (locked s)) id me.1 me.0 keeps)) (sym (ne_eqb (locked s) 0 busy)) (still s k 0 id me.1 me.0 at),
        ((λ free. absurd (busy free)), (λ _. refl)),
      ))

  pub awaits : (slots id new : ℕ) (me : M) → new ≢ 0 → ((n : ℕ) × Has me.0.numbers n) → Allows Rule slots id me 0 (λ _. new) (took entries belongs terms (step slots 0 new 0 none) me)
  awaits slots id new me is_new number s k _ at _ =
      dite (ℕ_discrete (locked s) 0)
      (λ free.
      let h = k.home free in (
        holding me.0 (entries h.0),
        takes 0 (Some h.0),
        h.1,
        taken s k id new me.0 h.0 is_new at free h.2 number,
        ((λ _. free_told s k id me number at free h.0 h.2 h.3), (λ ne. absurd (ne free))),
      ))
      (λ busy. (me.0, keeps, tt, awaited s k id new me.1 me.0 is_new busy at, ((λ free. absurd (busy free)), (λ _. refl))))

  pub raises : (slots id : ℕ) (me : M) (y : S) (count : ℕ) → me.0.holds ≡ true → me.0.told_numbers ≡ [] → me.1 ≡ (0, Some y) ∷ [] → GrowsBy belongs me.0.numbers me.0.seen (entries y) → count ≡ length (entries y)
      → Allows Rule slots id me 1 (λ _. count) (λ _. raised entries (step slots 1 count 0 none) me count)
  raises slots id me y count holds untold slot g long s k _ at _ =
      let v : V = me.0 in
      let w : V = holding v (entries y) in
      let wide = k.wide in
      let mine = k.each id v at in
      let here = mine.holding holds in
      let grown : entries y ≡ k.log ++ g.added = g.is ∙ ap (λ (l : List E). l ++ g.added) here.2 in
      let now : get_or (set s.words 1 count) 0 0 ≡ locked s = get_or-set_other s.words 1 0 count 0 (λ e. omega arith) in
      let others : (n : ℕ) → (Has v.numbers n → ⊥) → entries_of belongs n g.added ≡ [] = λ n. none_of belongs v.numbers g.added n g.own in
      let unmade : (n : ℕ) → entries_of belongs n k.log ≡ [] → (Has v.numbers n → ⊥) → entries_of belongs n (k.log ++ g.added) ≡ [] = λ n before out.
      same_entries belongs n (k.log ++ g.added) k.log g.added refl (others n out) ∙ before in (
        w,
        keeps,
        tt,
        record {
          log = entries y;
          about = k.about;
          holder = id;
          wide = length-set s.words 1 count ∙ wide;
          counted = get_or-set_same s.words 1 count 0 (omega arith) ∙ long;
          home = λ e. absurd (here.0 (sym now ∙ e));
          held = λ _. (w, set_here s.views id w (at_inside s.views id v at), refl);
          each = subst (λ (z : ℕ). (j : ℕ) (u : V) → get_elem? (set s.views id w) j ≡ some u → Knows belongs z (entries y) k.about id j u) (sym now)
              (set_each (λ (j : ℕ) (u : V). Knows belongs (locked s) (entries y) k.about id j u) s.views id w
              record {
                list = goes_on_refl belongs v.numbers (entries y);
                told = subst (λ (l : List E). GoesOn belongs v.told_numbers v.told l) (sym grown)
                    (goes_on_more belongs v.told_numbers v.told k.log g.added mine.told (λ n h. absurd (subst (λ (l : List ℕ). Has l n) untold h)));
                holding = λ _. (here.0, refl, refl);
                numbered = λ _. mine.numbered holds;
                agreed = mine.agreed;
                unmade = λ z n le. subst (λ (l : List E). entries_of belongs n l ≡ []) (sym grown)
                    (unmade n (mine.unmade z n le) (λ h. let lt = k.dealt.below id id n v v at at z (inl h) in omega arith));
              }
              (λ j u ne e.
              let know = k.each j u e in
              let apart : (n : ℕ) → HoldsNumber u n → Has v.numbers n → ⊥ = λ n h m. ne (k.dealt.apart j id n u v e at h (inl m)) in
              record {
                list = subst (λ (l : List E). GoesOn belongs u.numbers u.seen l) (sym grown) (goes_on_more belongs u.numbers u.seen k.log g.added know.list (λ n h. others n (apart n (inl h))));
                told = subst (λ (l : List E). GoesOn belongs u.told_numbers u.told l) (sym grown)
                    (goes_on_more belongs u.told_numbers u.told k.log g.added know.told (λ n h. others n (apart n (inr h))));
                holding = λ yes. absurd (ne ((know.holding yes).1 ∙ sym here.1));
                numbered = know.numbered;
                agreed = know.agreed;
                unmade = λ z n le. subst (λ (l : List E). entries_of belongs n l ≡ []) (sym grown)
                    (unmade n (know.unmade z n le) (λ h. let lt = k.dealt.below j id n u v e at z (inl h) in omega arith));
              }));
          dealt = dealt_set s.views id v w k.dealt at (λ n h. h) (omega arith);
        },
        (refl, λ y' e. ap (λ (z : S). holding v (entries z)) (same_slot me.1 y y' slot e)),
      )

  pub releases : (slots id : ℕ) (me : M) (y : S) → slots ≡ 1 → me.0.holds ≡ true → me.1 ≡ (0, Some y) ∷ [] → me.0.seen ≡ entries y → me.0.terms ≡ Some (terms y)
      → Allows Rule slots id me 0 (λ _. 0) (released (step slots 0 0 0 none) me)
  releases slots id me y one holds slot seen agreed s k few at _ =
      let v : V = me.0 in
      let w : V = idle v in
      let wide = k.wide in
      let mine = k.each id v at in
      let here = mine.holding holds in
      let number = mine.numbered holds in
      let now : get_or (set s.words 0 0) 0 0 ≡ 0 = get_or-set_same s.words 0 0 0 (omega arith) in
      let kept : Rule record { words = set s.words 0 0; homes = set s.homes 0 (some (Some y)); views = set s.views id w } = record {
        log = k.log;
        about = k.about;
        holder = id;
        wide = length-set s.words 0 0 ∙ wide;
        counted = get_or-set_other s.words 0 1 0 0 (λ e. omega arith) ∙ k.counted;
        home = λ _. (y, set_here s.homes 0 (some (Some y)) (omega arith), sym seen ∙ here.2, same_some (terms y) k.about (sym agreed ∙ mine.agreed number.0 (inl number.1)));
        held = λ ne. absurd (ne now);
        each = subst (λ (z : ℕ). (j : ℕ) (u : V) → get_elem? (set s.views id w) j ≡ some u → Knows belongs z k.log k.about id j u) (sym now)
            (set_each (λ (j : ℕ) (u : V). Knows belongs 0 k.log k.about id j u) s.views id w
            record {
              list = mine.list;
              told = mine.told;
              holding = λ yes. absurd (true≢false (sym yes));
              numbered = λ yes. absurd (true≢false (sym yes));
              agreed = mine.agreed;
              unmade = mine.unmade;
            }
            (λ j u ne e.
            let know = k.each j u e in
            record {
              list = know.list;
              told = know.told;
              holding = λ yes. absurd (ne ((know.holding yes).1 ∙ sym here.1));
              numbered = know.numbered;
              agreed = know.agreed;
              unmade = know.unmade;
            }));
        dealt = dealt_set s.views id v w k.dealt at (λ n h. h) (omega arith);
      } in (
        w,
        gives,
        tt,
        subst (λ (c : List (ℕ × Option S)). Rule (stepped s 0 0 id c w gives)) (sym slot) kept,
        (refl, ap (λ (c : List (ℕ × Option S)). rest c) slot),
      )

  pub looks : (slots id : ℕ) (me : M) → Allows Rule slots id me 1 (λ n. n) (looked belongs (step slots 1 0 0 none) me)
  looks slots id me s k _ at _ =
      let mine = k.each id me.0 at in (
        me.0,
        keeps,
        tt,
        still s k 1 id me.1 me.0 at,
        (refl, λ z. (k.dealt.below id id 0 me.0 me.0 at at z z, λ n le. none_before belongs n k.log me.0.seen mine.list.rest mine.list.is (mine.unmade z n le))),
      )

  pub merges : (slots id : ℕ) (me : M) → me.0.holds ≡ false → Allows Rule slots id me 1 (λ n. n) (merged belongs (step slots 1 0 0 none) me)
  merges slots id me free s k _ at _ =
      let v : V = me.0 in
      let w : V = settled v in
      let mine = k.each id v at in
      let j = joined belongs v.numbers v.told_numbers v.seen v.told k.log mine.list mine.told in
      let fewer : (n : ℕ) → HoldsNumber w n → HoldsNumber v n = λ n. ⊎_elim (λ h. Has-append v.numbers v.told_numbers n h) (λ h. absurd h) in (
        w,
        keeps,
        tt,
        unmoved s 1 id me.1 w
            (review s k (set s.views id w) (λ u there yes. set_else s.views id k.holder w (not_holder s k id v at free u there yes) ∙ there)
            (set_each (λ (i : ℕ) (u : V). Knows belongs (locked s) k.log k.about k.holder i u) s.views id w
            record {
              list = j.all;
              told = record { rest = k.log; is = refl; none = λ n h. absurd h };
              holding = λ yes. absurd (true≢false (sym yes));
              numbered = λ yes. absurd (true≢false (sym yes));
              agreed = λ n h. mine.agreed n (fewer n h);
              unmade = λ z. mine.unmade (fewer 0 z);
            }
            (λ i u _ e. k.each i u e))
            (dealt_set s.views id v w k.dealt at fewer (omega arith))),
        (refl, refl, j.starts_first, j.starts_second, j.firsts, j.seconds),
      )

  -- a seat is cut in two, of which neither holds the state
  cut : (s : St) (k : Rule s) (id : ℕ) (v left right : V) → get_elem? s.views id ≡ some v → v.holds ≡ false → Knows belongs (locked s) k.log k.about k.holder id left
      → ((j : ℕ) → Knows belongs (locked s) k.log k.about k.holder j right) → Dealt (set s.views id left ++ right ∷ []) → Rule record { words = s.words; homes = s.homes; views = set s.views id left ++ right ∷ [] }
  cut s k id v left right at free knows_left knows_right dealt =
      review s k (set s.views id left ++ right ∷ [])
      (λ u there yes. at_longer (set s.views id left) (right ∷ []) k.holder u (set_else s.views id k.holder left (not_holder s k id v at free u there yes) ∙ there))
      (end_each (λ (j : ℕ) (u : V). Knows belongs (locked s) k.log k.about k.holder j u) (set s.views id left) right (knows_right (length (set s.views id left)))
      (set_each (λ (j : ℕ) (u : V). Knows belongs (locked s) k.log k.about k.holder j u) s.views id left knows_left (λ j u _ e. k.each j u e)))
      dealt

  -- what a view of these numbers knows, that has seen as much as v
  knows_with : (log : List E) (about : T) (lock holder j : ℕ) (v : V) (numbers : List ℕ) (made : ℕ) (list : GoesOn belongs v.numbers v.seen log) → ((n : ℕ) → Has numbers n → entries_of belongs n list.rest ≡ [])
      → ((n : ℕ) → Has numbers n → v.terms ≡ Some about) → (Has numbers 0 → (n : ℕ) → made ≤ n → entries_of belongs n log ≡ [])
      → Knows belongs lock log about holder j record { seen = v.seen; numbers = numbers; told = []; told_numbers = []; made = made; holds = false; terms = v.terms }
  knows_with log about lock holder j v numbers made list clear agreed unmade = record {
    list = record { rest = list.rest; is = list.is; none = clear };
    told = record { rest = log; is = refl; none = λ n h. absurd h };
    holding = λ is_on. absurd (true≢false (sym is_on));
    numbered = λ is_on. absurd (true≢false (sym is_on));
    agreed = λ n. ⊎_elim (λ h. agreed n h) (λ h. absurd h);
    unmade = ⊎_elim (λ h. unmade h) (λ h. absurd h);
  }

  pub splits_fresh : (id : ℕ) (v : V) → v.holds ≡ false → Has v.numbers 0 → Splits Rule id v (counted_up v) (fresh v)
  splits_fresh id v free zeroth s k at =
      let mine = k.each id v at in
      let positive : 0 < v.made = k.dealt.below id id 0 v v at at (inl zeroth) (inl zeroth) in
      let unmade : (n : ℕ) → v.made ≤ n → entries_of belongs n k.log ≡ [] = mine.unmade (inl zeroth) in
      cut s k id v (counted_up v) (fresh v) at free
      (knows_with k.log k.about (locked s) k.holder id v v.numbers (v.made + 1) mine.list mine.list.none (λ n h. mine.agreed n (inl h)) (λ h n le. unmade n (omega arith)))
      (λ j. knows_with k.log k.about (locked s) k.holder j v (v.made ∷ []) 0 mine.list
      (λ n. ⊎_elim (λ (e : v.made ≡ n). none_after belongs n k.log v.seen mine.list.rest mine.list.is (unmade n (omega arith))) (λ x. absurd x))
      (λ n h. mine.agreed 0 (inl zeroth))
      (⊎_elim (λ (e : v.made ≡ 0) n le. absurd (omega arith)) (λ x. absurd x)))
      (dealt_fresh s.views id v k.dealt at zeroth)

  pub splits_out : (id : ℕ) (v : V) (n : ℕ) → v.holds ≡ false → Has v.numbers n → Splits Rule id v (left_without n v) (only n v)
  splits_out id v n free has s k at =
      let mine = k.each id v at in
      let same : (m : ℕ) → Has (n ∷ []) m → n ≡ m = λ m. ⊎_elim (λ e. e) (λ h. absurd h) in
      cut s k id v (left_without n v) (only n v) at free
      (knows_with k.log k.about (locked s) k.holder id v (without n v.numbers) v.made mine.list (λ m h. mine.list.none m (Has-without n v.numbers m h).0)
      (λ m h. mine.agreed m (inl (Has-without n v.numbers m h).0)) (λ h m le. mine.unmade (inl (Has-without n v.numbers 0 h).0) m le))
      (λ j. knows_with k.log k.about (locked s) k.holder j v (n ∷ []) (made_with n v.made) mine.list (λ m h. subst (λ (z : ℕ). entries_of belongs z mine.list.rest ≡ []) (same m h) (mine.list.none n has))
      (λ m h. mine.agreed n (inl has))
      (λ h m le. mine.unmade (inl (subst (λ (z : ℕ). Has v.numbers z) (same 0 h) has)) m (subst (λ (z : ℕ). z ≤ m) (ap (λ (z : ℕ). made_with z v.made) (same 0 h)) le)))
      (dealt_out s.views id v n k.dealt at has)

  pub splits_note : (id : ℕ) (v : V) → v.holds ≡ false → Splits Rule id v v (note v)
  splits_note id v free s k at =
      let mine = k.each id v at in
      cut s k id v v (note v) at free mine
      (λ j. knows_with k.log k.about (locked s) k.holder j v [] 0 mine.list (λ n h. absurd h) (λ n h. absurd h) (λ h. absurd h))
      (dealt_note (set s.views id v) (note v) (subst Dealt (sym (set_again s.views id v at)) k.dealt) (λ n. ⊎_elim (λ h. absurd h) (λ h. absurd h)))

  pub joins : (id : ℕ) (v : V) (other : ℕ) (w : V) → v.holds ≡ false → w.holds ≡ false → ((n : ℕ) × Has v.numbers n) → v.told_numbers ≡ [] → w.told_numbers ≡ [] → Joins Rule id v other w (beside v w) spent
  joins id v other w v_free w_free number v_told w_told s k at apart there' =
      let b : V = beside v w in
      let there : get_elem? s.views other ≡ some w = sym (set_else s.views id other b apart) ∙ there' in
      let mine = k.each id v at in
      let theirs = k.each other w there in
      review s k (set (set s.views id b) other spent)
      (λ u held holds.
      set_else (set s.views id b) other k.holder spent (not_holder s k other w there w_free u held holds)
      ∙ (set_else s.views id k.holder b (not_holder s k id v at v_free u held holds) ∙ held))
      (set_each (λ (j : ℕ) (u : V). Knows belongs (locked s) k.log k.about k.holder j u) (set s.views id b) other spent
      record {
        list = record { rest = k.log; is = refl; none = λ n h. absurd h };
        told = record { rest = k.log; is = refl; none = λ n h. absurd h };
        holding = λ is_on. absurd (true≢false (sym is_on));
        numbered = λ is_on. absurd (true≢false (sym is_on));
        agreed = λ n. ⊎_elim (λ h. absurd h) (λ h. absurd h);
        unmade = ⊎_elim (λ h. absurd h) (λ h. absurd h);
      }
      (λ j u _ e. set_each (λ (j : ℕ) (u : V). Knows belongs (locked s) k.log k.about k.holder j u) s.views id b
      record {
        list = mine.list;
        told = theirs.list;
        holding = λ is_on. absurd (true≢false (sym is_on));
        numbered = λ is_on. absurd (true≢false (sym is_on));
        agreed = λ n h. mine.agreed number.0 (inl number.1);
        unmade = ⊎_elim (λ h n le. mine.unmade (inl h) n (omega arith)) (λ h n le. theirs.unmade (inl h) n (omega arith));
      }
      (λ j u _ e. k.each j u e) j u e))
      (dealt_join s.views id other v w k.dealt at there apart v_told w_told)

  -- a new lock, with the state at home
  pub begins : (x : S) (count : ℕ) → count ≡ length (entries x) → BelongsTo belongs (0 ∷ []) (entries x) → Rule (opening (0 ∷ count ∷ []) (Some x ∷ []) (first_view entries belongs terms x))
  begins x count long alone =
      let w : V = first_view entries belongs terms x in
      let only_one : (j : ℕ) (u : V) → get_elem? (w ∷ []) j ≡ some u → (j ≡ 0) × (w ≡ u) = one in
      let zeroth : (n : ℕ) → HoldsNumber w n → 0 ≡ n = λ n. ⊎_elim (⊎_elim (λ e. e) (λ h. absurd h)) (λ h. absurd h) in
      record {
        log = entries x;
        about = terms x;
        holder = 0;
        wide = refl;
        counted = long;
        home = λ _. (x, refl, refl, refl);
        held = λ ne. absurd (ne refl);
        each = λ j u e. subst (λ (z : V). Knows belongs 0 (entries x) (terms x) 0 j z) (only_one j u e).1 record {
          list = goes_on_refl belongs (0 ∷ []) (entries x);
          told = record { rest = entries x; is = refl; none = λ n h. absurd h };
          holding = λ is_on. absurd (true≢false (sym is_on));
          numbered = λ is_on. absurd (true≢false (sym is_on));
          agreed = λ n h. refl;
          unmade = λ z n le. none_of belongs (0 ∷ []) (entries x) n alone (⊎_elim (λ (e : 0 ≡ n). absurd (omega arith)) (λ h. absurd h));
        };
        dealt = record {
          apart = λ i j n u v a b h l. (only_one i u a).0 ∙ sym (only_one j v b).0;
          below = λ i j n u v a b h l.
              let m : u.made ≡ 1 = ap (λ (z : V). z.made) (sym (only_one i u a).1) in
              let q : 0 ≡ n = zeroth n (subst (λ (z : V). HoldsNumber z n) (sym (only_one j v b).1) l) in
              omega arith;
        };
      }
    where
      one : (j : ℕ) (u : V) → get_elem? (first_view entries belongs terms x ∷ []) j ≡ some u → (j ≡ 0) × (first_view entries belongs terms x ≡ u)
      one zero u e = (refl, some-injective _ _ e)
      one (suc j) u e = absurd (some-ne-none u (sym e))

  -- What the last state gives to whoever holds every number
  pub record Ends (v : V) (x : S) : Type 0 where
    pub list : GoesOn belongs v.numbers v.seen (entries x)
    pub mine : (n : ℕ) → entries_of belongs n (entries x) ≡ entries_of belongs n v.seen
    pub agreed : v.terms ≡ Some (terms x)

  pub ends : (id : ℕ) (v : V) (words : List ℕ) (slots : List (Option S)) → v.holds ≡ false → Has v.numbers 0 → ((n : ℕ) → n < v.made → Has v.numbers n) → Final (Seen Rule id v) words slots
      → (x : S) × (get_elem? slots 0 ≡ some (Some x)) × Ends v x
  ends id v words slots free zeroth all f =
      let s = f.0 in
      let k : Rule s = f.1.0 in
      let at : get_elem? s.views id ≡ some v = f.1.1 in
      let mine = k.each id v at in
      let home : locked s ≡ 0 = dite (ℕ_discrete (locked s) 0) (λ e. e) (λ ne.
      let h = k.held ne in
      let theirs = k.each k.holder h.0 h.1 in
      let number = theirs.numbered h.2 in
      let lt : number.0 < v.made = k.dealt.below id k.holder number.0 v h.0 at h.1 (inl zeroth) (inl number.1) in
      absurd (not_holder s k id v at free h.0 h.1 h.2 (k.dealt.apart k.holder id number.0 h.0 v h.1 at (inl number.1) (inl (all number.0 lt))))) in
      let x = k.home home in
      let list : GoesOn belongs v.numbers v.seen (entries x.0) = subst (λ (l : List E). GoesOn belongs v.numbers v.seen l) (sym x.2) mine.list in (
        x.0,
        f.4 0 (Some x.0) x.1,
        record {
          list = list;
          mine = λ n. dite (dec_lt n v.made)
              (λ lt. goes_on_entries belongs v.numbers v.seen (entries x.0) list n (all n lt))
              (λ ge.
              let clear : entries_of belongs n (entries x.0) ≡ [] = ap (entries_of belongs n) x.2 ∙ mine.unmade (inl zeroth) n (omega arith) in
              clear ∙ sym (none_before belongs n (entries x.0) v.seen list.rest list.is clear));
          agreed = mine.agreed 0 (inl zeroth) ∙ ap (λ (z : T). Some z) (sym x.3);
        },
      )
