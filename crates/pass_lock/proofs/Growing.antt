-- Lists that grow: what was seen, what came since, and what belongs to a number.
use Rattle.std.proofs.Common.{◌≡◌, ◌⊎◌, ℕ, ◌<◌, ◌≤◌, Bool, true, false, cond, List, [], ◌∷◌, ◌++◌, length, refl, sym, ap, ◌∙◌, subst, ⊎_elim, arith, append_assoc, lt-ltb, le-ltb}
use Rattle.std.proofs.lemmas.List.{append-nil}
use Rattle.std.proofs.lemmas.List.Elements.{filter-append}
use mathlib.Core.Logic.{dite}
use native.Mathlib.Decide.{dec_le}
use Rattle.pass_lock.specs.Lists.{Has, StartsWith, longer, entries_of, GoesOn, BelongsTo}
use Rattle.pass_lock.proofs.Numbers.{Has-append}

module _ {E : Type 0} where
  pub starts_refl : (xs : List E) → StartsWith xs xs
  starts_refl xs = ([], sym (append-nil xs))

  pub starts_append : (xs ys : List E) → StartsWith (xs ++ ys) xs
  starts_append xs ys = (ys, refl)

  pub starts_trans : (xs ys zs : List E) → StartsWith zs ys → StartsWith ys xs → StartsWith zs xs
  starts_trans xs ys zs a b = (b.0 ++ a.0, a.1 ∙ (ap (λ (l : List E). l ++ a.0) b.1 ∙ append_assoc xs b.0 a.0))

  -- of two beginnings of one list the shorter begins the other
  pub beginning_of : (xs ys a b : List E) → xs ++ a ≡ ys ++ b → length xs ≤ length ys → (mid : List E) × (ys ≡ xs ++ mid) × (a ≡ mid ++ b)
  beginning_of [] ys a b e h = (ys, refl, e)
  beginning_of (x ∷ xs) [] a b e h = absurd (omega arith)
  beginning_of (x ∷ xs) (y ∷ ys) a b e h =
      let head : x ≡ y = cc in let tail : xs ++ a ≡ ys ++ b = cc in let t = beginning_of xs ys a b tail (omega arith) in (t.0, (λ i. sym head i ∷ t.1 i), t.2)

  pub empty_left : (xs ys : List E) → xs ++ ys ≡ [] → xs ≡ []
  empty_left [] ys e = refl
  empty_left (x ∷ xs) ys e = absurd cc

  pub empty_right : (xs ys : List E) → xs ++ ys ≡ [] → ys ≡ []
  empty_right [] ys e = e
  empty_right (x ∷ xs) ys e = absurd cc

  -- a fact of the longer list, by which of the two it is
  pub longer_is : (P : List E → Type 0) (xs ys : List E) → (length xs ≤ length ys → P ys) → (length ys ≤ length xs → P xs) → P (longer xs ys)
  longer_is P xs ys second first =
      dite (dec_le (length ys) (length xs))
      (λ le. subst (λ (b : Bool). P (cond b ys xs)) (sym (le-ltb (length xs) (length ys) le)) (first le))
      (λ gt. let lt : length xs < length ys = omega arith in subst (λ (b : Bool). P (cond b ys xs)) (sym (lt-ltb (length xs) (length ys) lt)) (second (omega arith)))

module _ {E : Type 0} (belongs : E → ℕ → Bool) where
  pub entries_of-append : (n : ℕ) (xs ys : List E) → entries_of belongs n (xs ++ ys) ≡ entries_of belongs n xs ++ entries_of belongs n ys
  entries_of-append n xs ys = filter-append (λ (e : E). belongs e n) xs ys

  -- no entry of the number is in the first part of a list that has none
  pub none_before : (n : ℕ) (log xs ys : List E) → log ≡ xs ++ ys → entries_of belongs n log ≡ [] → entries_of belongs n xs ≡ []
  none_before n log xs ys is none = empty_left _ _ (sym (entries_of-append n xs ys) ∙ (ap (entries_of belongs n) (sym is) ∙ none))

  pub none_after : (n : ℕ) (log xs ys : List E) → log ≡ xs ++ ys → entries_of belongs n log ≡ [] → entries_of belongs n ys ≡ []
  none_after n log xs ys is none = empty_right (entries_of belongs n xs) _ (sym (entries_of-append n xs ys) ∙ (ap (entries_of belongs n) (sym is) ∙ none))

  -- where no later entry belongs to the number, its entries are as they were
  pub same_entries : (n : ℕ) (log seen rest : List E) → log ≡ seen ++ rest → entries_of belongs n rest ≡ [] → entries_of belongs n log ≡ entries_of belongs n seen
  same_entries n log seen rest is none = ap (entries_of belongs n) is ∙ (entries_of-append n seen rest ∙ (ap (λ (l : List E). entries_of belongs n seen ++ l) none ∙ append-nil (entries_of belongs n seen)))

  -- a list that has grown has the entries of each number as they were, and then those added
  pub more_entries : (n : ℕ) (log seen added : List E) → log ≡ seen ++ added → entries_of belongs n log ≡ entries_of belongs n seen ++ entries_of belongs n added
  more_entries n log seen added is = ap (entries_of belongs n) is ∙ entries_of-append n seen added

  skipped : (e : E) (n : ℕ) (es : List E) (t : Bool) → belongs e n ≡ t → (t ≡ true → ⊥) → entries_of belongs n es ≡ [] → entries_of belongs n (e ∷ es) ≡ []
  skipped e n es true is off none = absurd (off refl)
  skipped e n es false is off none = subst (λ (b : Bool). cond b (e ∷ entries_of belongs n es) (entries_of belongs n es) ≡ []) (sym is) none

  -- entries that belong to these numbers alone belong to no other
  pub none_of : (numbers : List ℕ) (es : List E) (n : ℕ) → BelongsTo belongs numbers es → (Has numbers n → ⊥) → entries_of belongs n es ≡ []
  none_of numbers [] n own out = refl
  none_of numbers (e ∷ es) n own out = skipped e n es (belongs e n) refl (λ yes. out (own.0 n yes)) (none_of numbers es n own.1 out)

  pub goes_on_refl : (numbers : List ℕ) (log : List E) → GoesOn belongs numbers log log
  goes_on_refl numbers log = record { rest = []; is = sym (append-nil log); none = λ n h. refl }

  pub goes_on_starts : (numbers : List ℕ) (seen log : List E) → GoesOn belongs numbers seen log → StartsWith log seen
  goes_on_starts numbers seen log g = (g.rest, g.is)

  -- the entries of each of the numbers are as they were
  pub goes_on_entries : (numbers : List ℕ) (seen log : List E) → GoesOn belongs numbers seen log → (n : ℕ) → Has numbers n → entries_of belongs n log ≡ entries_of belongs n seen
  goes_on_entries numbers seen log g n h = same_entries n log seen g.rest g.is (g.none n h)

  pub goes_on_trans : (numbers : List ℕ) (xs ys zs : List E) → GoesOn belongs numbers xs ys → GoesOn belongs numbers ys zs → GoesOn belongs numbers xs zs
  goes_on_trans numbers xs ys zs a b = record {
    rest = a.rest ++ b.rest;
    is = b.is ∙ (ap (λ (l : List E). l ++ b.rest) a.is ∙ append_assoc xs a.rest b.rest);
    none = λ n h. entries_of-append n a.rest b.rest ∙ (ap (λ (l : List E). l ++ entries_of belongs n b.rest) (a.none n h) ∙ b.none n h);
  }

  -- entries of other numbers are added
  pub goes_on_more : (numbers : List ℕ) (seen log added : List E) → GoesOn belongs numbers seen log → ((n : ℕ) → Has numbers n → entries_of belongs n added ≡ []) → GoesOn belongs numbers seen (log ++ added)
  goes_on_more numbers seen log added g none = goes_on_trans numbers seen log (log ++ added) g record { rest = added; is = refl; none = none }

  -- what fewer numbers know of a list
  pub goes_on_fewer : (numbers fewer : List ℕ) (seen log : List E) → ((n : ℕ) → Has fewer n → Has numbers n) → GoesOn belongs numbers seen log → GoesOn belongs fewer seen log
  goes_on_fewer numbers fewer seen log sub g = record { rest = g.rest; is = g.is; none = λ n h. g.none n (sub n h) }

  -- What two beginnings of one list know together
  pub record Joined (first second : List ℕ) (xs ys log : List E) : Type 0 where
    pub all : GoesOn belongs (first ++ second) (longer xs ys) log
    pub starts_first : StartsWith (longer xs ys) xs
    pub starts_second : StartsWith (longer xs ys) ys
    pub firsts : (n : ℕ) → Has first n → entries_of belongs n (longer xs ys) ≡ entries_of belongs n xs
    pub seconds : (n : ℕ) → Has second n → entries_of belongs n (longer xs ys) ≡ entries_of belongs n ys

  -- the longer of the two, called zs
  abbrev JoinedAs : List ℕ → List ℕ → List E → List E → List E → List E → Type 0
  JoinedAs first second xs ys log zs =
      GoesOn belongs (first ++ second) zs log × StartsWith zs xs × StartsWith zs ys × ((n : ℕ) → Has first n → entries_of belongs n zs ≡ entries_of belongs n xs)
      × ((n : ℕ) → Has second n → entries_of belongs n zs ≡ entries_of belongs n ys)

  joined_second : (first second : List ℕ) (xs ys log : List E) → GoesOn belongs first xs log → GoesOn belongs second ys log → length xs ≤ length ys → JoinedAs first second xs ys log ys
  joined_second first second xs ys log a b le =
      let t = beginning_of xs ys a.rest b.rest (sym a.is ∙ b.is) le in
      let mids : (n : ℕ) → Has first n → entries_of belongs n t.0 ≡ [] = λ n h. none_before n a.rest t.0 b.rest t.2 (a.none n h) in
      let rests : (n : ℕ) → Has first n → entries_of belongs n b.rest ≡ [] = λ n h. none_after n a.rest t.0 b.rest t.2 (a.none n h) in (
        record { rest = b.rest; is = b.is; none = λ n h. ⊎_elim (rests n) (b.none n) (Has-append first second n h) },
        (t.0, t.1),
        starts_refl ys,
        (λ n h. same_entries n ys xs t.0 t.1 (mids n h)),
        (λ n h. refl),
      )

  joined_first : (first second : List ℕ) (xs ys log : List E) → GoesOn belongs first xs log → GoesOn belongs second ys log → length ys ≤ length xs → JoinedAs first second xs ys log xs
  joined_first first second xs ys log a b le =
      let t = beginning_of ys xs b.rest a.rest (sym b.is ∙ a.is) le in
      let mids : (n : ℕ) → Has second n → entries_of belongs n t.0 ≡ [] = λ n h. none_before n b.rest t.0 a.rest t.2 (b.none n h) in
      let rests : (n : ℕ) → Has second n → entries_of belongs n a.rest ≡ [] = λ n h. none_after n b.rest t.0 a.rest t.2 (b.none n h) in (
        record { rest = a.rest; is = a.is; none = λ n h. ⊎_elim (a.none n) (rests n) (Has-append first second n h) },
        starts_refl xs,
        (t.0, t.1),
        (λ n h. refl),
        (λ n h. same_entries n xs ys t.0 t.1 (mids n h)),
      )

  pub joined : (first second : List ℕ) (xs ys log : List E) → GoesOn belongs first xs log → GoesOn belongs second ys log → Joined first second xs ys log
  joined first second xs ys log a b =
      let j = longer_is (JoinedAs first second xs ys log) xs ys (joined_second first second xs ys log a b) (joined_first first second xs ys log a b) in
      record { all = j.0; starts_first = j.1; starts_second = j.2; firsts = j.3; seconds = j.4 }
