-- A history goes on: what matched it matches the longer one, and one call more matches.
use Rattle.std.proofs.Common.{◌≡◌, ◌<◌, ℕ, suc, zero, ◌+◌, ◌-◌, ◌++◌, ◌∙◌, ap, sym, refl, subst, inl, inr, arith, Bool, true, false, Option, None, Some, List, [], ◌∷◌, length, take, length-append, append_assoc, append-nil, cond}
use Rattle.std.specs.Prelude.{IsSomeAnd}
use Rattle.std.specs.List.{slice_get}
use Rattle.std.proofs.lemmas.List.{take-append-le, take_all}
use Rattle.std.proofs.Math.Seq.{take-length}
use Rattle.one_session.specs.Matching.{entries_of, IsLast, IsStep, Matches}

-- the entries of a session in one list after another
entries_by : {E : Type 0} (e : E) (b : Bool) (xs ys zs : List E) → zs ≡ xs ++ ys → cond b (e ∷ zs) zs ≡ cond b (e ∷ xs) xs ++ ys
entries_by e true xs ys zs h = ap (λ l. e ∷ l) h
entries_by e false xs ys zs h = h

pub entries_of-append : {E : Type 0} (belongs : E → ℕ → Bool) (session : ℕ) (xs ys : List E) → entries_of belongs session (xs ++ ys) ≡ entries_of belongs session xs ++ entries_of belongs session ys
entries_of-append belongs session [] ys = refl
entries_of-append belongs session (e ∷ es) ys = entries_by e (belongs e session) (entries_of belongs session es) (entries_of belongs session ys) _ (entries_of-append belongs session es ys)

-- an element of a list stands at its place in a longer one
pub get_front : {E : Type 0} (xs ys : List E) (k : ℕ) → k < length xs → slice_get (xs ++ ys) k ≡ slice_get xs k
get_front [] ys k lt = absurd (omega arith)
get_front (x ∷ xs) ys zero lt = refl
get_front (x ∷ xs) ys (suc k) lt = get_front xs ys k (omega arith)

-- the element after a list
pub get_next : {E : Type 0} (xs : List E) (y : E) (ys : List E) → slice_get (xs ++ y ∷ ys) (length xs) ≡ Some y
get_next [] y ys = refl
get_next (x ∷ xs) y ys = get_next xs y ys

-- a whole list is taken
pub take_whole : {E : Type 0} (xs ys : List E) (n : ℕ) → n ≡ length xs → take n (xs ++ ys) ≡ xs
take_whole xs ys n h = take-append-le n xs ys (omega arith) ∙ ap (λ m. take m xs) h ∙ take-length xs

module _ {E D : Type 0} (belongs : E → ℕ → Bool) (place : D → Option ℕ) (does : List D → D → List E → List E → Type 0) where
  -- an entry that was the last so far is so in a longer history
  last_stays : (session : ℕ) (history more mine : List E) (k : ℕ) → IsLast belongs session history mine k → IsLast belongs session (history ++ more) mine k
  last_stays session history more mine k l = record {
    inside = grind (arith, length-append history more, l.inside);
    upto = ap (entries_of belongs session) (take-append-le (k + 1) history more (omega (arith, l.inside))) ∙ l.upto;
    own = subst (λ o. IsSomeAnd o (λ e. belongs e session ≡ true)) (sym (get_front history more k l.inside)) l.own;
  }

  step_stays : (does' : List D → D → List E → List E → Type 0) (keeps : (older : List D) (d : D) (before added : List E) → does older d before added → does' older d before added)
      (session : ℕ) (history more mine : List E) (older : List D) (d : D) (added : List E)
      → IsStep belongs place does session history mine older d added → IsStep belongs place does' session (history ++ more) mine older d added
  step_stays does' keeps session history more mine older d added (inl h) = inl h
  step_stays does' keeps session history more mine older d added (inr h) = inr (
    h.0,
    h.1,
    last_stays session history more mine h.0 h.2,
    keeps older d _ added (subst (λ before. does older d before added) (sym (take-append-le (h.0 + 1 - length added) history more (omega (arith, h.2.inside)))) h.3),
  )

  -- what matched a history matches a longer one
  pub stays : (does' : List D → D → List E → List E → Type 0) (keeps : (older : List D) (d : D) (before added : List E) → does older d before added → does' older d before added)
      (session : ℕ) (history more : List E) (calls : List D) (mine : List E)
      → Matches belongs place does session history calls mine → Matches belongs place does' session (history ++ more) calls mine
  stays does' keeps session history more [] mine m = m
  stays does' keeps session history more (d ∷ older) mine m = (m.0, m.1, m.2, step_stays does' keeps session history more mine older d m.1 m.3, stays does' keeps session history more older m.0 m.4)

  -- a call that adds nothing and has no place
  pub more_none : (session : ℕ) (history : List E) (older : List D) (mine : List E) (d : D) → place d ≡ None
      → Matches belongs place does session history older mine → Matches belongs place does session history (d ∷ older) mine
  more_none session history older mine d h m = (mine, [], sym (append-nil mine), inl (refl, h), m)

  -- a call that adds these entries, the last of which is at its place
  pub more_some : (session : ℕ) (history front : List E) (last : E) (older : List D) (d : D)
      → place d ≡ Some (length history + length front) → belongs last session ≡ true → entries_of belongs session (front ++ last ∷ []) ≡ front ++ last ∷ []
      → does older d history (front ++ last ∷ [])
      → Matches belongs place does session (history ++ (front ++ last ∷ [])) older (entries_of belongs session history)
      → Matches belongs place does session (history ++ (front ++ last ∷ [])) (d ∷ older) (entries_of belongs session (history ++ (front ++ last ∷ [])))
  more_some session history front last older d at own all h m =
      let added = front ++ last ∷ [] in
      let k = length history + length front in
      let size : length added ≡ length front + 1 = length-append front (last ∷ []) in
      let whole : entries_of belongs session (history ++ added) ≡ entries_of belongs session history ++ added = entries_of-append belongs session history added ∙ ap (λ l. entries_of belongs session history ++ l) all in (
        entries_of belongs session history,
        added,
        whole,
        inr (
          k,
          at,
          record {
            inside = grind (arith, length-append history added, size);
            upto = ap (entries_of belongs session) (take_all (k + 1) (history ++ added) (grind (arith, length-append history added, size)));
            own = subst (λ o. IsSomeAnd o (λ e. belongs e session ≡ true)) (sym (ap (λ l. slice_get l k) (sym (append_assoc history front (last ∷ []))) ∙ ap (slice_get ((history ++ front) ++ last ∷ [])) (sym (length-append history front)) ∙ get_next (history ++ front) last [])) own;
          },
          subst (λ before. does older d before added) (sym (take_whole history added (k + 1 - length added) (omega (arith, size)))) h,
        ),
        m,
      )
