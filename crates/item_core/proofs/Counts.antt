-- Along a legal history no more handles are closed than were opened, and no more uploads end than begin.
use Rattle.std.proofs.Common.{◌≡◌, ◌≢◌, ℕ, zero, suc, ◌+◌, ◌<◌, ◌≤◌, ◌==◌, Bool, true, false, ◌&&◌, if◌then◌else◌, not, None, List, [], ◌∷◌, ◌++◌, length, refl, sym, ◌∙◌, ap, inl, inr, arith, lit≤}
use Rattle.std.specs.Prelude.{is_some}
use Rattle.std.proofs.lemmas.Bool.{cases_Bool, cases_lt, eq-eqb}
use Rattle.std.proofs.lemmas.Bool.Decides.{eqb_tells}
use Rattle.item_core.specs.declared.entry.Entry.{Entry}
use Rattle.item_core.specs.declared.entry.FileKind.{FileKind}
use Rattle.item_core.specs.Effects.{is_opened, is_closed, is_start, is_end}
use Rattle.item_core.specs.History.{count_of, made_by, opens_by, opens_of, upload_at}
use Rattle.item_core.specs.Legal.{IsLegal}
use Rattle.item_core.proofs.Views.{opens, closes, leaves, handling, begins, ends, idles, uploading}

-- how many entries of such a kind the passes of a set made
abbrev pub count_in : (ℕ → Bool) → (FileKind → Bool) → List Entry → ℕ
count_in q such [] = 0
count_in q such (e ∷ older) = if q e.by.pass && such e.kind then count_in q such older + 1 else count_in q such older

neqb : (a b : ℕ) → a ≢ b → (a == b) ≡ false
neqb a b ne = elim (eqb_tells a b) [ inl t ↦ absurd (ne t.1) | inr t ↦ t.0 ]

abbrev without : ℕ → (ℕ → Bool) → ℕ → Bool
without pass q n = q n && not (n == pass)

-- the entries of a set are those of one of its passes and the others
split_pass : (such : FileKind → Bool) (a : ℕ) (q : ℕ → Bool) → q a ≡ true → (past : List Entry)
    → count_in q such past ≡ count_of such (made_by a past) + count_in (without a q) such past
split_pass such a q h [] = refl
split_pass such a q h (e ∷ older) =
    let ih : count_in q such older ≡ count_of such (made_by a older) + count_in (without a q) such older = split_pass such a q h older in
    elim (eqb_tells e.by.pass a) [
      | inl t ↦ let inside : q e.by.pass ≡ true = ap q t.1 ∙ h in
          elim (cases_Bool (such e.kind)) [
            | inl s ↦ rw (t.0, inside, s) (grind (arith, ih, s))
            | inr s ↦ rw (t.0, inside, s) (grind (arith, ih, s))
          ]
      | inr t ↦ elim (cases_Bool (q e.by.pass)) [
        | inr i ↦ rw (t.0, i) ih
        | inl i ↦ elim (cases_Bool (such e.kind)) [ inl s ↦ rw (t.0, i, s) (omega (arith, ih)) | inr s ↦ rw (t.0, i, s) ih ]
      ]
    ]

closed_in : (past : List Entry) → IsLegal past → (q : ℕ → Bool) → count_in q is_closed past ≤ count_in q is_opened past
closed_in [] l q = lit≤ tt
closed_in (e ∷ older) l q =
    let ih : count_in q is_closed older ≤ count_in q is_opened older = closed_in older l.1 q in
    elim (handling e.kind) [
      | opens o c ↦ rw (o, c) (grind (arith, ih))
      | leaves o c ↦ rw (o, c) (grind (arith, ih))
      | closes o c own ↦ elim (cases_Bool (q e.by.pass)) [
        | inr i ↦ rw (o, c, i) (grind (arith, ih))
        | inl i ↦
            let mine : 0 < opens_by e.by.pass older = own older e.by l.0.allowed in
            let others : count_in (without e.by.pass q) is_closed older ≤ count_in (without e.by.pass q) is_opened older = closed_in older l.1 (without e.by.pass q) in
            let closed : count_in q is_closed older ≡ count_of is_closed (made_by e.by.pass older) + count_in (without e.by.pass q) is_closed older = split_pass is_closed e.by.pass q i older in
            let opened : count_in q is_opened older ≡ count_of is_opened (made_by e.by.pass older) + count_in (without e.by.pass q) is_opened older = split_pass is_opened e.by.pass q i older in
            rw (o, c, i) (omega arith)
      ]
    ]

abbrev any : ℕ → Bool
any n = true

count_any : (such : FileKind → Bool) (past : List Entry) → count_in any such past ≡ count_of such past
count_any such [] = refl
count_any such (e ∷ older) = let ih : count_in any such older ≡ count_of such older = count_any such older in elim (cases_Bool (such e.kind)) [ inl s ↦ rw s (omega arith) | inr s ↦ rw s ih ]

-- no more handles are closed than were opened
pub closed_le : (past : List Entry) → IsLegal past → count_of is_closed past ≤ count_of is_opened past
closed_le past l = let h : count_in any is_closed past ≤ count_in any is_opened past = closed_in past l any in
    let c : count_in any is_closed past ≡ count_of is_closed past = count_any is_closed past in
    let o : count_in any is_opened past ≡ count_of is_opened past = count_any is_opened past in
    omega arith

-- a pass that has a handle is one of those that have
pub opens_by_le : (past : List Entry) → IsLegal past → (a : ℕ) → opens_by a past ≤ opens_of past
opens_by_le past l a =
    let others : count_in (without a any) is_closed past ≤ count_in (without a any) is_opened past = closed_in past l (without a any) in
    let closed : count_in any is_closed past ≡ count_of is_closed (made_by a past) + count_in (without a any) is_closed past = split_pass is_closed a any refl past in
    let opened : count_in any is_opened past ≡ count_of is_opened (made_by a past) + count_in (without a any) is_opened past = split_pass is_opened a any refl past in
    let c : count_in any is_closed past ≡ count_of is_closed past = count_any is_closed past in
    let o : count_in any is_opened past ≡ count_of is_opened past = count_any is_opened past in
    omega arith

-- how many of the first n indexes are live
abbrev live : (ℕ → Bool) → ℕ → ℕ
live f zero = 0
live f (suc n) = if f n then live f n + 1 else live f n

live_same : (f g : ℕ → Bool) (n : ℕ) → ((k : ℕ) → k < n → f k ≡ g k) → live f n ≡ live g n
live_same f g zero h = refl
live_same f g (suc n) h = let ih : live f n ≡ live g n = live_same f g n (λ k lt. h k (omega arith)) in
    let here : f n ≡ g n = h n (omega arith) in
    elim (cases_Bool (g n)) [ inl t ↦ rw (here ∙ t, t) (omega arith) | inr t ↦ rw (here ∙ t, t) ih ]

-- the counts differ by one where the sets differ at one index
live_one : (f g : ℕ → Bool) (s n : ℕ) → s < n → ((k : ℕ) → k ≢ s → f k ≡ g k) → f s ≡ true → g s ≡ false → live f n ≡ live g n + 1
live_one f g s zero lt h a b = absurd (omega arith)
live_one f g s (suc n) lt h a b = elim (eqb_tells s n) [
  | inl t ↦ let fa : f n ≡ true = ap f (sym t.1) ∙ a in let gb : g n ≡ false = ap g (sym t.1) ∙ b in
      let rest : live f n ≡ live g n = live_same f g n (λ k less. h k (λ e. omega arith)) in
      rw (fa, gb) (omega arith)
  | inr t ↦ let ih : live f n ≡ live g n + 1 = live_one f g s n (let ne : s ≢ n = t.1 in omega arith) h a b in
      let here : f n ≡ g n = h n (λ e. t.1 (sym e)) in
      elim (cases_Bool (g n)) [ inl u ↦ rw (here ∙ u, u) (omega arith) | inr u ↦ rw (here ∙ u, u) ih ]
]

live_some : (f : ℕ → Bool) (s n : ℕ) → s < n → f s ≡ true → 0 < live f n
live_some f s zero lt a = absurd (omega arith)
live_some f s (suc n) lt a = elim (eqb_tells s n) [
  | inl t ↦ let fa : f n ≡ true = ap f (sym t.1) ∙ a in rw fa (omega arith)
  | inr t ↦ let ih : 0 < live f n = live_some f s n (let ne : s ≢ n = t.1 in omega arith) a in
      elim (cases_Bool (f n)) [ inl u ↦ rw u (omega arith) | inr u ↦ rw u ih ]
]

-- an upload has begun at this index and not ended
abbrev pub is_live : List Entry → ℕ → Bool
is_live past start = is_some (upload_at past start)

-- no upload began at an index that no entry has yet
pub not_yet : (past : List Entry) (s : ℕ) → length past ≤ s → upload_at past s ≡ None
not_yet [] s h = refl
not_yet (e ∷ older) s h =
    let ih : upload_at older s ≡ None = not_yet older s (omega arith) in
    elim (uploading e.kind) [
      | begins v a b step ↦ elim (eqb_tells (length older) s) [ inl t ↦ absurd (omega (arith, t.1)) | inr t ↦ step e.by.pass (length older) s (upload_at older s) ∙ rw (t.0) ih ]
      | ends start a b step own ↦ elim (cases_Bool (start == s)) [ inl t ↦ step e.by.pass (length older) s (upload_at older s) ∙ rw t | inr t ↦ step e.by.pass (length older) s (upload_at older s) ∙ rw t ih ]
      | idles a b step ↦ step e.by.pass (length older) s (upload_at older s) ∙ ih
    ]

live_none : (f : ℕ → Bool) (n : ℕ) → ((k : ℕ) → f k ≡ false) → live f n ≡ 0
live_none f zero h = refl
live_none f (suc n) h = rw (h n) (live_none f n h)

-- an upload that is live has an index below the number of entries
pub live_lt : (past : List Entry) (s : ℕ) → is_live past s ≡ true → s < length past
live_lt past s h = elim (cases_lt s (length past)) [
  | inl lt ↦ lt
  | inr ge ↦ absurd (let no : false ≡ true = sym (ap is_some (not_yet past s ge)) ∙ h in cc)
]

-- the uploads that are live and those that ended are those that began
live_balance : (past : List Entry) → IsLegal past → (n : ℕ) → length past ≤ n → live (is_live past) n + count_of is_end past ≡ count_of is_start past
live_balance [] l n h = rw (live_none (is_live []) n (λ k. refl)) refl
live_balance (e ∷ older) l n h =
    let ih : live (is_live older) n + count_of is_end older ≡ count_of is_start older = live_balance older l.1 n (omega arith) in
    let L : ℕ = length older in
    elim (uploading e.kind) [
      | begins v a b step ↦
          let other : (k : ℕ) → k ≢ L → is_live (e ∷ older) k ≡ is_live older k = λ k ne. rw (step e.by.pass L k (upload_at older k), neqb L k (λ eq. ne (sym eq))) refl in
          let here : is_live (e ∷ older) L ≡ true = rw (step e.by.pass L L (upload_at older L), eq-eqb L L refl) refl in
          let none : is_live older L ≡ false = ap is_some (not_yet older L (omega arith)) in
          let one : live (is_live (e ∷ older)) n ≡ live (is_live older) n + 1 = live_one (is_live (e ∷ older)) (is_live older) L n (omega arith) other here none in
          rw (a, b) (omega arith)
      | ends start a b step own ↦
          let was : is_live older start ≡ true = own older e.by l.0.allowed in
          let lt : start < length older = live_lt older start was in
          let other : (k : ℕ) → k ≢ start → is_live older k ≡ is_live (e ∷ older) k = λ k ne. rw (step e.by.pass L k (upload_at older k), neqb start k (λ eq. ne (sym eq))) refl in
          let gone : is_live (e ∷ older) start ≡ false = rw (step e.by.pass L start (upload_at older start), eq-eqb start start refl) refl in
          let one : live (is_live older) n ≡ live (is_live (e ∷ older)) n + 1 = live_one (is_live older) (is_live (e ∷ older)) start n (omega arith) other was gone in
          rw (a, b) (omega arith)
      | idles a b step ↦
          let same : live (is_live (e ∷ older)) n ≡ live (is_live older) n = live_same (is_live (e ∷ older)) (is_live older) n (λ k lt. ap is_some (step e.by.pass L k (upload_at older k))) in
          rw (a, b, same) ih
    ]

-- no more uploads end than begin
pub end_le : (past : List Entry) → IsLegal past → count_of is_end past ≤ count_of is_start past
end_le past l = let h : live (is_live past) (length past) + count_of is_end past ≡ count_of is_start past = live_balance past l (length past) (omega arith) in omega arith

-- where an upload is live, one more began than ended
pub end_lt : (past : List Entry) → IsLegal past → (s : ℕ) → is_live past s ≡ true → count_of is_end past < count_of is_start past
end_lt past l s h =
    let balance : live (is_live past) (length past) + count_of is_end past ≡ count_of is_start past = live_balance past l (length past) (omega arith) in
    let some : 0 < live (is_live past) (length past) = live_some (is_live past) s (length past) (live_lt past s h) h in
    omega arith

pub count_append : (such : FileKind → Bool) (a b : List Entry) → count_of such (a ++ b) ≡ count_of such a + count_of such b
count_append such [] b = omega arith
count_append such (e ∷ a) b = let ih : count_of such (a ++ b) ≡ count_of such a + count_of such b = count_append such a b in
    elim (cases_Bool (such e.kind)) [ inl t ↦ rw t (omega arith) | inr t ↦ rw t ih ]

pub legal_tail : (mid rest : List Entry) → IsLegal (mid ++ rest) → IsLegal rest
legal_tail [] rest l = l
legal_tail (e ∷ mid) rest l = legal_tail mid rest l.1
