-- Which part of a history each image stands for.
use Rattle.std.proofs.Common.{◌≡◌, ◌≤◌, ◌<◌, ℕ, zero, suc, ◌-◌, ◌++◌, nat_le, true, false, List, [], ◌∷◌, length, drop, refl, sym, ap, ◌∙◌, inl, inr, arith, subst}
use Rattle.std.proofs.lemmas.Bool.Decides.{nat_tests}
use Rattle.std.proofs.lemmas.Bool.{cases_lt}
use Rattle.vfs_outside.specs.Image.{Image}
use Rattle.vfs_outside.specs.declared.file_call.FileCall.{FileCall}
use Rattle.item_core.specs.declared.entry.Entry.{Entry}
use Rattle.item_core.specs.Content.{Known}
use Rattle.item_core.specs.History.{at_of, place}
use Rattle.item_core.specs.Names.{names_at, names_before}
use Rattle.item_image.specs.Stands.{EachStands, StandsFor}

is_by : (a k : ℕ) → a ≤ k → nat_le a k ≡ true
is_by a k h = grind (arith, nat_tests)

isnt_by : (a k : ℕ) → k < a → nat_le a k ≡ false
isnt_by a k h = grind (arith, nat_tests)

-- a history that was made by k calls
pub place_now : (past : List Entry) (k : ℕ) → at_of past ≤ k → place past k ≡ past
place_now [] k h = refl
place_now (e ∷ older) k h = rw (is_by e.at k h) refl

pub names_now : (past : List Entry) (k : ℕ) (names : List (List ℕ)) → at_of past ≤ k → names_at past k names ≡ names
names_now [] k names h = refl
names_now (e ∷ older) k names h = rw (is_by e.at k h) refl

-- an entry that was made later is no part
pub place_early : (e : Entry) (past : List Entry) (k : ℕ) → k < e.at → place (e ∷ past) k ≡ place past k
place_early e past k h = rw (isnt_by e.at k h) refl

pub names_early : (e : Entry) (past : List Entry) (k : ℕ) (names : List (List ℕ)) → k < e.at → names_at (e ∷ past) k names ≡ names_at past k (names_before e.kind names)
names_early e past k names h = rw (isnt_by e.at k h) refl

-- the same image, of a history and paths that are the same
pub same_stands : (known : Known) (saved : ℕ) (image : Image) {past past' : List Entry} {names names' : List (List ℕ)} → past' ≡ past → names' ≡ names
    → StandsFor known saved image past names → StandsFor known saved image past' names'
same_stands known saved image {past = past} {past' = past'} {names = names} {names' = names'} e n s =
    subst (λ ns. StandsFor known saved image past' ns) (sym n) (subst (λ h. StandsFor known saved image h names) (sym e) s)

-- an entry that is made later than all these calls changes nothing
pub each_early : (known : Known) (saved : ℕ) (first : Image) (calls : List FileCall) (e : Entry) (past : List Entry) (names names' : List (List ℕ))
    → length calls < e.at → names_before e.kind names' ≡ names → EachStands known saved first calls past names → EachStands known saved first calls (e ∷ past) names'
each_early known saved first [] e past names names' h n s =
    same_stands known saved first (place_early e past 0 h) (names_early e past 0 names' h ∙ ap (names_at past 0) n) s
each_early known saved first (c ∷ older) e past names names' h n s = (
  same_stands known saved ((c ∷ older) ++ first) (place_early e past (suc (length older)) h) (names_early e past (suc (length older)) names' h ∙ ap (names_at past (suc (length older))) n) s.0,
  each_early known saved first older e past names names' (omega (arith, h)) n s.1,
)

-- an entry at the present number of calls
pub each_now : (known : Known) (saved : ℕ) (first : Image) (calls : List FileCall) (e : Entry) (past : List Entry) (names names' : List (List ℕ))
    → e.at ≡ length calls → names_before e.kind names' ≡ names → StandsFor known saved (calls ++ first) (e ∷ past) names'
    → EachStands known saved first calls past names → EachStands known saved first calls (e ∷ past) names'
each_now known saved first [] e past names names' h n now s =
    same_stands known saved first (place_now (e ∷ past) 0 (omega (arith, h))) (names_now (e ∷ past) 0 names' (omega (arith, h))) now
each_now known saved first (c ∷ older) e past names names' h n now s = (
  same_stands known saved ((c ∷ older) ++ first) (place_now (e ∷ past) (suc (length older)) (omega (arith, h))) (names_now (e ∷ past) (suc (length older)) names' (omega (arith, h))) now,
  each_early known saved first older e past names names' (omega (arith, h)) n s.1,
)

-- one more call, and no entry
pub each_call : (known : Known) (saved : ℕ) (first : Image) (calls : List FileCall) (c : FileCall) (past : List Entry) (names : List (List ℕ))
    → at_of past ≤ length calls → StandsFor known saved ((c ∷ calls) ++ first) past names
    → EachStands known saved first calls past names → EachStands known saved first (c ∷ calls) past names
each_call known saved first calls c past names h now s =
    (same_stands known saved ((c ∷ calls) ++ first) (place_now past (suc (length calls)) (omega (arith, h))) (names_now past (suc (length calls)) names (omega (arith, h))) now, s)

-- one more call, and an entry at it
pub each_step : (known : Known) (saved : ℕ) (first : Image) (calls : List FileCall) (c : FileCall) (e : Entry) (past : List Entry) (names names' : List (List ℕ))
    → e.at ≡ suc (length calls) → names_before e.kind names' ≡ names → StandsFor known saved ((c ∷ calls) ++ first) (e ∷ past) names'
    → EachStands known saved first calls past names → EachStands known saved first (c ∷ calls) (e ∷ past) names'
each_step known saved first calls c e past names names' h n now s = (
  same_stands known saved ((c ∷ calls) ++ first) (place_now (e ∷ past) (suc (length calls)) (omega (arith, h))) (names_now (e ∷ past) (suc (length calls)) names' (omega (arith, h))) now,
  each_early known saved first calls e past names names' (omega (arith, h)) n s,
)

-- the newest of the images
pub newest_stands : (known : Known) (saved : ℕ) (first : Image) (calls : List FileCall) (past : List Entry) (names : List (List ℕ))
    → at_of past ≤ length calls → EachStands known saved first calls past names → StandsFor known saved (calls ++ first) past names
newest_stands known saved first [] past names h s = same_stands known saved first (sym (place_now past 0 h)) (sym (names_now past 0 names h)) s
newest_stands known saved first (c ∷ older) past names h s =
    same_stands known saved ((c ∷ older) ++ first) (sym (place_now past (suc (length older)) h)) (sym (names_now past (suc (length older)) names h)) s.0

dropped_none : (n : ℕ) → drop {A = FileCall} n [] ≡ []
dropped_none zero = refl
dropped_none (suc n) = refl

none_dropped : (k n : ℕ) → k ≡ n → n - k ≡ 0
none_dropped k n h = omega arith

one_dropped : (k n : ℕ) → k ≤ n → suc n - k ≡ suc (n - k)
one_dropped k n h = omega arith

-- the image after any number of the calls
pub each_at : (known : Known) (saved : ℕ) (first : Image) (calls : List FileCall) (past : List Entry) (names : List (List ℕ)) (k : ℕ)
    → k ≤ length calls → EachStands known saved first calls past names
    → StandsFor known saved (drop (length calls - k) calls ++ first) (place past k) (names_at past k names)
each_at known saved first [] past names k h s =
    let e : 0 ≡ k = omega (arith, h) in
    subst (λ calls. StandsFor known saved (calls ++ first) (place past k) (names_at past k names)) (sym (dropped_none (0 - k)))
    (subst (λ n. StandsFor known saved first (place past n) (names_at past n names)) e s)
each_at known saved first (c ∷ older) past names k h s = elim (cases_lt k (suc (length older))) [
  | inl lt ↦ subst (λ n. StandsFor known saved (drop n (c ∷ older) ++ first) (place past k) (names_at past k names)) (sym (one_dropped k (length older) (omega (arith, lt))))
      (each_at known saved first older past names k (omega (arith, lt)) s.1)
  | inr le ↦
      let e : suc (length older) ≡ k = omega (arith, le, h) in
      subst (λ n. StandsFor known saved (drop n (c ∷ older) ++ first) (place past k) (names_at past k names)) (sym (none_dropped k (suc (length older)) (sym e)))
      (subst (λ n. StandsFor known saved ((c ∷ older) ++ first) (place past n) (names_at past n names)) e s.0)
]
