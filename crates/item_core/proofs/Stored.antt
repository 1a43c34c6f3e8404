-- A history as it is stored, its oldest entry first.
use Rattle.std.proofs.Common.{◌≡◌, ℕ, zero, suc, ◌+◌, ◌-◌, ◌<◌, Bool, List, [], ◌∷◌, ◌++◌, length, get_or, take, drop, reverse, refl, sym, ◌∙◌, ap, subst, inl, inr, arith}
use Rattle.std.specs.Prelude.{count_by, slice_get}
use Rattle.std.proofs.Math.Seq.{take-suc}
use Rattle.std.proofs.lemmas.Bool.{cases_Bool}
use Rattle.std.proofs.lemmas.List.{reverse-append, length-reverse, take-append-drop}
use Rattle.std.proofs.lemmas.List.Recursion.{is_count_by}
use Rattle.item_core.specs.declared.entry.Entry.{Entry}
use Rattle.item_core.specs.declared.entry.FileKind.{FileKind}
use Rattle.item_core.specs.declared.entry.FileKind.TheVariants.{Write}
use Rattle.vfs_names.specs.declared.who.By.{By}
use Rattle.item_core.specs.History.{count_of}
use Rattle.item_core.specs.Content.{Known, byte_at, bytes_at}
use Rattle.item_core.specs.Names.{newest}
use Rattle.item_core.specs.Legal.{IsLegal, MayFollow, Allows, IsNoLater, IsTimely}
use Rattle.item_core.specs.Step.{EndFits}
use Rattle.item_core.proofs.Counts.{count_append, legal_tail}

pub count_stored : (such : FileKind → Bool) (xs : List Entry) → count_by (λ e. such e.kind) xs ≡ count_of such (reverse xs)
count_stored such xs = sym (is_count_by (λ es. count_of such (reverse es)) (λ e. such e.kind) refl (λ x es.
    let back : reverse (x ∷ es) ≡ reverse es ++ x ∷ [] = reverse-append (x ∷ []) es in
    let split : count_of such (reverse es ++ x ∷ []) ≡ count_of such (reverse es) + count_of such (x ∷ []) = count_append such (reverse es) (x ∷ []) in
    elim (cases_Bool (such x.kind)) [ inl t ↦ rw (back, split, t) (omega arith) | inr t ↦ rw (back, split, t) (omega arith) ]) xs)

-- the entries up to one are it and those before it
pub turned : (xs : List Entry) (i : ℕ) (x : Entry) → i < length xs → x ≡ get_or xs i x
    → reverse xs ≡ reverse (drop (suc i) xs) ++ x ∷ reverse (take i xs)
turned xs i x lt is =
    let front : reverse (take (suc i) xs) ≡ x ∷ reverse (take i xs) =
    ap reverse (take-suc xs i x lt) ∙ reverse-append (take i xs) (get_or xs i x ∷ []) ∙ ap (λ (e : Entry). e ∷ reverse (take i xs)) (sym is) in
    let whole : reverse xs ≡ reverse (take (suc i) xs ++ drop (suc i) xs) = ap reverse (sym (take-append-drop (suc i) xs)) in
    whole ∙ reverse-append (take (suc i) xs) (drop (suc i) xs) ∙ ap (λ (es : List Entry). reverse (drop (suc i) xs) ++ es) front

-- an entry of a legal history may follow those before it
pub follows : (xs : List Entry) (i : ℕ) (x : Entry) → IsLegal (reverse xs) → i < length xs → x ≡ get_or xs i x → MayFollow (reverse (take i xs)) x
follows xs i x l lt is = (legal_tail (reverse (drop (suc i) xs)) (x ∷ reverse (take i xs)) (subst IsLegal (turned xs i x lt is) l)).0

timely_tail : (mid rest : List Entry) → IsTimely (mid ++ rest) → IsTimely rest
timely_tail [] rest t = t
timely_tail (e ∷ mid) rest t = timely_tail mid rest t.1

pub no_later : (xs : List Entry) (i : ℕ) (x : Entry) → IsTimely (reverse xs) → i < length xs → x ≡ get_or xs i x → IsNoLater (reverse (take i xs)) x.by
no_later xs i x t lt is = (timely_tail (reverse (drop (suc i) xs)) (x ∷ reverse (take i xs)) (subst IsTimely (turned xs i x lt is) t)).0

end_fits : (k : FileKind) (past : List Entry) (by : By) → Allows past k by → EndFits k
end_fits (Write pos payload) past by a = a.3
end_fits _ past by a = tt

pub fits_at : (xs : List Entry) (i : ℕ) (x : Entry) → IsLegal (reverse xs) → i < length xs → x ≡ get_or xs i x → EndFits x.kind
fits_at xs i x l lt is = end_fits x.kind (reverse (take i xs)) x.by (follows xs i x l lt is).allowed

newest_front : (xs : List (List ℕ)) (x : List ℕ) → 0 < length xs → newest (xs ++ x ∷ []) ≡ newest xs
newest_front [] x h = absurd (omega arith)
newest_front (y ∷ ys) x h = refl

-- the newest of the paths is the last that is stored
pub newest_last : (names : List (List ℕ)) → newest (reverse names) ≡ slice_get names (length names - 1)
newest_last [] = refl
newest_last (n ∷ []) = refl
newest_last (n ∷ m ∷ ms) =
    let back : reverse (n ∷ m ∷ ms) ≡ reverse (m ∷ ms) ++ n ∷ [] = reverse-append (n ∷ []) (m ∷ ms) in
    let ih : newest (reverse (m ∷ ms)) ≡ slice_get (m ∷ ms) (length (m ∷ ms) - 1) = newest_last (m ∷ ms) in
    let some : 0 < length (reverse (m ∷ ms)) = omega (arith, length-reverse (m ∷ ms)) in
    ap newest back ∙ newest_front (reverse (m ∷ ms)) n some ∙ ih
    ∙ (let short : suc (length ms) - 1 ≡ length ms = omega arith in let long : suc (suc (length ms)) - 1 ≡ suc (length ms) = omega arith in rw (short, long) refl)

pub bytes_more : (known : Known) (past : List Entry) (pos n : ℕ) → bytes_at known past pos (suc n) ≡ bytes_at known past pos n ++ byte_at known past (pos + n) ∷ []
bytes_more known past pos zero = let same : pos + 0 ≡ pos = omega arith in rw same refl
bytes_more known past pos (suc n) =
    let ih : bytes_at known past (suc pos) (suc n) ≡ bytes_at known past (suc pos) n ++ byte_at known past (suc pos + n) ∷ [] = bytes_more known past (suc pos) n in
    let same : suc pos + n ≡ pos + suc n = omega arith in
    rw (← same) (ap (λ (bs : List ℕ). byte_at known past pos ∷ bs) ih)
