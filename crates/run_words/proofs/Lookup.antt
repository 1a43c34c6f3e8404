-- What is given for an option, where each option is given at most once.
use Rattle.std.proofs.Common.{◌≡◌, ◌≢◌, suc, ◌<◌, ◌==◌, Bool, true, false, List, [], ◌∷◌, ◌++◌, length, cond, Option, Some, None, refl, sym, ap, ◌∙◌, arith}
use Rattle.std.specs.List.{All, AllPairs}
use Rattle.std.proofs.lemmas.Bool.{eqb-true, eqb-false, ne_eqb, cond-false}
use Rattle.std.proofs.lemmas.Option.{none-some}
use Rattle.std.proofs.lemmas.List.{length-append}
use Rattle.std.proofs.Math.Seq.{get_or-append_seam}
use Rattle.std.proofs.lemmas.List.Elements.{All-cons, All-nil}
use Rattle.std.proofs.lemmas.List.Quantifiers.{all_pairs_push}
use Rattle.run_words.specs.declared.name.Name.{Name}
use Rattle.run_words.specs.Options.{Given, place, value_of}
use Rattle.run_words.proofs.Spelling.{same_place}

abbrev pub AreApart : List Given → Type 0
AreApart given = AllPairs (λ a b. a.name ≢ b.name) given

apart_tail : (x : Given) (xs : List Given) → AreApart (x ∷ xs) → AreApart xs
apart_tail x xs apart = λ i j d before within. apart (suc i) (suc j) d (omega arith) (omega arith)

apart_in : (x g : Given) (xs ys : List Given) → AreApart (x ∷ (xs ++ g ∷ ys)) → x.name ≢ g.name
apart_in x g xs ys apart = λ same.
    let inside : suc (length xs) < length (x ∷ (xs ++ g ∷ ys)) = omega (arith, length-append xs (g ∷ ys)) in
    apart 0 (suc (length xs)) g (omega arith) inside (same ∙ ap (λ y. y.name) (sym (get_or-append_seam xs g ys g)))

-- what is given before an option isn't given for it
pub none_before : (xs ys : List Given) (g : Given) → AreApart (xs ++ g ∷ ys) → value_of xs g.name ≡ None
none_before [] ys g apart = refl
none_before (x ∷ xs) ys g apart =
    cond-false (place x.name == place g.name) (Some x.value) (value_of xs g.name)
    (ne_eqb (place x.name) (place g.name) (λ e. apart_in x g xs ys apart (same_place x.name g.name e)))
    ∙ none_before xs ys g (apart_tail x (xs ++ g ∷ ys) apart)

cond_none : {A : Type 0} (b : Bool) (x : A) (y : Option A) → cond b (Some x) y ≡ None → (b ≡ false) × (y ≡ None)
cond_none true x y e = absurd (none-some x (sym e))
cond_none false x y e = (refl, e)

absent : (xs : List Given) (name : Name) → value_of xs name ≡ None → All (λ x. x.name ≢ name) xs
absent [] name e = All-nil (λ x. x.name ≢ name)
absent (x ∷ xs) name e =
    let parts = cond_none (place x.name == place name) x.value (value_of xs name) e in
    All-cons (λ y. y.name ≢ name) x xs (λ same. eqb-false (place x.name) (place name) parts.0 (ap place same))
    (absent xs name parts.1)

pub apart_push : (xs : List Given) (g : Given) → AreApart xs → value_of xs g.name ≡ None → AreApart (xs ++ g ∷ [])
apart_push xs g apart e = all_pairs_push (λ a b. a.name ≢ b.name) xs g apart
    (λ k d within. absent xs g.name e k d within)

-- of two tests at most one holds, so their order doesn't matter
turned : {A : Type 0} (p q : Bool) (v w : A) (o : Option A) → (p ≡ true → q ≡ true → ⊥)
    → cond p (Some v) (cond q (Some w) o) ≡ cond q (Some w) (cond p (Some v) o)
turned true true v w o h = absurd (h refl refl)
turned true false v w o h = refl
turned false q v w o h = refl

-- one option more is given
pub value_of-push : (xs : List Given) (g : Given) (name : Name) → value_of xs g.name ≡ None
    → value_of (xs ++ g ∷ []) name ≡ cond (place g.name == place name) (Some g.value) (value_of xs name)
value_of-push [] g name e = refl
value_of-push (x ∷ xs) g name e =
    let parts = cond_none (place x.name == place g.name) x.value (value_of xs g.name) e in
    ap (λ o. cond (place x.name == place name) (Some x.value) o) (value_of-push xs g name parts.1)
    ∙ turned (place x.name == place name) (place g.name == place name) x.value g.value (value_of xs name)
    (λ p q. eqb-false (place x.name) (place g.name) parts.0
    (eqb-true (place x.name) (place name) p ∙ sym (eqb-true (place g.name) (place name) q)))
