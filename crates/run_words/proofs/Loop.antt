-- What the loop over the words keeps: the words so far are spelled options, and their values were found.
use denote.Ref.{Bor}
use Rattle.std.specs.Option.{option_copied}
use Rattle.std.proofs.Common.{◌≡◌, ◌≢◌, ℕ, ◌==◌, true, false, is_some, length, map, List, [], ◌∷◌, ◌++◌, cond, Option, Some, None, flat_map, refl, sym, ap, subst, ◌∙◌, append_assoc, arith}
use Rattle.std.proofs.lemmas.List.{append-nil}
use Rattle.std.proofs.lemmas.List.Concat.{flat_map-append}
use Rattle.run_words.specs.declared.name.Name.{Name}
use Rattle.run_words.specs.declared.values.Values.{Values}
use Rattle.run_words.specs.Options.{Given, place, spelled, value_of}
use Rattle.run_words.specs.Values.{found_in, HaveFound}
use Rattle.run_words.proofs.Lookup.{AreApart, none_before, apart_push, value_of-push}
use Rattle.run_words.proofs.Spelling.{behind, has_words, same_front}

pub record Reads (words : List (List ℕ)) (rest : List (List ℕ)) (values : Values) : Type 0 where
  pub done : List Given
  pub so_far : words ≡ flat_map spelled done ++ rest
  pub once : AreApart done
  pub found : HaveFound values done

pub begun : (words : List (List ℕ)) (values : Values) → ((name : Name) → found_in values name ≡ None)
    → Reads words words values
begun words values none = record {
  done = [];
  so_far = refl;
  once = λ i j d before within. absurd
      (omega arith);
  found = none;
}

pub ended : (words : List (List ℕ)) (values : Values) → Reads words [] values
    → (given : List Given) × (words ≡ flat_map spelled given) × AreApart given × HaveFound values given
ended words values reads = (
  reads.done,
  reads.so_far
      ∙ append-nil (flat_map spelled reads.done),
  reads.once,
  reads.found,
)

pushed : (done : List Given) (g : Given) (later : List (List ℕ))
    → flat_map spelled done ++ (spelled g ++ later) ≡ flat_map spelled (done ++ g ∷ []) ++ later
pushed done g later =
    sym (append_assoc (flat_map spelled done) (spelled g) later)
    ∙ ap (λ l. l ++ later) (ap (λ l. flat_map spelled done ++ l) (sym (append-nil (spelled g)))
    ∙ sym (flat_map-append spelled done (g ∷ [])))

-- an option more, which wasn't given before
pub grown : (words rest later : List (List ℕ)) (values new : Values) (g : Given) → Reads words rest values
    → rest ≡ spelled g ++ later → found_in values g.name ≡ None
    → ((name : Name) → found_in new name ≡ cond (place g.name == place name) (Some g.value)
    (found_in values name)) → Reads words later new
grown words rest later values new g reads front none put =
    let absent = sym (reads.found g.name) ∙ none in
    record {
      done = reads.done ++ g ∷ [];
      so_far = reads.so_far ∙ ap (λ l. flat_map spelled reads.done ++ l) front ∙ pushed reads.done g later;
      once = apart_push reads.done g reads.once absent;
      found = λ name. put name ∙ ap (λ o. cond (place g.name == place name) (Some g.value) o)
          (reads.found name) ∙ sym (value_of-push reads.done g name absent);
    }

stuck_by : (rest : List (List ℕ)) (more : List Given)
    → ((g : Given) (later : List (List ℕ)) → rest ≢ spelled g ++ later) → (rest ≡ [] → ⊥)
    → rest ≡ flat_map spelled more → ⊥
stuck_by rest [] none some e = some e
stuck_by rest (g ∷ more) none some e = none g (flat_map spelled more) e

-- words that are left, and begin with no option
pub stuck : (words rest : List (List ℕ)) (values : Values) → Reads words rest values
    → ((g : Given) (later : List (List ℕ)) → rest ≢ spelled g ++ later) → (rest ≡ [] → ⊥)
    → (given : List Given) → words ≡ flat_map spelled given → ⊥
stuck words rest values reads none some given e =
    let more = behind reads.done given rest (sym reads.so_far ∙ e) in
    stuck_by rest more.0 none some more.2

repeated_by : (done more : List Given) (g : Given) (later : List (List ℕ))
    → spelled g ++ later ≡ flat_map spelled more → AreApart (done ++ more) → value_of done g.name ≡ None
repeated_by done [] g later e apart = absurd (has_words g later e)
repeated_by done (h ∷ more) g later e apart =
    let same = same_front g h later (flat_map spelled more) e in
    ap (λ x. value_of done x.name) same.0 ∙ none_before done more h apart

-- the next option was given before
pub repeated : (words rest later : List (List ℕ)) (values : Values) (g : Given) → Reads words rest values
    → rest ≡ spelled g ++ later → (found_in values g.name ≡ None → ⊥)
    → (given : List Given) → words ≡ flat_map spelled given → AreApart given → ⊥
repeated words rest later values g reads front given_before given e apart =
    let more = behind reads.done given rest (sym reads.so_far ∙ e) in
    given_before (reads.found g.name ∙ repeated_by reads.done more.0 g later (sym front ∙ more.2)
    (subst AreApart more.1 apart))

-- whether a value was found
pub not_found : (r : Option (Bor (List ℕ))) (o : Option (List ℕ)) → option_copied r ≡ o → is_some r ≡ false → o ≡ None
not_found None o is test = sym is
not_found (Some x) o is test = cc

pub was_found : (r : Option (Bor (List ℕ))) (o : Option (List ℕ)) → option_copied r ≡ o → is_some r ≡ true
    → o ≡ None → ⊥
was_found None o is test none = cc
was_found (Some x) o is test none = cc

pub has_more : {A B : Type 0} (f : A → B) (xs : List A) → (length xs == 0) ≡ false → map f xs ≡ [] → ⊥
has_more f [] more none = cc
has_more f (x ∷ xs) more none = cc
