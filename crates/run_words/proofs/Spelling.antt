-- An option is spelled in one way alone, and words are spelled options in one way alone.
use Rattle.std.proofs.Common.{◌≡◌, ℕ, ◌==◌, Bool, true, false, not, List, [], ◌∷◌, ◌++◌, codes, cond, Option, Some, None, flat_map, refl, sym, ap, ap₂, ◌∙◌, append_assoc}
use Rattle.std.specs.List.{list_all}
use Rattle.std.specs.Str.{bytes_eq}
use Rattle.std.proofs.lemmas.Option.{same_Some}
use Rattle.std.proofs.lemmas.Bool.{and_parts, not-true, eqb-false}
use Rattle.std.proofs.lemmas.List.{append-nil}
use Rattle.run_words.specs.declared.name.Name.{Name}
use Rattle.run_words.specs.declared.name.Name.TheVariants.{Remote, Cache, CacheMode, WorkerTurns, ChunkSize, ChunkLimit, WriteBack, Transfers}
use Rattle.run_words.specs.Options.{Given, word_of, place, spelled}

abbrev names : List Name
names = Remote ∷ Cache ∷ CacheMode ∷ WorkerTurns ∷ ChunkSize ∷ ChunkLimit ∷ WriteBack ∷ Transfers ∷ []

-- the first of the names that passes the test
abbrev first_name : (Name → Bool) → List Name → Option Name
first_name test [] = None
first_name test (name ∷ later) = cond (test name) (Some name) (first_name test later)

abbrev named : List ℕ → Option Name
named word = first_name (λ name. bytes_eq (word_of name) word) names

abbrev placed : ℕ → Option Name
placed k = first_name (λ name. place name == k) names

named-word_of : (name : Name) → named (word_of name) ≡ Some name
named-word_of Remote = refl
named-word_of Cache = refl
named-word_of CacheMode = refl
named-word_of WorkerTurns = refl
named-word_of ChunkSize = refl
named-word_of ChunkLimit = refl
named-word_of WriteBack = refl
named-word_of Transfers = refl

placed-place : (name : Name) → placed (place name) ≡ Some name
placed-place Remote = refl
placed-place Cache = refl
placed-place CacheMode = refl
placed-place WorkerTurns = refl
placed-place ChunkSize = refl
placed-place ChunkLimit = refl
placed-place WriteBack = refl
placed-place Transfers = refl

pub same_name : (a b : Name) → word_of a ≡ word_of b → a ≡ b
same_name a b e = same_Some a b (sym (named-word_of a) ∙ ap named e ∙ named-word_of b)

pub same_place : (a b : Name) → place a ≡ place b → a ≡ b
same_place a b e = same_Some a b (sym (placed-place a) ∙ ap placed e ∙ placed-place b)

-- no byte is an equals sign
abbrev pub is_free : List ℕ → Bool
is_free word = list_all (λ byte. not (byte == 61)) word

pub is_free-word_of : (name : Name) → is_free (word_of name) ≡ true
is_free-word_of Remote = refl
is_free-word_of Cache = refl
is_free-word_of CacheMode = refl
is_free-word_of WorkerTurns = refl
is_free-word_of ChunkSize = refl
is_free-word_of ChunkLimit = refl
is_free-word_of WriteBack = refl
is_free-word_of Transfers = refl

pub heads : {A : Type 0} (x y : A) (xs ys : List A) → x ∷ xs ≡ y ∷ ys → x ≡ y
heads x y xs ys e = cc

pub tails : {A : Type 0} (x y : A) (xs ys : List A) → x ∷ xs ≡ y ∷ ys → xs ≡ ys
tails x y xs ys e = cc

-- a free word doesn't begin with an equals sign
begins_free : (x : ℕ) (xs : List ℕ) → is_free (x ∷ xs) ≡ true → x ≡ 61 → ⊥
begins_free x xs p e = eqb-false x 61 (not-true (x == 61) (and_parts (not (x == 61)) (is_free xs) p).0) e

later_free : (x : ℕ) (xs : List ℕ) → is_free (x ∷ xs) ≡ true → is_free xs ≡ true
later_free x xs p = (and_parts (not (x == 61)) (is_free xs) p).1

-- a word is cut at its first equals sign in one way alone
pub first_cut : (xs ys v w : List ℕ) → is_free xs ≡ true → is_free ys ≡ true → xs ++ 61 ∷ v ≡ ys ++ 61 ∷ w
    → (xs ≡ ys) × (v ≡ w)
first_cut [] [] v w p q e = (refl, tails 61 61 v w e)
first_cut [] (y ∷ ys) v w p q e = absurd (begins_free y ys q (sym (heads 61 y v (ys ++ 61 ∷ w) e)))
first_cut (x ∷ xs) [] v w p q e = absurd (begins_free x xs p (heads x 61 (xs ++ 61 ∷ v) w e))
first_cut (x ∷ xs) (y ∷ ys) v w p q e =
    let more = first_cut xs ys v w (later_free x xs p) (later_free y ys q)
    (tails x y (xs ++ 61 ∷ v) (ys ++ 61 ∷ w) e) in
    (ap₂ (λ a b. a ∷ b) (heads x y (xs ++ 61 ∷ v) (ys ++ 61 ∷ w) e) more.0, more.1)

-- a word without an equals sign isn't cut
pub no_cut : (xs ys w : List ℕ) → is_free xs ≡ true → xs ≡ ys ++ 61 ∷ w → ⊥
no_cut [] [] w p e = cc
no_cut [] (y ∷ ys) w p e = cc
no_cut (x ∷ xs) [] w p e = begins_free x xs p (heads x 61 xs w e)
no_cut (x ∷ xs) (y ∷ ys) w p e = no_cut xs ys w (later_free x xs p) (tails x y xs (ys ++ 61 ∷ w) e)

pub joined_is : (name : Name) (value : List ℕ) → word_of name ++ codes "=" ++ value ≡ word_of name ++ 61 ∷ value
joined_is name value = append_assoc (word_of name) (codes "=") value

abbrev given : Name → List ℕ → Bool → Given
given name value joined = record { name = name; value = value; joined = joined }

-- one option stands at the front of words, and one list of words behind it
same_front_by : (n m : Name) (v w : List ℕ) (i j : Bool) (a b : List (List ℕ))
    → spelled (given n v i) ++ a ≡ spelled (given m w j) ++ b
    → (given n v i ≡ given m w j) × (a ≡ b)
same_front_by n m v w true true a b e =
    let word = sym (joined_is n v) ∙ heads _ _ a b e ∙ joined_is m w in
    let cut = first_cut (word_of n) (word_of m) v w (is_free-word_of n) (is_free-word_of m) word in
    (ap₂ (λ x y. given x y true) (same_name n m cut.0) cut.1, tails _ _ a b e)
same_front_by n m v w true false a b e =
    absurd (no_cut (word_of m) (word_of n) v (is_free-word_of m) (sym (heads _ _ a (w ∷ b) e) ∙ joined_is n v))
same_front_by n m v w false true a b e =
    absurd (no_cut (word_of n) (word_of m) w (is_free-word_of n) (heads _ _ (v ∷ a) b e ∙ joined_is m w))
same_front_by n m v w false false a b e =
    let later = tails _ _ (v ∷ a) (w ∷ b) e in (
      ap₂ (λ x y. given x y false) (same_name n m (heads _ _ (v ∷ a) (w ∷ b) e))
          (heads v w a b later),
      tails v w a b later,
    )

pub same_front : (g h : Given) (a b : List (List ℕ)) → spelled g ++ a ≡ spelled h ++ b → (g ≡ h) × (a ≡ b)
same_front g h a b e = same_front_by g.name h.name g.value h.value g.joined h.joined a b e

has_words_by : (n : Name) (v : List ℕ) (i : Bool) (a : List (List ℕ)) → spelled (given n v i) ++ a ≡ [] → ⊥
has_words_by n v true a e = cc
has_words_by n v false a e = cc

-- an option has a word
pub has_words : (g : Given) (a : List (List ℕ)) → spelled g ++ a ≡ [] → ⊥
has_words g a e = has_words_by g.name g.value g.joined a e

-- options that stand at the front of spelled options are the first of them
pub behind : (done all : List Given) (rest : List (List ℕ)) → flat_map spelled done ++ rest ≡ flat_map spelled all
    → (more : List Given) × (all ≡ done ++ more) × (rest ≡ flat_map spelled more)
behind [] all rest e = (all, refl, e)
behind (g ∷ done) [] rest e = absurd (has_words g (flat_map spelled done ++ rest)
    (sym (append_assoc (spelled g) (flat_map spelled done) rest) ∙ e))
behind (g ∷ done) (h ∷ all) rest e =
    let front = same_front g h (flat_map spelled done ++ rest) (flat_map spelled all)
    (sym (append_assoc (spelled g) (flat_map spelled done) rest) ∙ e) in
    let more = behind done all rest front.1 in
    (more.0, ap₂ (λ x xs. x ∷ xs) (sym front.0) more.1, more.2)

none_left : (more : List Given) → [] ≡ flat_map spelled more → more ≡ []
none_left [] e = refl
none_left (g ∷ more) e = absurd (has_words g (flat_map spelled more) (sym e))

-- words are spelled options in one way alone
pub same_given : (a b : List Given) → flat_map spelled a ≡ flat_map spelled b → a ≡ b
same_given a b e =
    let more = behind a b [] (append-nil (flat_map spelled a) ∙ e) in
    sym (more.1 ∙ ap (λ l. a ++ l) (none_left more.0 more.2) ∙ append-nil a)
