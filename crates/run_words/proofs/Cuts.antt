-- A word and its first equals sign.
use Rattle.std.proofs.Common.{◌≡◌, ◌≢◌, ℕ, ◌<◌, ◌==◌, Bool, true, false, not, List, ◌∷◌, ◌++◌, length, get_or, Option, Some, None, MatchOption, sym, ap, ◌∙◌, lit<, codes, append_assoc}
use Rattle.std.specs.List.{All}
use Rattle.std.proofs.lemmas.Bool.{ne_eqb}
use Rattle.std.proofs.lemmas.Option.{MatchOption-at_some, MatchOption-at_none}
use Rattle.std.proofs.lemmas.List.Elements.{All-from_get_or, All-weaker}
use Rattle.std.proofs.lemmas.List.Sums.{list_all-from_AllPass}
use Rattle.std.proofs.lemmas.Str.Pattern.{IsSplitOnceResult, split_parts}
use denote.Ref.{Bor}
use Rattle.run_words.specs.declared.name.Name.{Name}
use Rattle.run_words.specs.Options.{Given, word_of, spelled}
use Rattle.run_words.proofs.Spelling.{is_free, no_cut, first_cut, is_free-word_of, joined_is, heads}

pub before_cut : (word : List ℕ) (r : Option (Bor (List ℕ) × Bor (List ℕ))) (x y : Bor (List ℕ))
    → IsSplitOnceResult 61 word r → r ≡ Some (x, y) → All (λ byte. byte ≢ 61) x.now
before_cut word r x y cut is =
    let parts = MatchOption-at_some _ (λ p. (word ≡ p.0.now ++ (61 ∷ p.1.now)) ×
    ((i : ℕ) → i < length p.0.now → get_or p.0.now i 0 ≢ 61)) (x, y) is (split_parts 61 word r cut (lit< tt)) in
    All-from_get_or (λ byte. byte ≢ 61) x.now 0 parts.1

pub before_end : (word : List ℕ) (r : Option (Bor (List ℕ) × Bor (List ℕ))) → IsSplitOnceResult 61 word r
    → r ≡ None → All (λ byte. byte ≢ 61) word
before_end word r cut is =
    All-from_get_or (λ byte. byte ≢ 61) word 0
    (MatchOption-at_none ((i : ℕ) → i < length word → get_or word i 0 ≢ 61)
    (λ p. (word ≡ p.0.now ++ (61 ∷ p.1.now)) × ((i : ℕ) → i < length p.0.now → get_or p.0.now i 0 ≢ 61))
    is (split_parts 61 word r cut (lit< tt)))

pub is_free-from_All : (word : List ℕ) → All (λ byte. byte ≢ 61) word → is_free word ≡ true
is_free-from_All word all = list_all-from_AllPass (λ byte. not (byte == 61)) word
    (All-weaker (λ byte. byte ≢ 61) (λ byte. not (byte == 61) ≡ true)
    (λ byte differs. ap not (ne_eqb byte 61 differs)) word all)

-- a word whose front, before an equals sign, names no option
abbrev IsCut : List ℕ → List ℕ → Option (Bor (List ℕ)) → Type 0
IsCut word front rest = MatchOption rest (word ≡ front) (λ value. word ≡ front ++ codes "=" ++ value.now)

named_by : (word front : List ℕ) (rest : Option (Bor (List ℕ))) (name : Name) (value : List ℕ)
    → IsCut word front rest → is_free front ≡ true → word ≡ word_of name ++ codes "=" ++ value → front ≡ word_of name
named_by word front None name value cut free e = absurd
    (no_cut front (word_of name) value free (sym cut ∙ e ∙ joined_is name value))
named_by word front (Some rest) name value cut free e =
    (first_cut front (word_of name) rest.now value free (is_free-word_of name)
    (sym (cut ∙ append_assoc front (codes "=") rest.now) ∙ e ∙ joined_is name value)).0

named_alone : (word front : List ℕ) (rest : Option (Bor (List ℕ))) (name : Name) → IsCut word front rest
    → is_free front ≡ true → word ≡ word_of name → front ≡ word_of name
named_alone word front None name cut free e = sym cut ∙ e
named_alone word front (Some rest) name cut free e = absurd
    (no_cut (word_of name) front rest.now (is_free-word_of name)
    (sym e ∙ cut ∙ append_assoc front (codes "=") rest.now))

front_named : (word front : List ℕ) (rest : Option (Bor (List ℕ))) (name : Name) (value : List ℕ)
    (joined : Bool) (words later : List (List ℕ)) → IsCut word front rest → is_free front ≡ true
    → word ∷ words ≡ spelled (record { name = name; value = value; joined = joined }) ++ later → front ≡ word_of name
front_named word front rest name value true words later cut free e = named_by word front rest name value cut
    free (heads word (word_of name ++ codes "=" ++ value) words later e)
front_named word front rest name value false words later cut free e = named_alone word front rest name cut
    free (heads word (word_of name) words (value ∷ later) e)

pub not_named : (all words : List (List ℕ)) (word front : List ℕ) (rest : Option (Bor (List ℕ)))
    → all ≡ word ∷ words → IsCut word front rest → All (λ byte. byte ≢ 61) front
    → ((name : Name) → front ≢ word_of name) → (given : Given) (later : List (List ℕ)) → all ≢ spelled given ++ later
not_named all words word front rest is cut before none given later e =
    none given.name (front_named word front rest given.name given.value given.joined words later cut
    (is_free-from_All front before) (sym is ∙ e))
