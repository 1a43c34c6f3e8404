-- Where a text is cut, its words are those before the cut and those after it.
use Rattle.std.proofs.Common.{◌≡◌, ℕ, ◌==◌, Bool, true, false, List, [], ◌∷◌, ◌++◌, Option, None, Some, MatchOption, cond, length, ◌<◌, ap, sym, subst, ◌∙◌, refl, arith}
use Rattle.std.specs.List.{All, slice_split, onto_first}
use Rattle.std.specs.Str.Lines.{lines, lines_of_parts, strip_carriage_return}
use Rattle.std.proofs.lemmas.List.Splits.{slice_split_none, slice_split_at}
use Rattle.std.proofs.lemmas.Bool.Decides.{nat_tests}
use denote.Ref.{Bor}
use Rattle.session_script.specs.Words.{words_of, words_left}

pub words_after : (text word : List ℕ) (rest : Option (Bor (List ℕ))) → MatchOption rest (text ≡ word) (λ r. text ≡ word ++ 32 ∷ r.now) → All (λ x. (x == 32) ≡ false) word → words_of text ≡ word ∷ words_left rest
words_after text word None e h = ap words_of e ∙ slice_split_none (λ byte. byte == 32) word h
words_after text word (Some r) e h = ap words_of e ∙ slice_split_at (λ byte. byte == 32) word 32 r.now h refl

first_by : {X : Type 0} (p : X → Bool) (x : X) (xs : List X) (b : Bool) → ((part : List X) × (parts : List (List X)) × (slice_split p xs ≡ part ∷ parts)) → (part : List X) × (parts : List (List X)) × (cond b ([] ∷ slice_split p xs) (onto_first x (slice_split p xs)) ≡ part ∷ parts)
first_by p x xs true h = ([], slice_split p xs, refl)
first_by p x xs false h = (x ∷ h.0, h.1, ap (onto_first x) h.2)

-- a text has a first part
part_of : {X : Type 0} (p : X → Bool) (xs : List X) → (part : List X) × (parts : List (List X)) × (slice_split p xs ≡ part ∷ parts)
part_of p [] = ([], [], refl)
part_of p (x ∷ xs) = first_by p x xs (p x) (part_of p xs)

-- a part before others is a line, less its carriage return
line_and_parts : (line : List ℕ) (parts : List (List ℕ)) → ((part : List ℕ) × (others : List (List ℕ)) × (parts ≡ part ∷ others)) → lines_of_parts (line ∷ parts) ≡ strip_carriage_return line ∷ lines_of_parts parts
line_and_parts line parts (part, others, e) = subst (λ ps. lines_of_parts (line ∷ ps) ≡ strip_carriage_return line ∷ lines_of_parts ps) (sym e) refl

-- what stands before the first line feed is the first line, less its carriage return
pub line_before : (text line stripped rest : List ℕ) → text ≡ line ++ 10 ∷ rest → All (λ x. (x == 10) ≡ false) line → stripped ≡ strip_carriage_return line → lines text ≡ stripped ∷ lines rest
line_before text line stripped rest e h s =
    ap lines e ∙ ap lines_of_parts (slice_split_at (λ b. b == 10) line 10 rest h refl) ∙ line_and_parts line (slice_split (λ b. b == 10) rest) (part_of (λ b. b == 10) rest) ∙ ap (λ l. l ∷ lines rest) (sym s)

one_part : (text : List ℕ) → 0 < length text → lines_of_parts (text ∷ []) ≡ text ∷ []
one_part text h = grind (arith, nat_tests)

-- a text without a line feed is one line
pub last_line : (text line : List ℕ) → text ≡ line → All (λ x. (x == 10) ≡ false) line → 0 < length text → lines text ≡ line ∷ lines []
last_line text line e h some = ap lines e ∙ ap lines_of_parts (slice_split_none (λ b. b == 10) line h) ∙ one_part line (subst (λ t. 0 < length t) e some)
