-- What stands before a slash of a path is a path.
use Rattle.std.proofs.Common.{◌≡◌, ℕ, ◌+◌, ◌<◌, ◌≤◌, ◌==◌, ◌&&◌, ◌++◌, ◌∙◌, ap, sym, refl, arith, Bool, true, false, not, List, [], ◌∷◌, length, take, drop, nat_le, cond, slice_index, length-append, Option, Some, None, MatchOption, suc, add-one, IfSome, IfNone, lit<}
use Rattle.std.proofs.lemmas.Grind.{common_steps}
use Rattle.std.proofs.Math.Seq.{drop-cons}
use Rattle.std.proofs.lemmas.List.{take-append-drop}
use Rattle.std.specs.Str.{IsCharBoundary}
use Rattle.std.specs.Str.Pattern.{RFindsChar}
use Rattle.std.proofs.lemmas.Str.Pattern.{rfind_char}
use Rattle.std.specs.List.{slice_split, list_all, onto_first, position_or_len, before_first, after_first}
use Rattle.std.proofs.Math.Bool.{and-true}
use Rattle.std.proofs.lemmas.List.Splits.{slice_split_first}
use Rattle.std.proofs.lemmas.Bool.{and_parts}
use Rattle.std.proofs.lemmas.List.Folds.{list_all-append}
use Rattle.vfs_names.specs.Path.{is_name, is_path, names_of, IsLastSlash, NoSlashFrom}

-- the first part of a list, where a test of its first element is spelled out
first_by : {X : Type 0} (p : X → Bool) (x : X) (xs : List X) (b : Bool) → ((part : List X) × (parts : List (List X)) × (slice_split p xs ≡ part ∷ parts)) → (part : List X) × (parts : List (List X)) × (cond b ([] ∷ slice_split p xs) (onto_first x (slice_split p xs)) ≡ part ∷ parts)
first_by p x xs true h = ([], slice_split p xs, refl)
first_by p x xs false h = (x ∷ h.0, h.1, ap (onto_first x) h.2)

-- a list has a first part
pub slice_split-first : {X : Type 0} (p : X → Bool) (xs : List X) → (part : List X) × (parts : List (List X)) × (slice_split p xs ≡ part ∷ parts)
slice_split-first p [] = ([], [], refl)
slice_split-first p (x ∷ xs) = first_by p x xs (p x) (slice_split-first p xs)

-- the step of the next lemma, where a test of the first element is spelled out
append_by : {X : Type 0} (p : X → Bool) (x : X) (xs ys : List X) (whole : List (List X)) (b : Bool) → ((part : List X) × (parts : List (List X)) × (slice_split p xs ≡ part ∷ parts)) → whole ≡ slice_split p xs ++ slice_split p ys
    → cond b ([] ∷ whole) (onto_first x whole) ≡ cond b ([] ∷ slice_split p xs) (onto_first x (slice_split p xs)) ++ slice_split p ys
append_by p x xs ys whole true h e = ap (λ w. [] ∷ w) e
append_by p x xs ys whole false h e = ap (onto_first x) e ∙ ap (λ w. onto_first x (w ++ slice_split p ys)) h.2 ∙ sym (ap (λ w. onto_first x w ++ slice_split p ys) h.2)

-- a list that is cut at one of its elements gives the parts before it and the parts after it
pub slice_split-append : {X : Type 0} (p : X → Bool) (xs : List X) (y : X) (ys : List X) → p y ≡ true → slice_split p (xs ++ y ∷ ys) ≡ slice_split p xs ++ slice_split p ys
slice_split-append p [] y ys h = ap (λ b. cond b ([] ∷ slice_split p ys) (onto_first y (slice_split p ys))) h
slice_split-append p (x ∷ xs) y ys h = append_by p x xs ys (slice_split p (xs ++ y ∷ ys)) (p x) (slice_split-first p xs) (slice_split-append p xs y ys h)

-- names before a slash are names
pub names_before : (front back : List ℕ) → list_all is_name (names_of (front ++ 47 ∷ back)) ≡ true → list_all is_name (names_of front) ≡ true
names_before front back h = (and_parts (list_all is_name (names_of front)) (list_all is_name (names_of back)) (sym (list_all-append is_name (names_of front) (names_of back)) ∙ ap (list_all is_name) (sym (slice_split-append (λ byte. byte == 47) front 47 back refl)) ∙ h)).0

-- what stands before a slash of a path is a path
pub front_is_path : (front back : List ℕ) → is_path (front ++ 47 ∷ back) ≡ true → is_path front ≡ true
front_is_path [] back h = refl
front_is_path (x ∷ xs) back h = both (length (x ∷ xs)) (length ((x ∷ xs) ++ 47 ∷ back)) _ _ (length-append (x ∷ xs) (47 ∷ back)) h (names_before (x ∷ xs) back) where
  both : (n m : ℕ) (a b : Bool) → m ≡ n + length (47 ∷ back) → (nat_le m 1024 && a) ≡ true → (a ≡ true → b ≡ true) → (nat_le n 1024 && b) ≡ true
  both n m a b e h f = grind (arith, common_steps)

-- where a search for the last slash ends
pub last_slash_is : (text : List ℕ) (r : Option ℕ) → MatchOption r (RFindsChar 47 text None) (λ i. (j : ℕ) × RFindsChar 47 text (Some (i, j)) × (i ≤ j) × IsCharBoundary text i × IsCharBoundary text j) → IfSome r (λ i. IsLastSlash i text)
last_slash_is text None h = tt
last_slash_is text (Some i) h = let f = rfind_char 47 text (Some i) h (lit< tt) in record { inside = f.0; slash = f.1; last = λ k le lt. f.2 k (omega arith) lt }

pub no_slash_is : (text : List ℕ) (r : Option ℕ) → MatchOption r (RFindsChar 47 text None) (λ i. (j : ℕ) × RFindsChar 47 text (Some (i, j)) × (i ≤ j) × IsCharBoundary text i × IsCharBoundary text j) → IfNone r (NoSlashFrom 0 text)
no_slash_is text None h = λ k le lt. rfind_char 47 text None h (lit< tt) k lt
no_slash_is text (Some i) h = tt

-- a list is what stands before an index, the element there, and the rest
split_at_slash : (path : List ℕ) (i : ℕ) → i < length path → slice_index path i ≡ 47 → path ≡ take i path ++ 47 ∷ drop (i + 1) path
split_at_slash path i lt slash = sym (take-append-drop i path) ∙ ap (λ rest. take i path ++ rest) (drop-cons path i 0 lt ∙ ap (λ x. x ∷ drop (suc i) path) slash ∙ ap (λ n. 47 ∷ drop n path) (sym (add-one i)))

-- a path up to one of its slashes is a path
pub take_is_path : (path text : List ℕ) (i : ℕ) → is_path path ≡ true → i < length path → slice_index path i ≡ 47 → text ≡ take i path → is_path text ≡ true
take_is_path path text i h lt slash e = ap is_path e ∙ front_is_path (take i path) (drop (i + 1) path) (ap is_path (sym (split_at_slash path i lt slash)) ∙ h)

-- the step of the next lemma, where a test of the first element is spelled out
no_parts_by : {X : Type 0} (x : X) (xs : List X) (parts : List (List X)) (front : ℕ) (b : Bool) → cond (not b) (1 + front) 0 ≡ suc (length xs) → (front ≡ length xs → parts ≡ xs ∷ []) → cond b ([] ∷ parts) (onto_first x parts) ≡ (x ∷ xs) ∷ []
no_parts_by x xs parts front true e h = absurd (omega arith)
no_parts_by x xs parts front false e h = ap (onto_first x) (h (omega arith))

-- a list in which no element passes is one part
no_parts : {X : Type 0} (p : X → Bool) (xs : List X) → position_or_len p xs ≡ length xs → slice_split p xs ≡ xs ∷ []
no_parts p [] h = refl
no_parts p (x ∷ xs) h = no_parts_by x xs (slice_split p xs) (position_or_len p xs) (p x) h (no_parts p xs)

pub one_name : (text : List ℕ) → position_or_len (λ byte. byte == 47) text ≡ length text → list_all is_name (names_of text) ≡ is_name text
one_name text h = ap (list_all is_name) (no_parts (λ byte. byte == 47) text h) ∙ and-true (is_name text)

-- a text with a slash has the name before it and the names after it
all_names : (text name rest : List ℕ) → (name ≡ before_first (λ byte. byte == 47) text) × (rest ≡ after_first (λ byte. byte == 47) text) × (position_or_len (λ byte. byte == 47) text < length text)
    → list_all is_name (names_of text) ≡ (is_name name && list_all is_name (names_of rest))
all_names text name rest h = ap (list_all is_name) (slice_split_first (λ byte. byte == 47) text 0 h.2) ∙ ap (λ n. is_name n && list_all is_name (names_of (after_first (λ byte. byte == 47) text))) (sym h.0) ∙ ap (λ r. is_name name && list_all is_name (names_of r)) (sym h.1)

pub more_names : (text name rest : List ℕ) (answer : Bool) → (name ≡ before_first (λ byte. byte == 47) text) × (rest ≡ after_first (λ byte. byte == 47) text) × (position_or_len (λ byte. byte == 47) text < length text)
    → is_name name ≡ true → answer ≡ list_all is_name (names_of rest) → answer ≡ list_all is_name (names_of text)
more_names text name rest answer h good e = e ∙ sym (all_names text name rest h ∙ ap (λ b. b && list_all is_name (names_of rest)) good)

pub bad_name : (text name rest : List ℕ) (answer : Bool) → (name ≡ before_first (λ byte. byte == 47) text) × (rest ≡ after_first (λ byte. byte == 47) text) × (position_or_len (λ byte. byte == 47) text < length text)
    → is_name name ≡ false → answer ≡ false → answer ≡ list_all is_name (names_of text)
bad_name text name rest answer h bad e = e ∙ sym (all_names text name rest h ∙ ap (λ b. b && list_all is_name (names_of rest)) bad)
