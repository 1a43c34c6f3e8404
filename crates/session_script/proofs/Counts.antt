-- A byte and a length are found at the first colon.
use Rattle.std.proofs.Common.{◌≡◌, ℕ, ◌+◌, ◌%◌, ◌<◌, ◌≤◌, ◌^◌, ◌==◌, false, List, [], ◌∷◌, ◌++◌, decimal, sym, ◌∙◌, ap, refl, append_assoc, arith}
use Rattle.std.specs.List.{All, slice_split}
use Rattle.std.proofs.lemmas.List.{append_cancel_left}
use Rattle.std.proofs.lemmas.List.Elements.{All-cons, All-nil, All-append}
use Rattle.std.proofs.lemmas.List.Splits.{slice_split_at}
use Rattle.std.proofs.lemmas.Bool.Decides.{nat_tests}
use Rattle.std.proofs.lemmas.Fmt.{decimal_by_steps, decimal_injective}
use Rattle.session_script.specs.Words.{counted}

abbrev pub NoColon : List ℕ → Type 0
NoColon text = All (λ x. (x == 58) ≡ false) text

digit : (n : ℕ) → n < 10 → ((48 + n) == 58) ≡ false
digit n h = grind (arith, nat_tests)

one_digit : (n : ℕ) → n < 10 → NoColon ((48 + n) ∷ [])
one_digit n h = All-cons (λ x. (x == 58) ≡ false) (48 + n) [] (digit n h) (All-nil (λ x. (x == 58) ≡ false))

-- a number has no colon
pub no_colon : (n : ℕ) → n < 2 ^ 64 → NoColon (decimal n)
no_colon n h = decimal_by_steps (λ _ ds. NoColon ds) one_digit (λ m ds _ front. All-append (λ x. (x == 58) ≡ false) ds ((48 + m % 10) ∷ []) front (one_digit (m % 10) (omega arith))) n h

pub heads : {X : Type 0} (a b : X) (x y : List X) → a ∷ x ≡ b ∷ y → a ≡ b
heads a b x y e = cc

pub tails : {X : Type 0} (a b : X) (x y : List X) → a ∷ x ≡ b ∷ y → x ≡ y
tails a b x y e = cc

pub spelled : (byte len : ℕ) → counted byte len ≡ decimal byte ++ 58 ∷ decimal len
spelled byte len = append_assoc (decimal byte) (58 ∷ []) (decimal len)

pub first_part : (x y u v : List ℕ) → NoColon x → NoColon u → x ++ 58 ∷ y ≡ u ++ 58 ∷ v → x ≡ u
first_part x y u v p q e =
    heads x u (slice_split (λ b. b == 58) y) (slice_split (λ b. b == 58) v)
    (sym (slice_split_at (λ b. b == 58) x 58 y p refl) ∙ ap (slice_split (λ b. b == 58)) e ∙ slice_split_at (λ b. b == 58) u 58 v q refl)

-- the parts before and after the first colon
pub parts_of : (text x y : List ℕ) (byte len : ℕ) → byte < 2 ^ 64 → text ≡ x ++ 58 ∷ y → NoColon x → text ≡ counted byte len → (x ≡ decimal byte) × (y ≡ decimal len)
parts_of text x y byte len small cut before e =
    let whole : x ++ 58 ∷ y ≡ decimal byte ++ 58 ∷ decimal len = sym cut ∙ e ∙ spelled byte len in
    let first : x ≡ decimal byte = first_part x y (decimal byte) (decimal len) before (no_colon byte small) whole in
    (first, tails 58 58 y (decimal len) (append_cancel_left x (58 ∷ y) (58 ∷ decimal len) (whole ∙ ap (λ t. t ++ 58 ∷ decimal len) (sym first))))

pub no_byte : (text x y : List ℕ) (most : ℕ) → most < 256 → text ≡ x ++ 58 ∷ y → NoColon x → ((n : ℕ) → n < 2 ^ 64 → x ≡ decimal n → ⊥) → (byte len : ℕ) → byte ≤ most → len < 2 ^ 64 → text ≡ counted byte len → ⊥
no_byte text x y most top cut before none byte len fits small e = none byte (omega arith) (parts_of text x y byte len (omega arith) cut before e).0

pub no_len : (text x y : List ℕ) (most : ℕ) → most < 256 → text ≡ x ++ 58 ∷ y → NoColon x → ((n : ℕ) → n < 2 ^ 64 → y ≡ decimal n → ⊥) → (byte len : ℕ) → byte ≤ most → len < 2 ^ 64 → text ≡ counted byte len → ⊥
no_len text x y most top cut before none byte len fits small e = none len small (parts_of text x y byte len (omega arith) cut before e).1

pub too_big : (text x y : List ℕ) (most n : ℕ) → most < 256 → text ≡ x ++ 58 ∷ y → NoColon x → n < 2 ^ 64 → x ≡ decimal n → most < n → (byte len : ℕ) → byte ≤ most → len < 2 ^ 64 → text ≡ counted byte len → ⊥
too_big text x y most n top cut before fits number above byte len small long e =
    let same : n ≡ byte = decimal_injective n byte fits (omega arith) (sym number ∙ (parts_of text x y byte len (omega arith) cut before e).0) in
    omega arith
