-- The digits of bytes in a row are the digits of the one part and then those of the other.
use Rattle.std.proofs.Common.{◌≡◌, ℕ, ◌++◌, ◌/◌, ◌%◌, refl, sym, ap, ◌∙◌, List, [], ◌∷◌, slice_index, length, append_assoc, append-nil, arith}
use Rattle.hex.specs.Hex.{encode_lower, encode_with, lower_digits}

with_append : (table front back : List ℕ) → encode_with table (front ++ back) ≡ encode_with table front ++ encode_with table back
unfolding encode_with
with_append table [] back = refl
with_append table (byte ∷ front) back = ap (λ rest. slice_index table (byte / 16) ∷ slice_index table (byte % 16) ∷ rest) (with_append table front back)

digits_append : (front back : List ℕ) → encode_lower (front ++ back) ≡ encode_lower front ++ encode_lower back
digits_append front back = with_append lower_digits front back

digits_none : (bytes : List ℕ) → length bytes ≡ 0 → encode_lower bytes ≡ []
unfolding encode_with
digits_none [] e = refl
digits_none (byte ∷ bytes) e = absurd (omega arith)

-- a piece of the bytes that are left was put
pub piece_put : (out more old piece left after bytes : List ℕ) → left ≡ piece ++ after → more ≡ out ++ encode_lower piece → out ++ encode_lower left ≡ old ++ encode_lower bytes → more ++ encode_lower after ≡ old ++ encode_lower bytes
piece_put out more old piece left after bytes cut put so_far =
    ap (λ w. w ++ encode_lower after) put ∙ append_assoc out (encode_lower piece) (encode_lower after) ∙ ap (λ w. out ++ w) (sym (digits_append piece after) ∙ ap encode_lower (sym cut)) ∙ so_far

-- no bytes are left
pub all_put : (out old left bytes : List ℕ) → length left ≡ 0 → out ++ encode_lower left ≡ old ++ encode_lower bytes → out ≡ old ++ encode_lower bytes
all_put out old left bytes none so_far = sym (append-nil out) ∙ ap (λ w. out ++ w) (sym (digits_none left none)) ∙ so_far
