-- Hexadecimal digits: a text of digits is read exactly where it is what its bytes are written as.
use Rattle.std.proofs.Common.{◌≡◌, ℕ, true, false, List, Result, Ok, Err, sym, ◌∙◌, ap, ◌⊎◌, inl, inr}
use Rattle.std.specs.Result.{result_unwrap_or}
use Rattle.std.specs.Str.{bytes_eq}
use Rattle.std.proofs.lemmas.Slice.Eq.{bytes_eq-Decides}
use Rattle.hex.specs.Hex.{encode_lower, decode_of, IsBytes}
use Rattle.hex.specs.declared.error.FromHexError.{FromHexError}
use Rattle.hex.specs.declared.error.FromHexError.TheVariants.{OutOfMemory}
use Rattle.hex.proofs.HexLemmas.{decode_of-encode_lower, decode_of-ok}

decoded : (digits bytes : List ℕ) → IsBytes bytes → digits ≡ encode_lower bytes → decode_of digits ≡ Ok bytes
decoded digits bytes each spelled = ap decode_of spelled ∙ decode_of-encode_lower bytes each

same_ok : (r : Result (List ℕ) FromHexError) (a b : List ℕ) → r ≡ Ok a → r ≡ Ok b → a ≡ b
same_ok r a b p q = ap (λ (s : Result (List ℕ) FromHexError). result_unwrap_or s a) (sym p ∙ q)

-- bytes with the same digits are the same
pub one_spelling : (a b : List ℕ) → IsBytes a → IsBytes b → encode_lower a ≡ encode_lower b → a ≡ b
one_spelling a b p q same = same_ok (decode_of (encode_lower b)) a b (decoded (encode_lower b) a p (sym same)) (decode_of-encode_lower b q)

pub is_digits : (digits bytes spelled : List ℕ) → decode_of digits ≡ Ok bytes → spelled ≡ encode_lower bytes → true ≡ bytes_eq spelled digits → IsBytes bytes × (digits ≡ encode_lower bytes)
is_digits digits bytes spelled ok text test = ((decode_of-ok digits bytes ok).3, sym ((bytes_eq-Decides spelled digits).0 (sym test)) ∙ text)

pub other_digits : (digits found spelled : List ℕ) → decode_of digits ≡ Ok found → spelled ≡ encode_lower found → false ≡ bytes_eq spelled digits → (bytes : List ℕ) → IsBytes bytes → digits ≡ encode_lower bytes → ⊥
other_digits digits found spelled ok text test bytes each e =
    let same = same_ok (decode_of digits) found bytes ok (decoded digits bytes each e) in
    let yes : bytes_eq spelled digits ≡ true = (bytes_eq-Decides spelled digits).1 (text ∙ ap encode_lower same ∙ sym e) in
    cc

-- what is refused for another cause than memory is no spelling
pub refused : (digits : List ℕ) (e : FromHexError) → (e ≡ OutOfMemory) ⊎ (decode_of digits ≡ Err e) → (e ≡ OutOfMemory → ⊥) → (bytes : List ℕ) → IsBytes bytes → digits ≡ encode_lower bytes → ⊥
refused digits e (inl memory) other bytes each spelled = other memory
refused digits e (inr err) other bytes each spelled = let ok = decoded digits bytes each spelled in cc
