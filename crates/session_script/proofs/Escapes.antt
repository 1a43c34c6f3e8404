-- One spelling: the bytes that a text spells are found from its front.
use Rattle.std.proofs.Common.{◌≡◌, ◌≢◌, ℕ, ◌/◌, ◌%◌, ◌<◌, Bool, true, false, cond, List, [], ◌∷◌, ◌++◌, ap, sym, ◌∙◌, refl, append_assoc, arith, rules, length, ◌==◌}
use Rattle.std.proofs.lemmas.Bool.Decides.{nat_tests}
use Rattle.session_script.specs.Escape.{must_escape, upper_digit, escape_byte, escape}

-- one byte more
pub escape-push : (xs : List ℕ) (x : ℕ) → escape (xs ++ x ∷ []) ≡ escape xs ++ escape_byte x
escape-push [] x = search rules
escape-push (y ∷ xs) x = ap (λ t. escape_byte y ++ t) (escape-push xs x) ∙ sym (append_assoc (escape_byte y) (escape xs) (escape_byte x))

same_digit : (m n : ℕ) → m < 16 → n < 16 → upper_digit m ≡ upper_digit n → m ≡ n
same_digit m n p q e = grind (arith, nat_tests)

small : (b : ℕ) → must_escape b ≡ true → b < 256
small b h = grind (arith, nat_tests)

digits_of : (a b : ℕ) (x y : List ℕ) → a < 256 → b < 256 → upper_digit (a / 16) ∷ upper_digit (a % 16) ∷ x ≡ upper_digit (b / 16) ∷ upper_digit (b % 16) ∷ y → (a ≡ b) × (x ≡ y)
digits_of a b x y la lb e =
    let high : upper_digit (a / 16) ≡ upper_digit (b / 16) = cc in
    let low : upper_digit (a % 16) ≡ upper_digit (b % 16) = cc in
    let tails : x ≡ y = cc in
    let p : a / 16 ≡ b / 16 = same_digit (a / 16) (b / 16) (omega arith) (omega arith) high in
    let q : a % 16 ≡ b % 16 = same_digit (a % 16) (b % 16) (omega arith) (omega arith) low in
    (omega arith, tails)

percent_escaped : (b : ℕ) → 37 ≡ b → must_escape b ≡ false → ⊥
percent_escaped b e h = grind (arith, nat_tests)

front_by : (a b : ℕ) (x y : List ℕ) (p q : Bool) → must_escape a ≡ p → must_escape b ≡ q
    → cond p (37 ∷ upper_digit (a / 16) ∷ upper_digit (a % 16) ∷ []) (a ∷ []) ++ x ≡ cond q (37 ∷ upper_digit (b / 16) ∷ upper_digit (b % 16) ∷ []) (b ∷ []) ++ y → (a ≡ b) × (x ≡ y)
front_by a b x y true true ha hb e = digits_of a b x y (small a ha) (small b hb) cc
front_by a b x y true false ha hb e = let h : 37 ≡ b = cc in absurd (percent_escaped b h hb)
front_by a b x y false true ha hb e = let h : 37 ≡ a = cc in absurd (percent_escaped a h ha)
front_by a b x y false false ha hb e = (cc, cc)

-- the front of a spelling tells its byte
pub same_front : (a b : ℕ) (x y : List ℕ) → escape_byte a ++ x ≡ escape_byte b ++ y → (a ≡ b) × (x ≡ y)
same_front a b x y e = front_by a b x y (must_escape a) (must_escape b) refl refl e

nothing_by : (b : ℕ) (x : List ℕ) (p : Bool) → cond p (37 ∷ upper_digit (b / 16) ∷ upper_digit (b % 16) ∷ []) (b ∷ []) ++ x ≡ [] → ⊥
nothing_by b x true e = cc
nothing_by b x false e = cc

pub nothing : (b : ℕ) (x : List ℕ) → escape_byte b ++ x ≡ [] → ⊥
nothing b x e = nothing_by b x (must_escape b) e

-- two texts of one spelling are one
pub escape_injective : (xs ys : List ℕ) → escape xs ≡ escape ys → xs ≡ ys
escape_injective [] [] e = refl
escape_injective [] (y ∷ ys) e = absurd (nothing y (escape ys) (sym e))
escape_injective (x ∷ xs) [] e = absurd (nothing x (escape xs) e)
escape_injective (x ∷ xs) (y ∷ ys) e =
    let p = same_front x y (escape xs) (escape ys) e in
    ap (λ n. n ∷ xs) p.0 ∙ ap (λ t. y ∷ t) (escape_injective xs ys p.1)

-- what begins as a spelling, and goes on as none does, is none
pub stuck : (out rest bytes : List ℕ) → ((byte : ℕ) (more : List ℕ) → rest ≢ escape_byte byte ++ more) → rest ≢ [] → escape bytes ≢ escape out ++ rest
stuck [] rest [] h some e = some (sym e)
stuck [] rest (b ∷ bytes) h some e = h b (escape bytes) (sym e)
stuck (x ∷ out) rest [] h some e = nothing x (escape out ++ rest) (sym (append_assoc (escape_byte x) (escape out) rest) ∙ sym e)
stuck (x ∷ out) rest (b ∷ bytes) h some e = stuck out rest bytes h some (same_front b x (escape bytes) (escape out ++ rest) (e ∙ append_assoc (escape_byte x) (escape out) rest)).1

-- a step of the reader
pub escape_more : (word out rest after new : List ℕ) (byte : ℕ) → word ≡ escape out ++ rest → rest ≡ escape_byte byte ++ after → new ≡ out ++ byte ∷ [] → word ≡ escape new ++ after
escape_more word out rest after new byte whole front pushed =
    whole ∙ ap (λ t. escape out ++ t) front ∙ sym (append_assoc (escape out) (escape_byte byte) after)
    ∙ ap (λ t. t ++ after) (sym (escape-push out byte)) ∙ ap (λ t. escape t ++ after) (sym pushed)

not_empty : (rest : List ℕ) → false ≡ (length rest == 0) → rest ≢ []
not_empty [] h e = cc
not_empty (x ∷ rest) h e = cc

-- where the reader stops before the end, no text has this spelling
pub stuck_at : (word out rest : List ℕ) → word ≡ escape out ++ rest → ((byte : ℕ) (more : List ℕ) → rest ≢ escape_byte byte ++ more) → false ≡ (length rest == 0) → (bytes : List ℕ) → word ≢ escape bytes
stuck_at word out rest whole none some bytes e = stuck out rest bytes none (not_empty rest some) (sym e ∙ whole)
