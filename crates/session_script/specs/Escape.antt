-- How paths and texts are escaped, so that they stand in one word. A text is its bytes.
use Rattle.std.specs.Prelude.{ℕ, ◌+◌, ◌/◌, ◌%◌, ◌==◌, ◌||◌, Bool, nat_lt, List, [], ◌∷◌, ◌++◌, if◌then◌else◌}

-- a control byte, a space, the byte 127, a per cent sign and a comma are escaped
abbrev pub must_escape : ℕ → Bool
must_escape byte = nat_lt byte 33 || byte == 127 || byte == 37 || byte == 44

-- the digit of a number below 16: 0 to 9 and A to F
abbrev pub upper_digit : ℕ → ℕ
upper_digit n = if nat_lt n 10 then 48 + n else 55 + n

-- a byte that must be escaped is a per cent sign and two digits; any other stands for itself
abbrev pub escape_byte : ℕ → List ℕ
escape_byte byte = if must_escape byte then 37 ∷ upper_digit (byte / 16) ∷ upper_digit (byte % 16) ∷ [] else byte ∷ []

-- the one spelling of a text
abbrev pub escape : List ℕ → List ℕ
escape [] = []
escape (byte ∷ bytes) = escape_byte byte ++ escape bytes
