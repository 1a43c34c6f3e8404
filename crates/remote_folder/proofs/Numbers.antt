-- A word is read as a number exactly where it is spelled so.
use Rattle.std.proofs.Common.{◌≡◌, ℕ, ◌<◌, ◌^◌, Bool, true, false, List, decimal, Result, Ok, Err, sym, ◌∙◌, ap, arith}
use Rattle.std.specs.Str.Parse.{ParsesUnsigned}
use Rattle.std.specs.Str.{bytes_eq}
use Rattle.std.proofs.lemmas.Fmt.{parse-decimal}
use Rattle.std.proofs.lemmas.Slice.Eq.{bytes_eq-Decides}

not_both : {T E : Type 0} (r : Result T E) (x : T) (e : E) → r ≡ Ok x → r ≡ Err e → ⊥
not_both r x e p q = cc

-- what isn't parsed is no number
pub not_parsed : {E : Type 0} (n : ℕ) (word : List ℕ) (r : Result ℕ E) (e : E) → n < 2 ^ 64 → word ≡ decimal n → ParsesUnsigned 64 10 word r → r ≡ Err e → ⊥
not_parsed n word r e small spelled parses err = not_both r n e (parse-decimal 64 n word r small (omega arith) spelled parses) err

same_ok : {T E : Type 0} (r : Result T E) (x y : T) → r ≡ Ok x → r ≡ Ok y → x ≡ y
same_ok r x y p q = cc

not_true_and_false : (b : Bool) → b ≡ true → b ≡ false → ⊥
not_true_and_false b p q = cc

-- what is parsed and printed otherwise is no number
pub other_spelling : {E : Type 0} (n m : ℕ) (word printed : List ℕ) (b : Bool) (r : Result ℕ E) → n < 2 ^ 64 → word ≡ decimal n → ParsesUnsigned 64 10 word r → r ≡ Ok m → printed ≡ decimal m → b ≡ bytes_eq printed word → b ≡ false → ⊥
other_spelling n m word printed b r small spelled parses ok text test differs =
    let same = same_ok r m n ok (parse-decimal 64 n word r small (omega arith) spelled parses) in
    not_true_and_false b (test ∙ (bytes_eq-Decides printed word).1 (text ∙ ap decimal same ∙ sym spelled)) differs
