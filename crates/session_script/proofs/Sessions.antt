-- Which words are sessions.
use Rattle.std.proofs.Common.{◌≡◌, ℕ, ◌<◌, ◌^◌, List, ◌∷◌, decimal, sym, ◌∙◌, subst, arith}
use Rattle.std.proofs.lemmas.Fmt.{decimal_injective}
use Rattle.session_script.specs.Words.{IsSession, session_word}
use Rattle.session_script.proofs.Counts.{tails}

pub no_session : (word digits : List ℕ) (s : ℕ) → word ≡ 115 ∷ digits → s < 2 ^ 64 → digits ≡ decimal s → ¬ (IsSession s) → (t : ℕ) → IsSession t → word ≡ session_word t → ⊥
no_session word digits s e small d other t is f =
    other (subst IsSession (sym (decimal_injective s t small (omega arith) (sym d ∙ tails 115 115 digits (decimal t) (sym e ∙ f)))) is)
