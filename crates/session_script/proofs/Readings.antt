-- Reading line by line.
use Rattle.std.proofs.Common.{◌≡◌, ℕ, ◌+◌, ◌==◌, true, false, cond, List, [], ◌∷◌, ◌++◌, length, inl, ap, sym, subst, ◌∙◌, refl, arith, append-nil, Result, Err}
use Rattle.std.specs.Str.Lines.{lines}
use Rattle.std.proofs.lemmas.Bool.Decides.{Decides-eqb}
use Rattle.session_script.specs.declared.call.Line.{Line}
use Rattle.session_script.specs.declared.why.Why.{Why}
use Rattle.session_script.specs.Script.{is_quiet, numbered, AreLines, IsRefused, IsFirstRefused, IsScript}

numbered_loud : (n : ℕ) (text : List ℕ) (texts : List (List ℕ)) → is_quiet text ≡ false → numbered n (text ∷ texts) ≡ (n, text) ∷ numbered (n + 1) texts
numbered_loud n text texts loud = ap (λ b. cond b (numbered (n + 1) texts) ((n, text) ∷ numbered (n + 1) texts)) loud

-- the first of these lines is refused
pub refused_here : (n line : ℕ) (texts after : List (List ℕ)) (text : List ℕ) (why : Why) → texts ≡ text ∷ after → false ≡ is_quiet text → (line ≡ n) × IsRefused n text why → IsFirstRefused (numbered n texts) line why
refused_here n line texts after text why e loud h = subst (λ ls. IsFirstRefused ls line why) (sym (ap (numbered n) e ∙ numbered_loud n text after (sym loud))) (inl h)

empty_text : (text : List ℕ) → length text ≡ 0 → text ≡ []
empty_text [] h = refl
empty_text (x ∷ text) h = absurd (omega arith)

-- at the end nothing is left to be read
pub all_read : (text rest : List ℕ) (n : ℕ) (script found : List Line) → ((more : List Line) → AreLines (numbered n (lines rest)) more → IsScript text (found ++ more)) → true ≡ (length rest == 0) → script ≡ found → IsScript text script
all_read text rest n script found h done e =
    let empty : rest ≡ [] = empty_text rest ((Decides-eqb (length rest) 0).0 (sym done)) in
    subst (IsScript text) (append-nil found ∙ sym e) (h [] (subst (λ t. AreLines (numbered n (lines t)) []) (sym empty) tt))

-- an error that is passed on in another result
pub same_error : {T E : Type 0} (a b : E) (r : Result T E) → r ≡ Err a → r ≡ Err b → a ≡ b
same_error a b r p q = cc
