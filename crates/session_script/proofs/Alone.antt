-- A line asks for one thing, and no more than one thing is wrong with it.
use Rattle.std.proofs.Common.{◌≡◌, inl, inr, ℕ, ◌<◌, ◌≤◌, ◌^◌, ◌+◌, ◌%◌, true, false, cond, List, [], ◌∷◌, ◌++◌, codes, decimal, nat_le, ◌&&◌, ap, sym, ◌∙◌, refl, arith}
use Rattle.std.specs.Str.{bytes_eq}
use Rattle.std.proofs.lemmas.Fmt.{decimal_by_steps}
use Rattle.session_script.specs.declared.verb.Verb.{Verb}
use Rattle.session_script.specs.declared.verb.Verb.TheVariants as verb
use Rattle.session_script.specs.declared.verb.Control.{Control}
use Rattle.session_script.specs.declared.verb.Control.TheVariants as control
use Rattle.session_script.specs.declared.why.Why.{Why}
use Rattle.session_script.specs.Words.{IsSession, session_word}
use Rattle.session_script.specs.Calls.{verb_word, control_word}
use Rattle.session_script.specs.Faults.{Place, Fits, IsMisfit, IsTooLong, IsFault, begins_as_session}
use Rattle.std.proofs.lemmas.Bool.Decides.{nat_tests}

-- the verb that a word is
verb_from : List ℕ → Verb
verb_from word =
    cond (bytes_eq word (codes "open")) verb.Open (cond (bytes_eq word (codes "read")) verb.Read (cond (bytes_eq word (codes "write")) verb.Write
    (cond (bytes_eq word (codes "size")) verb.Size (cond (bytes_eq word (codes "close")) verb.Close (cond (bytes_eq word (codes "stat")) verb.Stat
    (cond (bytes_eq word (codes "list")) verb.List (cond (bytes_eq word (codes "mkdir")) verb.MakeDir (cond (bytes_eq word (codes "rmdir")) verb.RemoveDir
    (cond (bytes_eq word (codes "unlink")) verb.Unlink verb.Rename)))))))))

verb_again : (v : Verb) → verb_from (verb_word v) ≡ v
unfolding verb_from
verb_again verb.Open = refl
verb_again verb.Read = refl
verb_again verb.Write = refl
verb_again verb.Size = refl
verb_again verb.Close = refl
verb_again verb.Stat = refl
verb_again verb.List = refl
verb_again verb.MakeDir = refl
verb_again verb.RemoveDir = refl
verb_again verb.Unlink = refl
verb_again verb.Rename = refl

pub same_verb : (v w : Verb) → verb_word v ≡ verb_word w → v ≡ w
same_verb v w e = sym (verb_again v) ∙ ap verb_from e ∙ verb_again w

control_from : List ℕ → Control
control_from word =
    cond (bytes_eq word (codes "advance")) control.Advance (cond (bytes_eq word (codes "tick")) control.Tick (cond (bytes_eq word (codes "clean")) control.Clean
    (cond (bytes_eq word (codes "poll")) control.Poll (cond (bytes_eq word (codes "join")) control.Join control.Restart))))

control_again : (c : Control) → control_from (control_word c) ≡ c
unfolding control_from
control_again control.Advance = refl
control_again control.Tick = refl
control_again control.Clean = refl
control_again control.Poll = refl
control_again control.Join = refl
control_again control.Restart = refl

pub same_control : (c d : Control) → control_word c ≡ control_word d → c ≡ d
same_control c d e = sym (control_again c) ∙ ap control_from e ∙ control_again d

pub control_is_no_session : (c : Control) → begins_as_session (control_word c) ≡ false
control_is_no_session control.Advance = refl
control_is_no_session control.Tick = refl
control_is_no_session control.Clean = refl
control_is_no_session control.Poll = refl
control_is_no_session control.Join = refl
control_is_no_session control.Restart = refl

-- a number begins with a digit
abbrev BeginsWithDigit : List ℕ → Type 0
BeginsWithDigit ds = (d : ℕ) × (rest : List ℕ) × (ds ≡ d ∷ rest) × (48 ≤ d) × (d ≤ 57)

begins_one : (n : ℕ) → n < 10 → BeginsWithDigit ((48 + n) ∷ [])
begins_one n h = (48 + n, [], refl, omega arith, omega arith)

begins_more : (n : ℕ) (ds : List ℕ) → 10 ≤ n → BeginsWithDigit ds → BeginsWithDigit (ds ++ ((48 + n % 10) ∷ []))
begins_more n ds h (d, rest, e, low, high) = (d, rest ++ ((48 + n % 10) ∷ []), ap (λ t. t ++ ((48 + n % 10) ∷ [])) e, low, high)

begins_number : (n : ℕ) → n < 2 ^ 64 → BeginsWithDigit (decimal n)
begins_number n h = decimal_by_steps (λ _ ds. BeginsWithDigit ds) begins_one begins_more n h

digit_test : (d : ℕ) → 48 ≤ d → d ≤ 57 → (nat_le 48 d && nat_le d 57) ≡ true
digit_test d low high = grind (arith, nat_tests)

begins_by : (ds : List ℕ) → BeginsWithDigit ds → begins_as_session (115 ∷ ds) ≡ true
begins_by ds (d, rest, e, low, high) = ap (λ t. begins_as_session (115 ∷ t)) e ∙ digit_test d low high

pub session_begins : (s : ℕ) → IsSession s → begins_as_session (session_word s) ≡ true
session_begins s h = begins_by (decimal s) (begins_number s (omega arith))

-- the first misfit is one
pub same_misfit : (places : List Place) (words : List (List ℕ)) (a b : Why) → IsMisfit places words a → IsMisfit places words b → a ≡ b
same_misfit [] words a b h k = absurd h
same_misfit (p ∷ places) [] a b h k = h ∙ sym k
same_misfit (p ∷ places) (w ∷ words) a b (inl h) (inl k) = h.1 ∙ sym k.1
same_misfit (p ∷ places) (w ∷ words) a b (inl h) (inr k) = absurd (h.0 k.0)
same_misfit (p ∷ places) (w ∷ words) a b (inr h) (inl k) = absurd (k.0 h.0)
same_misfit (p ∷ places) (w ∷ words) a b (inr h) (inr k) = same_misfit places words a b h.1 k.1

misfit_or_long : (places : List Place) (words : List (List ℕ)) (a : Why) → IsMisfit places words a → IsTooLong places words → ⊥
misfit_or_long [] words a h k = h
misfit_or_long (p ∷ places) [] a h k = k
misfit_or_long (p ∷ places) (w ∷ words) a (inl h) k = h.0 k.0
misfit_or_long (p ∷ places) (w ∷ words) a (inr h) k = misfit_or_long places words a h.1 k.1

pub same_fault : (places : List Place) (words : List (List ℕ)) (a b : Why) → IsFault places words a → IsFault places words b → a ≡ b
same_fault places words a b (inl h) (inl k) = same_misfit places words a b h k
same_fault places words a b (inl h) (inr k) = absurd (misfit_or_long places words a h k.0)
same_fault places words a b (inr h) (inl k) = absurd (misfit_or_long places words b k h.0)
same_fault places words a b (inr h) (inr k) = h.1 ∙ sym k.1

-- each place has its word, and no more follow
abbrev pub AllFit : List Place → List (List ℕ) → Type 0
AllFit [] [] = Unit {0}
AllFit [] (w ∷ words) = ⊥
AllFit (p ∷ places) [] = ⊥
AllFit (p ∷ places) (w ∷ words) = Fits p w × AllFit places words

pub no_misfit : (places : List Place) (words : List (List ℕ)) (a : Why) → AllFit places words → IsMisfit places words a → ⊥
no_misfit [] words a f h = h
no_misfit (p ∷ places) [] a f h = f
no_misfit (p ∷ places) (w ∷ words) a f (inl h) = h.0 f.0
no_misfit (p ∷ places) (w ∷ words) a f (inr h) = no_misfit places words a f.1 h.1

not_long : (places : List Place) (words : List (List ℕ)) → AllFit places words → IsTooLong places words → ⊥
not_long [] [] f h = h refl
not_long [] (w ∷ words) f h = f
not_long (p ∷ places) [] f h = f
not_long (p ∷ places) (w ∷ words) f h = not_long places words f.1 h.1

pub no_fault : (places : List Place) (words : List (List ℕ)) (a : Why) → AllFit places words → IsFault places words a → ⊥
no_fault places words a f (inl h) = no_misfit places words a f h
no_fault places words a f (inr h) = not_long places words f h.0
