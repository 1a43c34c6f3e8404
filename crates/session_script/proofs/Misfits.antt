-- How the first fault of some words is told.
use Rattle.std.proofs.Common.{◌≡◌, inl, inr, ℕ, ◌<◌, ◌^◌, List, ◌∷◌, decimal, Result, Ok, Err, IfErr, sym, subst, refl}
use Rattle.std.specs.Result.{IsErrAnd}
use Rattle.session_script.specs.declared.why.Why.{Why}
use Rattle.session_script.specs.declared.fault.Fault.{Fault}
use Rattle.session_script.specs.declared.fault.Fault.TheVariants.{Bad, NoMemory}
use Rattle.session_script.specs.Calls.{IsFileWord}
use Rattle.session_script.specs.Faults.{Place, Fits, why_of, IsMisfit, By, handle, number, file}

-- the word of the first place doesn't fit
pub misfit_here : (place : Place) (places : List Place) (words rest : List (List ℕ)) (word : List ℕ) → words ≡ word ∷ rest → ¬ (Fits place word) → IsMisfit (place ∷ places) words (why_of place)
misfit_here place places words rest word e misfit = subst (λ ws. IsMisfit (place ∷ places) ws (why_of place)) (sym e) (inl (misfit, refl))

-- the word of the first place fits
misfit_later : (place : Place) (places : List Place) (words rest : List (List ℕ)) (word : List ℕ) (why : Why) → words ≡ word ∷ rest → Fits place word → IsMisfit places rest why → IsMisfit (place ∷ places) words why
misfit_later place places words rest word why e fits later = subst (λ ws. IsMisfit (place ∷ places) ws why) (sym e) (inr (fits, later))

pub after_handle : (words rest : List (List ℕ)) (h : ℕ) → (h < 256) × (words ≡ decimal h ∷ rest) → (places : List Place) (why : Why) → IsMisfit places rest why → IsMisfit (handle ∷ places) words why
after_handle words rest h f places why m = misfit_later handle places words rest (decimal h) why f.1 (h, f.0, refl) m

pub after_number : (words rest : List (List ℕ)) (n : ℕ) → (n < 2 ^ 64) × (words ≡ decimal n ∷ rest) → (places : List Place) (why : Why) → IsMisfit places rest why → IsMisfit (number ∷ places) words why
after_number words rest n f places why m = misfit_later number places words rest (decimal n) why f.1 (n, f.0, refl) m

pub after_file : (words rest : List (List ℕ)) (p : List ℕ) → ((word : List ℕ) × IsFileWord word p × (words ≡ word ∷ rest)) → (places : List Place) (why : Why) → IsMisfit places rest why → IsMisfit (file ∷ places) words why
after_file words rest p f places why m = misfit_later file places words rest f.0 why f.2 (p, f.1) m

by_weaker : {P Q : Why → Type 0} (e : Fault) → ((why : Why) → P why → Q why) → By P e → By Q e
by_weaker (Bad why) f h = f why h
by_weaker NoMemory f h = tt

-- an error that is passed on
pub exit_by : {T : Type 0} {P Q : Why → Type 0} (r : Result T Fault) (e : Fault) → IsErrAnd r (λ y. y ≡ e) → ((why : Why) → P why → Q why) → By P e → IfErr r (λ fault. By Q fault)
exit_by (Ok x) e was f h = tt
exit_by {T} {P} {Q} (Err y) e was f h = subst (By Q) (sym was) (by_weaker e f h)
