-- What the calls on a slot's file leave, as they are found from the last one back or made anew.
use Rattle.std.proofs.Common.{◌≡◌, ℕ, ◌+◌, ◌-◌, ◌++◌, ◌∙◌, ap, sym, refl, arith, min, List, [], ◌∷◌, Some, None, length, take, drop, reverse, append-nil, take-append-drop, length-drop}
use Rattle.std.specs.Prelude.{find}
use Rattle.std.proofs.lemmas.List.{reverse-append, length-reverse}
use Rattle.std.proofs.Math.Seq.{drop-append_seam}
use Rattle.vfs_outside.specs.Image.{meta_after, meta_in}
use Rattle.vfs_outside.specs.Slot.{Told, handed_out, image, image_after}
use Rattle.vfs_outside.specs.declared.file_call.FileCall.{FileCall}
use Rattle.vfs_outside.specs.declared.file_call.FileCall.TheVariants.{Quiet, Saved, Wrote, Cleared}
use Rattle.cache_memory.specs.Helds.{with_calls}
use Rattle.cache_memory.specs.Stored.{sets_meta}

-- calls that don't change the metadata leave it
pub meta_older : (xs ys : List FileCall) → find sets_meta xs ≡ None → meta_in (xs ++ ys) ≡ meta_in ys
meta_older [] ys e = refl
meta_older (Quiet ∷ xs) ys e = meta_older xs ys e
meta_older (Saved text ∷ xs) ys e = absurd (cc)
meta_older (Wrote pos bytes ∷ xs) ys e = meta_older xs ys e
meta_older (Cleared keep ∷ xs) ys e = absurd (cc)

-- the last call that changes the metadata says what it is
pub meta_last : (xs ys : List FileCall) (call : FileCall) → find sets_meta xs ≡ Some call → meta_in (xs ++ ys) ≡ meta_after call None
meta_last [] ys call e = absurd (cc)
meta_last (Quiet ∷ xs) ys call e = meta_last xs ys call e
meta_last (Saved text ∷ xs) ys call e = ap (λ c. meta_after c None) (let same : Saved text ≡ call = cc in same)
meta_last (Wrote pos bytes ∷ xs) ys call e = meta_last xs ys call e
meta_last (Cleared keep ∷ xs) ys call e = ap (λ c. meta_after c None) (let same : Cleared keep ≡ call = cc in same)

pub meta_only : (xs : List FileCall) (call : FileCall) → find sets_meta xs ≡ Some call → meta_in xs ≡ meta_after call None
meta_only xs call e = ap meta_in (sym (append-nil xs)) ∙ meta_last xs [] call e

pub meta_none : (xs : List FileCall) → find sets_meta xs ≡ None → meta_in xs ≡ None
meta_none xs e = ap meta_in (sym (append-nil xs)) ∙ meta_older xs [] e

-- the first of the calls, the newest first
pub first_calls : (calls : List FileCall) (count n : ℕ) → n ≡ min count (length calls) → reverse (take n calls) ≡ drop (length (reverse calls) - count) (reverse calls)
first_calls calls count n e =
    let rest : List FileCall = reverse (drop n calls) in
    let parts : reverse calls ≡ rest ++ reverse (take n calls) = ap reverse (sym (take-append-drop n calls)) ∙ reverse-append (take n calls) (drop n calls) in
    let many : length (reverse calls) - count ≡ length rest = omega (arith, e, length-reverse calls, length-reverse (drop n calls), length-drop n calls) in
    sym (ap (λ k. drop k (reverse calls)) many ∙ ap (drop (length rest)) parts ∙ drop-append_seam rest (reverse (take n calls)))

-- what the first of the calls left, made anew
pub made_anew : (before since before' since' : List FileCall) (count n len : ℕ) (new first second last : Told) → before' ≡ before → since' ≡ since → len ≡ length since → n ≡ min count len
    → new ≡ handed_out [] → first ≡ with_calls before' new → second ≡ with_calls (take n since') first → last ≡ handed_out (image second)
    → last ≡ handed_out (image_after (record { first = reverse before; since = reverse since }) count)
made_anew before since before' since' count n len new first second last eb es el e en ef et l =
    l ∙ ap (λ t. handed_out (image t)) (et ∙ ap (with_calls (take n since')) (ef ∙ ap (with_calls before') en))
    ∙ ap handed_out (same (reverse (take n since')) (reverse before') ∙ ap (λ b. reverse (take n since') ++ reverse b) eb ∙ ap (λ a. a ++ reverse before) (ap (λ a. reverse (take n a)) es ∙ first_calls since count n (e ∙ ap (min count) el))) where
      same : (a b : List FileCall) → (a ++ (b ++ [])) ++ [] ≡ a ++ b
      same a b = append-nil (a ++ (b ++ [])) ∙ ap (λ l. a ++ l) (append-nil b)
