-- Runs of bytes: `bytes_from` joined, moved, and as a part of a block with zeros past its end.
use Rattle.std.proofs.Common.{◌≡◌, ℕ, zero, suc, ◌+◌, ◌-◌, ◌%◌, ◌<◌, ◌≤◌, ◌++◌, ◌∙◌, ap, sym, refl, ◌⊎◌, inl, inr, List, [], ◌∷◌, length, take, drop, slice_index, replicate, min, arith, zero-add, append_assoc, length-drop}
use Rattle.std.specs.List.{slice_range}
use Rattle.std.proofs.Math.Seq.{drop-cons}
use Rattle.std.proofs.lemmas.Bool.{cases_lt}
use Rattle.std.proofs.lemmas.List.{take_all, drop_all, get_or_past, length-take, take_min}
use Rattle.sparse_bytes.specs.Bytes.{bytes_from}

-- two runs in a row are one
pub bytes_from-append : (f : ℕ → ℕ) (pos a b : ℕ) → bytes_from f pos (a + b) ≡ bytes_from f pos a ++ bytes_from f (pos + a) b
bytes_from-append f pos zero b = ap (bytes_from f pos) (zero-add b) ∙ ap (λ q. bytes_from f q b) (omega arith)
bytes_from-append f pos (suc a) b = ap (bytes_from f pos) (let e : suc a + b ≡ suc (a + b) = omega arith in e)
    ∙ ap (λ xs. f pos ∷ xs) (bytes_from-append f (suc pos) a b)
    ∙ ap (λ q. f pos ∷ (bytes_from f (suc pos) a ++ bytes_from f q b)) (omega arith)

-- two runs with the same bytes are equal, wherever they begin
pub bytes_from_moved : (f g : ℕ → ℕ) (x y n : ℕ) → ((i : ℕ) → i < n → f (x + i) ≡ g (y + i)) → bytes_from f x n ≡ bytes_from g y n
bytes_from_moved f g x y zero same = refl
bytes_from_moved f g x y (suc n) same =
    let head : f x ≡ g y = ap f (let e : x ≡ x + 0 = omega arith in e) ∙ same 0 (omega arith) ∙ ap g (let e : y + 0 ≡ y = omega arith in e) in
    let rest : bytes_from f (suc x) n ≡ bytes_from g (suc y) n = bytes_from_moved f g (suc x) (suc y) n (λ i lt.
    ap f (let e : suc x + i ≡ x + suc i = omega arith in e) ∙ same (suc i) (omega arith) ∙ ap g (let e : y + suc i ≡ suc y + i = omega arith in e)) in
    ap (λ b. b ∷ bytes_from f (suc x) n) head ∙ ap (λ xs. g y ∷ xs) rest

-- a run of a block's bytes is the part of the block, and zeros past its end
pub bytes_from_part : (block : List ℕ) (start n : ℕ) → bytes_from (slice_index block) start n ≡ take n (drop start block) ++ replicate (n - length (take n (drop start block))) 0
bytes_from_part block start zero = refl
bytes_from_part block start (suc n) = elim (cases_lt start (length block)) [ inl lt ↦ within lt (bytes_from_part block (suc start) n) | inr past ↦ beyond past (bytes_from_part block (suc start) n) ] where
  within : start < length block → bytes_from (slice_index block) (suc start) n ≡ take n (drop (suc start) block) ++ replicate (n - length (take n (drop (suc start) block))) 0
      → bytes_from (slice_index block) start (suc n) ≡ take (suc n) (drop start block) ++ replicate (suc n - length (take (suc n) (drop start block))) 0
  within lt more =
      let front : List ℕ = take n (drop (suc start) block) in
      let fewer : n - length front ≡ suc n - suc (length front) = omega arith in
      ap (λ xs. slice_index block start ∷ xs) more ∙ ap (λ k. slice_index block start ∷ (front ++ replicate k 0)) fewer
      ∙ sym (ap (λ (xs : List ℕ). take (suc n) xs ++ replicate (suc n - length (take (suc n) xs)) 0) (drop-cons block start 0 lt))

  nothing : (m : ℕ) → ◌≡◌ {A = List ℕ} (take m [] ++ replicate (m - length {A = ℕ} (take m [])) 0) (replicate m 0)
  nothing zero = refl
  nothing (suc m) = let same : suc m - 0 ≡ suc m = omega arith in ap (λ k. replicate k 0) same

  beyond : length block ≤ start → bytes_from (slice_index block) (suc start) n ≡ take n (drop (suc start) block) ++ replicate (n - length (take n (drop (suc start) block))) 0
      → bytes_from (slice_index block) start (suc n) ≡ take (suc n) (drop start block) ++ replicate (suc n - length (take (suc n) (drop start block))) 0
  beyond past more =
      let none : drop start block ≡ [] = drop_all start block past in
      let none' : drop (suc start) block ≡ [] = drop_all (suc start) block (omega arith) in
      let rest : bytes_from (slice_index block) (suc start) n ≡ replicate n 0 = more ∙ ap (λ (xs : List ℕ). take n xs ++ replicate (n - length (take n xs)) 0) none' ∙ nothing n in
      ap (λ b. b ∷ bytes_from (slice_index block) (suc start) n) (get_or_past block start 0 past) ∙ ap (λ xs. 0 ∷ xs) rest
      ∙ ap (λ k. replicate k 0) (let same : suc n ≡ suc n - 0 = omega arith in same)
      ∙ sym (ap (λ (xs : List ℕ). take (suc n) xs ++ replicate (suc n - length (take (suc n) xs)) 0) none)

-- the part of a block that lies between two ends which are cut to its length
pub part_between : (block : List ℕ) (start n low high : ℕ) → low ≡ min start (length block) → high ≡ min (start + n) (length block) → slice_range block low high ≡ take n (drop start block)
part_between block start n low high l h = ap (λ xs. take (high - low) xs) (from (cases_lt start (length block))) ∙ ap (λ k. take k (drop start block)) size ∙ take_min n (drop start block) where
  from : (start < length block) ⊎ (length block ≤ start) → drop low block ≡ drop start block
  from (inl lt) = ap (λ k. drop k block) (omega arith)
  from (inr past) = drop_all low block (omega arith) ∙ sym (drop_all start block past)

  size : high - low ≡ min n (length (drop start block))
  size = omega (arith, length-drop start block)

-- what a buffer holds after the part of a block and zeros were put at its end
pub appended : (out block more all : List ℕ) (start n low high end len : ℕ) → low ≡ min start (length block) → high ≡ min (start + n) (length block)
    → more ≡ out ++ slice_range block low high → len ≡ length more → end ≡ len + (n - (high - low)) → all ≡ take end more ++ replicate (end - len) 0
    → all ≡ out ++ bytes_from (slice_index block) start n
appended out block more all start n low high end len l h m le e a =
    let part : List ℕ = take n (drop start block) in
    let is_part : slice_range block low high ≡ part = part_between block start n low high l h in
    let size : end - len ≡ n - length part = omega (arith, length-take n (drop start block), length-drop start block) in
    let kept : take end more ≡ more = take_all end more (omega arith) in
    a ∙ ap (λ xs. xs ++ replicate (end - len) 0) (kept ∙ m ∙ ap (λ xs. out ++ xs) is_part) ∙ ap (λ k. (out ++ part) ++ replicate k 0) size
    ∙ append_assoc out part (replicate (n - length part) 0) ∙ ap (λ xs. out ++ xs) (sym (bytes_from_part block start n))

-- a run that was read up to a position, and more of one block
pub read_more : (f : ℕ → ℕ) (old new held : List ℕ) (pos at n : ℕ) → pos ≤ at → ((i : ℕ) → i < n → f (at + i) ≡ slice_index held (at % 4096 + i))
    → old ≡ bytes_from f pos (at - pos) → new ≡ old ++ bytes_from (slice_index held) (at % 4096) n → new ≡ bytes_from f pos (at + n - pos)
read_more f old new held pos at n le same o e =
    let from : pos + (at - pos) ≡ at = omega arith in
    let more : bytes_from (slice_index held) (at % 4096) n ≡ bytes_from f (pos + (at - pos)) n = sym (ap (λ q. bytes_from f q n) from ∙ bytes_from_moved f (slice_index held) at (at % 4096) n same) in
    let end : at - pos + n ≡ at + n - pos = omega arith in
    e ∙ ap (λ xs. xs ++ bytes_from (slice_index held) (at % 4096) n) o ∙ ap (λ xs. bytes_from f pos (at - pos) ++ xs) more ∙ sym (bytes_from-append f pos (at - pos) n) ∙ ap (bytes_from f pos) end
