-- Where positions lie in blocks of 4,096 bytes, and what a write and a cut leave of blocks.
use Rattle.std.proofs.Common.{◌≡◌, ◌≢◌, ◌⊎◌, inl, inr, ℕ, ◌+◌, ◌-◌, ◌/◌, ◌%◌, ◌<◌, ◌≤◌, ◌∙◌, ◌&&◌, cond, nat_le, nat_lt, ap, sym, refl, subst, false, Option, Some, None, Vec, Global, nat_cmp, List, [], length, take, drop, slice_index, min, arith}
use Rattle.std.proofs.lemmas.Bool.{cases_lt, cases_eq}
use Rattle.std.proofs.lemmas.Grind.{common_steps}
use Rattle.std.proofs.lemmas.List.{get_or-take, get_or_past, length-take, length-drop, take_all, places, with_items_is}
use Rattle.std.specs.Vec.{with_items}
use borrow.Rule.Slice.PartMut.{put_mid}
use Rattle.std.specs.Option.{IsSome}
use Rattle.std.specs.BTreeMap.{BTreeMap, get, get_by, is_at, UpdatesBy, WritesThrough}
use Rattle.vfs_names.specs.Payload.{payload_byte}
use Rattle.vfs_names.specs.declared.payload.Payload.{Payload}
use Rattle.sparse_bytes.specs.declared.sparse.SparseBytes.{SparseBytes}
use Rattle.sparse_bytes.specs.Bytes.{bytes_in, block_of, byte_of, cut_at}
use Rattle.sparse_bytes.specs.Blocks.{written_between, HoldsPayload}

-- positions in one block
pub quotient_within : (at i : ℕ) → at % 4096 + i < 4096 → (at + i) / 4096 ≡ at / 4096
quotient_within at i lt = omega arith

pub rest_within : (at i : ℕ) → at % 4096 + i < 4096 → (at + i) % 4096 ≡ at % 4096 + i
rest_within at i lt = omega arith

-- room at the last position of a part is room for the part
pub room_for_part : (size : ℕ → ℕ) (at n : ℕ) → 0 < n → at % 4096 + n ≤ 4096 → (at + (n - 1)) % 4096 < size ((at + (n - 1)) / 4096) → at % 4096 + n ≤ size (at / 4096)
room_for_part size at n some fits room =
    let q : size ((at + (n - 1)) / 4096) ≡ size (at / 4096) = ap size (quotient_within at (n - 1) (omega arith)) in
    let r : (at + (n - 1)) % 4096 ≡ at % 4096 + (n - 1) = rest_within at (n - 1) (omega arith) in
    omega arith

-- the byte at a position, from the block that holds it
pub held_byte : (s : SparseBytes) (held : List ℕ) (at i : ℕ) → held ≡ block_of s (at / 4096) → at % 4096 + i < 4096 → byte_of s (at + i) ≡ slice_index held (at % 4096 + i)
unfolding byte_of
held_byte s held at i e lt =
    ap (λ k. slice_index (block_of s k) ((at + i) % 4096)) (quotient_within at i lt) ∙ ap (λ k. slice_index (block_of s (at / 4096)) k) (rest_within at i lt)
    ∙ ap (λ (b : List ℕ). slice_index b (at % 4096 + i)) (sym e)

-- elements of a list of which a part was replaced
mid_below : (a k : ℕ) (xs ys : List ℕ) (i : ℕ) → a ≤ length xs → i < a → slice_index (put_mid a k xs ys) i ≡ slice_index xs i
mid_below a k xs ys i le lt = grind (arith, places)

mid_inside : (a k : ℕ) (xs ys : List ℕ) (i : ℕ) → a ≤ length xs → length ys ≡ k → a ≤ i → i < a + k → slice_index (put_mid a k xs ys) i ≡ slice_index ys (i - a)
mid_inside a k xs ys i le len from to = grind (arith, places)

mid_past : (a k : ℕ) (xs ys : List ℕ) (i : ℕ) → a ≤ length xs → length ys ≡ k → a + k ≤ i → slice_index (put_mid a k xs ys) i ≡ slice_index xs i
mid_past a k xs ys i le len past = grind (arith, places)

mid_len : (a k : ℕ) (xs ys : List ℕ) → a + k ≤ length xs → length ys ≡ k → length (put_mid a k xs ys) ≡ length xs
mid_len a k xs ys le len = grind (arith, places)

-- the choice that `written_between` makes
choice_inside : (low high p a b : ℕ) → low ≤ p → p < high → cond (nat_le low p && nat_lt p high) a b ≡ a
choice_inside low high p a b from to = grind (arith, common_steps)

choice_below : (low high p a b : ℕ) → p < low → cond (nat_le low p && nat_lt p high) a b ≡ b
choice_below low high p a b lt = grind (arith, common_steps)

choice_past : (low high p a b : ℕ) → high ≤ p → cond (nat_le low p && nat_lt p high) a b ≡ b
choice_past low high p a b le = grind (arith, common_steps)

-- the byte at a position, where blocks are lists
abbrev pub byte_in : (ℕ → List ℕ) → ℕ → ℕ
byte_in f p = slice_index (f (p / 4096)) (p % 4096)

-- what a write of n bytes into one block leaves
pub part_written : (f g : ℕ → List ℕ) (part : List ℕ) (payload : Payload) (at n from size : ℕ) → size ≡ n → at % 4096 + n ≤ 4096 → at % 4096 + n ≤ length (f (at / 4096)) → from ≤ at
    → length part ≡ n → ((i : ℕ) → i < n → slice_index part i ≡ payload_byte payload (from + i))
    → g (at / 4096) ≡ put_mid (at % 4096) size (f (at / 4096)) part → ((k : ℕ) → k ≢ at / 4096 → g k ≡ f k)
    → (p : ℕ) → byte_in g p ≡ written_between (byte_in f) (at - from) payload at (at + n) p
part_written f g part payload at n from size sz fits room start len bytes here others p = elim (cases_lt p at) [ inl lt ↦ below lt | inr le ↦ elim (cases_lt p (at + n)) [ inl lt ↦ inside le lt | inr past ↦ beyond past ] ] where
  kept : p / 4096 ≢ at / 4096 → byte_in g p ≡ byte_in f p
  kept ne = ap (λ (b : List ℕ). slice_index b (p % 4096)) (others (p / 4096) ne)

  here_is : p / 4096 ≡ at / 4096 → byte_in g p ≡ slice_index (put_mid (at % 4096) size (f (at / 4096)) part) (p % 4096)
  here_is e = ap (λ k. slice_index (g k) (p % 4096)) e ∙ ap (λ (b : List ℕ). slice_index b (p % 4096)) here

  old_is : p / 4096 ≡ at / 4096 → slice_index (f (at / 4096)) (p % 4096) ≡ byte_in f p
  old_is e = ap (λ k. slice_index (f k) (p % 4096)) (sym e)

  below : p < at → byte_in g p ≡ written_between (byte_in f) (at - from) payload at (at + n) p
  below lt = same (cases_eq (p / 4096) (at / 4096)) ∙ sym (choice_below at (at + n) p _ _ lt) where
    same : (p / 4096 ≡ at / 4096) ⊎ (p / 4096 ≡ at / 4096 → ⊥) → byte_in g p ≡ byte_in f p
    same (inl e) = here_is e ∙ mid_below (at % 4096) size (f (at / 4096)) part (p % 4096) (omega arith) (omega arith) ∙ old_is e
    same (inr ne) = kept ne

  beyond : at + n ≤ p → byte_in g p ≡ written_between (byte_in f) (at - from) payload at (at + n) p
  beyond past = same (cases_eq (p / 4096) (at / 4096)) ∙ sym (choice_past at (at + n) p _ _ past) where
    same : (p / 4096 ≡ at / 4096) ⊎ (p / 4096 ≡ at / 4096 → ⊥) → byte_in g p ≡ byte_in f p
    same (inl e) = here_is e ∙ mid_past (at % 4096) size (f (at / 4096)) part (p % 4096) (omega arith) (omega arith) (omega arith) ∙ old_is e
    same (inr ne) = kept ne

  inside : at ≤ p → p < at + n → byte_in g p ≡ written_between (byte_in f) (at - from) payload at (at + n) p
  inside le lt =
      let e : p / 4096 ≡ at / 4096 = omega arith in
      let i : p % 4096 - at % 4096 ≡ p - at = omega arith in
      let j : from + (p - at) ≡ p - (at - from) = omega arith in
      here_is e ∙ mid_inside (at % 4096) size (f (at / 4096)) part (p % 4096) (omega arith) (omega arith) (omega arith) (omega arith)
      ∙ ap (λ k. slice_index part k) i ∙ bytes (p - at) (omega arith) ∙ ap (payload_byte payload) j ∙ sym (choice_inside at (at + n) p _ _ le lt)

-- the choice that `cut_at` makes
cut_below : (n p a : ℕ) → p < n → cond (nat_le n p) 0 a ≡ a
cut_below n p a lt = grind (arith, common_steps)

cut_past : (n p a : ℕ) → n ≤ p → cond (nat_le n p) 0 a ≡ 0
cut_past n p a le = grind (arith, common_steps)

-- what is left of blocks that were cut: those from `keep` on are gone, and the one in which n lies is shortened
pub blocks_cut : (f d g : ℕ → List ℕ) (n keep : ℕ) → keep ≡ n / 4096 + min 1 (n % 4096) → ((k : ℕ) → k < keep → d k ≡ f k) → ((k : ℕ) → keep ≤ k → length (d k) ≡ 0)
    → g (n / 4096) ≡ take (n % 4096) (d (n / 4096)) → ((k : ℕ) → k ≢ n / 4096 → g k ≡ d k) → (p : ℕ) → byte_in g p ≡ cut_at (byte_in f) n p
blocks_cut f d g n keep k_is below gone here others p = elim (cases_lt p n) [ inl lt ↦ front lt (cases_eq (p / 4096) (n / 4096)) ∙ sym (cut_below n p _ lt) | inr le ↦ back le (cases_eq (p / 4096) (n / 4096)) ∙ sym (cut_past n p _ le) ] where
  here_is : p / 4096 ≡ n / 4096 → byte_in g p ≡ slice_index (take (n % 4096) (d (n / 4096))) (p % 4096)
  here_is e = ap (λ k. slice_index (g k) (p % 4096)) e ∙ ap (λ (b : List ℕ). slice_index b (p % 4096)) here

  kept : p / 4096 ≢ n / 4096 → byte_in g p ≡ slice_index (d (p / 4096)) (p % 4096)
  kept ne = ap (λ (b : List ℕ). slice_index b (p % 4096)) (others (p / 4096) ne)

  front : p < n → (p / 4096 ≡ n / 4096) ⊎ (p / 4096 ≡ n / 4096 → ⊥) → byte_in g p ≡ byte_in f p
  front lt (inl e) =
      here_is e ∙ get_or-take (n % 4096) (d (n / 4096)) (p % 4096) 0 (omega arith) ∙ ap (λ k. slice_index (d k) (p % 4096)) (sym e)
      ∙ ap (λ (b : List ℕ). slice_index b (p % 4096)) (below (p / 4096) (omega arith))
  front lt (inr ne) = kept ne ∙ ap (λ (b : List ℕ). slice_index b (p % 4096)) (below (p / 4096) (omega arith))

  back : n ≤ p → (p / 4096 ≡ n / 4096) ⊎ (p / 4096 ≡ n / 4096 → ⊥) → byte_in g p ≡ 0
  back le (inl e) = here_is e ∙ get_or_past (take (n % 4096) (d (n / 4096))) (p % 4096) 0 (omega (arith, length-take (n % 4096) (d (n / 4096))))
  back le (inr ne) = kept ne ∙ get_or_past (d (p / 4096)) (p % 4096) 0 (omega (arith, gone (p / 4096) (omega arith)))

-- what the map holds after a block that it has was changed
pub block_changed : (m n : BTreeMap ℕ (Vec ℕ Global)) (k : ℕ) (old new : Vec ℕ Global) → Some old ≡ get_by (nat_cmp k) m → WritesThrough nat_cmp (nat_cmp k) m new n
    → (bytes_in (get nat_cmp n k) ≡ new.items) × ((q : ℕ) → q ≢ k → bytes_in (get nat_cmp n q) ≡ bytes_in (get nat_cmp m q))
block_changed m n k old new e h =
    let found : IsSome (get_by (nat_cmp k) m) = subst (λ (o : Option (Vec ℕ Global)). IsSome o) e refl in
    let updates : UpdatesBy nat_cmp (nat_cmp k) m n (Some new) = h.3 found in
    (ap bytes_in updates.1, λ q ne. ap bytes_in (updates.2 q (apart q ne))) where
      apart : (q : ℕ) → q ≢ k → is_at (nat_cmp k) q ≡ false
      apart q ne = grind (arith, common_steps)

-- what a write of n bytes through one block leaves of all bytes: xs is what the block held, and part what the write left of its place
pub part_put : (s t : SparseBytes) (old : Vec ℕ Global) (xs part : List ℕ) (payload : Payload) (at n from size : ℕ) → size ≡ n → at % 4096 + n ≤ 4096
    → at % 4096 + n ≤ length (block_of s (at / 4096)) → from ≤ at → Some old ≡ get_by (nat_cmp (at / 4096)) s.blocks → xs ≡ old.items
    → length part ≡ length (take size (drop (at % 4096) xs)) → HoldsPayload part payload from
    → WritesThrough nat_cmp (nat_cmp (at / 4096)) s.blocks (with_items old (put_mid (at % 4096) size xs part)) t.blocks
    → (p : ℕ) → byte_of t p ≡ written_between (byte_of s) (at - from) payload at (at + n) p
unfolding byte_of
part_put s t old xs part payload at n from size sz fits room start found held len bytes through =
    let new : Vec ℕ Global = with_items old (put_mid (at % 4096) size xs part) in
    let changed = block_changed s.blocks t.blocks (at / 4096) old new found through in
    let was : block_of s (at / 4096) ≡ xs = ap bytes_in (sym found) ∙ sym held in
    let long : length (block_of s (at / 4096)) ≡ length xs = ap length was in
    let part_len : length (take size (drop (at % 4096) xs)) ≡ n = omega (arith, length-take size (drop (at % 4096) xs), length-drop (at % 4096) xs) in
    let lasts : length xs ≡ old.len = ap length held ∙ sym old.ok.0 in
    let left : new.items ≡ put_mid (at % 4096) size xs part = with_items_is old (put_mid (at % 4096) size xs part) (mid_len (at % 4096) size xs part (omega arith) (omega arith) ∙ lasts) in
    part_written (block_of s) (block_of t) part payload at n from size sz fits room start (len ∙ part_len) (λ i lt. bytes i (omega arith))
    (changed.0 ∙ left ∙ ap (λ (ys : List ℕ). put_mid (at % 4096) size ys part) (sym was)) changed.1

-- what is left of all bytes after the blocks from `keep` on were dropped, and the one in which n lies was shortened or is not there
pub bytes_cut : (s d t : SparseBytes) (n keep : ℕ) → keep ≡ n / 4096 + min 1 (n % 4096) → ((k : ℕ) → k < keep → block_of d k ≡ block_of s k) → ((k : ℕ) → keep ≤ k → length (block_of d k) ≡ 0)
    → (block_of t (n / 4096) ≡ take (n % 4096) (block_of d (n / 4096))) × ((k : ℕ) → k ≢ n / 4096 → block_of t k ≡ block_of d k) → (p : ℕ) → byte_of t p ≡ cut_at (byte_of s) n p
unfolding byte_of
bytes_cut s d t n keep k_is below gone changed p = blocks_cut (block_of s) (block_of d) (block_of t) n keep k_is below gone changed.0 changed.1 p

pub block_cut : (d t : SparseBytes) (k m : ℕ) (old new : Vec ℕ Global) → Some old ≡ get_by (nat_cmp k) d.blocks → WritesThrough nat_cmp (nat_cmp k) d.blocks new t.blocks → new.items ≡ take m old.items
    → (block_of t k ≡ take m (block_of d k)) × ((q : ℕ) → q ≢ k → block_of t q ≡ block_of d q)
block_cut d t k m old new found through cut =
    let changed = block_changed d.blocks t.blocks k old new found through in
    (changed.0 ∙ cut ∙ ap (λ (o : Option (Vec ℕ Global)). take m (bytes_in o)) found, changed.1)

pub no_block_cut : (d t : SparseBytes) (k m : ℕ) → None ≡ get_by (nat_cmp k) d.blocks → t.blocks ≡ d.blocks → (block_of t k ≡ take m (block_of d k)) × ((q : ℕ) → q ≢ k → block_of t q ≡ block_of d q)
no_block_cut d t k m none same =
    let at : (q : ℕ) → block_of t q ≡ block_of d q = λ q. ap (λ (b : BTreeMap ℕ (Vec ℕ Global)). bytes_in (get nat_cmp b q)) same in
    let empty : block_of d k ≡ [] = ap bytes_in (sym none) in
    (at k ∙ empty ∙ sym (take_all m [] (omega arith)) ∙ ap (λ (xs : List ℕ). take m xs) (sym empty), λ q _. at q)
