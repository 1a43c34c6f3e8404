-- What a disk has on which each slot was put as its cut leaves it.
use Rattle.std.proofs.Common.{◌≡◌, ◌==◌, ◌-◌, ◌++◌, ◌∙◌, ◌||◌, ap, sym, refl, ℕ, Bool, true, false, Option, Some, None, List, [], ◌∷◌, arith}
use Rattle.std.specs.Prelude.{if◌then◌else◌, is_some}
use Rattle.std.specs.List.{list_any}
use Rattle.std.specs.BTreeMap.{BTreeMap, get}
use Rattle.std.specs.Ordering.{eq_by_cmp, nat_cmp}
use Rattle.std.proofs.Math.Seq.{drop-nil}
use Rattle.vfs_outside.specs.Disk.{Shelf}
use Rattle.vfs_outside.specs.Slot.{Told, handed_out, image_after}
use Rattle.vfs_outside.specs.declared.file_call.FileCall.{FileCall}
use Rattle.cache_memory.specs.Disks.{cut_kept, cut_shelf, count_at, disk_of}
use Rattle.cache_memory.specs.Slots.{blank, kept_at, kept_in}
use Rattle.cache_memory.specs.declared.disk.MemoryDisk.{MemoryDisk}
use Rattle.cache_memory.specs.declared.slot.MemorySlot.{MemorySlot}

-- the order tells numbers apart as `==` does
cmp_is : (a b : ℕ) → eq_by_cmp nat_cmp a b ≡ (a == b)
cmp_is a b = grind arith

any_is : (s : ℕ) (ks : List ℕ) → list_any (eq_by_cmp nat_cmp s) ks ≡ list_any (λ x. s == x) ks
any_is s [] = refl
any_is s (k ∷ ks) = ap (λ b. b || list_any (eq_by_cmp nat_cmp s) ks) (cmp_is s k) ∙ ap (λ b. (s == k) || b) (any_is s ks)

-- what there was of a slot after k calls
cut_in : Option MemorySlot → ℕ → Shelf
cut_in o k = record { now = handed_out (image_after (kept_in o).shelf.now k); records = [] }

-- a slot on which nothing was done is the same after any number of calls
blank_cut : (k : ℕ) → blank ≡ cut_in None k
unfolding cut_in
blank_cut k = ap (λ (l : List FileCall). blank_with (handed_out (l ++ []))) (sym (drop-nil (0 - k))) where
  blank_with : Told → Shelf
  blank_with t = record { now = t; records = [] }

clash : true ≡ false → ⊥
clash t = cc

-- the slot's place is there, or nothing was done on it
pub cuts_all : (cuts : List (ℕ × ℕ)) (disk : MemoryDisk) (slots : BTreeMap ℕ MemorySlot) (keys : List ℕ) → ((q : ℕ) → is_some (get nat_cmp disk.slots q) ≡ list_any (eq_by_cmp nat_cmp q) keys)
    → ((s : ℕ) → kept_at slots s ≡ (if list_any (λ x. s == x) keys then cut_kept cuts (disk_of disk) s else kept_in None)) → (s : ℕ) → (kept_at slots s).shelf ≡ cut_shelf cuts (disk_of disk) s
unfolding cut_in
cuts_all cuts disk slots keys has kept s = ap (λ k. k.shelf) (kept s) ∙ by (get nat_cmp disk.slots s) refl (list_any (λ x. s == x) keys) (has s ∙ any_is s keys) where
  k : ℕ
  k = count_at cuts (disk_of disk) s

  by : (o : Option MemorySlot) → get nat_cmp disk.slots s ≡ o → (b : Bool) → is_some (get nat_cmp disk.slots s) ≡ b → (if b then cut_kept cuts (disk_of disk) s else kept_in None).shelf ≡ cut_shelf cuts (disk_of disk) s
  by o e true h = refl
  by None e false h = blank_cut k ∙ ap (λ o. cut_in o k) (sym e)
  by (Some x) e false h = absurd (let t : true ≡ false = sym (ap is_some e) ∙ h in clash t)
