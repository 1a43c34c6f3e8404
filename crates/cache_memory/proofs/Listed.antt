-- Which slots are listed, and in which order.
use Rattle.std.proofs.Common.{◌≡◌, ◌∙◌, ◌↔◌, ap, sym, refl, subst, arith, ℕ, Bool, true, false, Option, Some, None, List, [], ◌∷◌, cond}
use Rattle.std.specs.Prelude.{is_some, IsSome, Contains, filter}
use Rattle.std.specs.BTreeMap.{BTreeMap, IsOrdered}
use Rattle.std.specs.Cmp.{IsEquivalence}
use Rattle.std.specs.List.{AllByRecursion, list_any}
use Rattle.std.specs.List.Sorted.{IsStrictlyIncreasing, IsStrictlySortedBy}
use Rattle.std.specs.Map.{keys_of, lookup}
use Rattle.std.specs.Ordering.{eq_by_cmp, nat_cmp}
use Rattle.std.specs.declared.cmp.Ordering.TheVariants.{Less}
use Rattle.std.proofs.lemmas.Cmp.{eq_by_cmp_equiv, nat_cmp_total}
use Rattle.std.proofs.lemmas.Map.Entries.{lookup-filter-values, option_filter}
use Rattle.std.proofs.lemmas.Map.Keys.{IsDistinct-from_sorted, IsStrictlyIncreasing-from_sorted}
use Rattle.std.proofs.lemmas.Map.Made.{is_some-lookup}
use Rattle.std.proofs.lemmas.Map.Views.{Contains-from_any, list_any-from_Contains}
use Rattle.vfs_outside.specs.Image.{meta_in}
use Rattle.vfs_outside.specs.Slot.{image}
use Rattle.cache_memory.specs.Helds.{told_of}
use Rattle.cache_memory.specs.Slots.{has_meta, kept_at, kept_in, slots_with_meta}
use Rattle.cache_memory.specs.declared.slot.MemorySlot.{MemorySlot}

same_number : (x y : ℕ) → eq_by_cmp nat_cmp x y ≡ true → x ≡ y
same_number x y h = grind arith

laws : IsEquivalence (eq_by_cmp nat_cmp)
laws = eq_by_cmp_equiv nat_cmp_total

shows_meta : MemorySlot → Bool
shows_meta slot = is_some (meta_in (image (told_of slot.held)))

found : (o : Option MemorySlot) → is_some (option_filter shows_meta o) ≡ is_some (meta_in (image (kept_in o).shelf.now))
unfolding shows_meta
found None = refl
found (Some slot) = by (is_some (meta_in (image (told_of slot.held)))) where
  by : (b : Bool) → is_some (cond b (Some slot) None) ≡ b
  by true = refl
  by false = refl

listed_is : (m : BTreeMap ℕ MemorySlot) → IsOrdered nat_cmp m → (s : ℕ) → list_any (eq_by_cmp nat_cmp s) (slots_with_meta m.entries) ≡ is_some (meta_in (image (kept_at m s).shelf.now))
unfolding shows_meta
listed_is m o s = sym (is_some-lookup (eq_by_cmp nat_cmp s) (filter has_meta m.entries))
    ∙ ap is_some (lookup-filter-values laws shows_meta s m.entries (IsDistinct-from_sorted nat_cmp (keys_of m.entries) o))
    ∙ found (lookup (eq_by_cmp nat_cmp s) m.entries)

-- just the slots that have metadata are listed
pub listed_all : (m : BTreeMap ℕ MemorySlot) (xs : List ℕ) → IsOrdered nat_cmp m → xs ≡ slots_with_meta m.entries → (s : ℕ) → Contains xs s ↔ IsSome (meta_in (image (kept_at m s).shelf.now))
listed_all m xs o e s = (
  λ has. sym (listed_is m o s) ∙ list_any-from_Contains laws s (slots_with_meta m.entries) (subst (λ (l : List ℕ). Contains l s) e has),
  λ is. subst (λ (l : List ℕ). Contains l s) (sym e) (Contains-from_any same_number s (slots_with_meta m.entries) (listed_is m o s ∙ is)),
)

-- the keys of some of the entries are in order too
above_kept : (k : ℕ) (p : ℕ × MemorySlot → Bool) (es : List (ℕ × MemorySlot)) → AllByRecursion (λ y. nat_cmp k y ≡ Less) (keys_of es) → AllByRecursion (λ y. nat_cmp k y ≡ Less) (keys_of (filter p es))
above_kept k p [] h = h
above_kept k p (e ∷ es) h = by (p e) (above_kept k p es h.1) where
  by : (b : Bool) → AllByRecursion (λ y. nat_cmp k y ≡ Less) (keys_of (filter p es)) → AllByRecursion (λ y. nat_cmp k y ≡ Less) (keys_of (cond b (e ∷ filter p es) (filter p es)))
  by true rest = (h.0, rest)
  by false rest = rest

sorted_kept : (p : ℕ × MemorySlot → Bool) (es : List (ℕ × MemorySlot)) → IsStrictlySortedBy nat_cmp (keys_of es) → IsStrictlySortedBy nat_cmp (keys_of (filter p es))
unfolding IsStrictlySortedBy
sorted_kept p [] h = h
sorted_kept p (e ∷ es) h = by (p e) (sorted_kept p es h.1) where
  by : (b : Bool) → IsStrictlySortedBy nat_cmp (keys_of (filter p es)) → IsStrictlySortedBy nat_cmp (keys_of (cond b (e ∷ filter p es) (filter p es)))
  by true rest = (above_kept e.0 p es h.0, rest)
  by false rest = rest

pub listed_rise : (m : BTreeMap ℕ MemorySlot) (xs : List ℕ) → IsOrdered nat_cmp m → xs ≡ slots_with_meta m.entries → IsStrictlyIncreasing xs
listed_rise m xs o e = subst IsStrictlyIncreasing (sym e) (IsStrictlyIncreasing-from_sorted (slots_with_meta m.entries) (sorted_kept has_meta m.entries o))
