-- Files on a shelf, seen as their histories.
use Rattle.std.proofs.Common.{◌≡◌, ◌<◌, ◌≤◌, ◌↔◌, ℕ, zero, suc, ◌-◌, ◌++◌, ◌∙◌, ap, sym, refl, subst, arith, List, [], ◌∷◌, length, map, reverse, set, get_or, length-set, append-nil, Result, Ok, Err, OnOk, OnErr, IfErr, IfOk}
use Rattle.std.specs.List.{AllByRecursion}
use Rattle.std.proofs.lemmas.List.{length-map, map-append, reverse-append, reverse-reverse, get_or-set_same, get_or-set_other}
use Rattle.vfs_names.specs.declared.fingerprint.Fingerprint.{Fingerprint}
use Rattle.vfs_names.specs.declared.refusal.Refusal.{Refusal}
use Rattle.vfs_names.specs.declared.refusal.Refusal.TheVariants as why
use Rattle.item_core.specs.declared.entry.Entry.{Entry}
use Rattle.vfs_outside.specs.Slot.{Slot}
use Rattle.sparse_item.specs.Moves.{GoesOn}
use Rattle.item_core.specs.Log.{free, used}
use Rattle.sparse_item.specs.Item.{Item}
use Rattle.one_session.specs.Books.{TouchesOne}
use Rattle.one_session.specs.Calls.{free_in}
use Rattle.one_session.specs.State.{History, entries_in, history_in, names_in}
use Rattle.one_session.specs.Views.{add_to, blank, given_all, histories, item_in, stored}

pub get_map : {X Y : Type 0} (f : X → Y) (xs : List X) (i : ℕ) (d : X) (e : Y) → i < length xs → get_or (map f xs) i e ≡ f (get_or xs i d)
get_map f [] i d e lt = absurd (omega arith)
get_map f (x ∷ xs) zero d e lt = refl
get_map f (x ∷ xs) (suc i) d e lt = get_map f xs i d e (omega arith)

pub map_set : {X Y : Type 0} (f : X → Y) (xs : List X) (i : ℕ) (x : X) → map f (set xs i x) ≡ set (map f xs) i (f x)
map_set f [] i x = refl
map_set f (y ∷ xs) zero x = refl
map_set f (y ∷ xs) (suc i) x = ap (λ l. f y ∷ l) (map_set f xs i x)

pub set_same : {X : Type 0} (xs : List X) (i : ℕ) (x d : X) → i < length xs → x ≡ get_or xs i d → set xs i x ≡ xs
set_same [] i x d lt e = refl
set_same (y ∷ xs) zero x d lt e = ap (λ z. z ∷ xs) e
set_same (y ∷ xs) (suc i) x d lt e = ap (λ l. y ∷ l) (set_same xs i x d (omega arith) e)

-- what a file is seen as doesn't hang on the default
pub or_same : {X : Type 0} (xs : List X) (i : ℕ) (d e : X) → i < length xs → get_or xs i d ≡ get_or xs i e
or_same [] i d e lt = absurd (omega arith)
or_same (x ∷ xs) zero d e lt = refl
or_same (x ∷ xs) (suc i) d e lt = or_same xs i d e (omega arith)

pub item_is : (items : List Item) (i : ℕ) (x : Item) → i < length items → x ≡ get_or items i x → item_in items i ≡ x
item_is items i x lt e = or_same items i blank x lt ∙ sym e

pub history_is : (items : List Item) (i : ℕ) (x : Item) → i < length items → x ≡ get_or items i x → history_in (histories items) i ≡ stored x
history_is items i x lt e = get_map stored items i x (record { entries = []; names = [] }) lt ∙ ap stored (sym e)

pub past_is : (items : List Item) (i : ℕ) (x : Item) → i < length items → x ≡ get_or items i x → reverse (entries_in (histories items) i) ≡ x.log.past
past_is items i x lt e = ap (λ (h : History). reverse h.entries) (history_is items i x lt e) ∙ reverse-reverse x.log.past

pub item_past : (items : List Item) (i : ℕ) → i < length items → reverse (entries_in (histories items) i) ≡ (item_in items i).log.past
item_past items i lt = past_is items i (item_in items i) lt (or_same items i blank (item_in items i) lt)

-- a file with these entries more, and these paths beside them, is put in its place
pub put_grown : (items : List Item) (i : ℕ) (old new : Item) (more : List Entry) (names : List (List ℕ)) → i < length items → old ≡ get_or items i old → new.log.past ≡ reverse more ++ old.log.past → new.names ≡ reverse names ++ old.names
    → histories (set items i new) ≡ add_to (histories items) i more names
put_grown items i old new more names lt is past named =
    map_set stored items i new ∙ ap (λ h. set (histories items) i h)
    (ap (λ p. record { entries = reverse p; names = reverse new.names }) past ∙ ap (λ n. record { entries = reverse (reverse more ++ old.log.past); names = reverse n }) named
    ∙ ap (λ l. record { entries = l; names = reverse (reverse names ++ old.names) }) (turned more old.log.past)
    ∙ ap (λ l. record { entries = reverse old.log.past ++ more; names = l }) (turned names old.names)
    ∙ ap (λ (h : History). record { entries = h.entries ++ more; names = h.names ++ names }) (sym (history_is items i old lt is))) where
      turned : {X : Type 0} (xs ys : List X) → reverse (reverse xs ++ ys) ≡ reverse ys ++ xs
      turned xs ys = reverse-append (reverse xs) ys ∙ ap (λ l. reverse ys ++ l) (reverse-reverse xs)

-- a file with the same history is put in its place
pub put_same : (items : List Item) (i : ℕ) (old new : Item) → i < length items → old ≡ get_or items i old → new.log.past ≡ old.log.past → new.names ≡ old.names → histories (set items i new) ≡ histories items
put_same items i old new lt is past named =
    map_set stored items i new ∙ set_same (histories items) i (stored new) (record { entries = []; names = [] }) (omega (arith, length-map items stored, lt))
    (ap (λ p. record { entries = reverse p; names = reverse new.names }) past ∙ ap (λ n. record { entries = reverse old.log.past; names = reverse n }) named ∙ sym (history_is items i old lt is))

pub given_same : (items : List Item) (i : ℕ) (old new : Item) → i < length items → old ≡ get_or items i old → new.pairs ≡ old.pairs → given_all (set items i new) ≡ given_all items
given_same items i old new lt is same = map_set (λ (x : Item). x.pairs) items i new
    ∙ set_same (given_all items) i new.pairs old.pairs (omega (arith, length-map items (λ (x : Item). x.pairs), lt)) (same ∙ ap (λ (x : Item). x.pairs) is ∙ sym (get_map (λ (x : Item). x.pairs) items i old old.pairs lt))

pub given_put : (items : List Item) (i : ℕ) (new : Item) → given_all (set items i new) ≡ set (given_all items) i new.pairs
given_put items i new = map_set (λ (x : Item). x.pairs) items i new

-- a file that was put in its place is found there
pub found_put : (items : List Item) (i : ℕ) (new : Item) → i < length items → item_in (set items i new) i ≡ new
found_put items i new lt = get_or-set_same items i new blank lt

-- a new file is put at the end
pub added_new : (items : List Item) (new : Item) (more : List Entry) (names : List (List ℕ)) → new.log.past ≡ reverse more → new.names ≡ reverse names → histories (items ++ new ∷ []) ≡ histories items ++ record { entries = more; names = names } ∷ []
added_new items new more names past named = map-append stored items (new ∷ [])
    ∙ ap (λ h. histories items ++ h ∷ []) (ap (λ p. record { entries = reverse p; names = reverse new.names }) past ∙ ap (λ l. record { entries = l; names = reverse new.names }) (reverse-reverse more)
    ∙ ap (λ n. record { entries = more; names = reverse n }) named ∙ ap (λ l. record { entries = more; names = l }) (reverse-reverse names))

pub on_ok : {X E : Type 0} {P Q : Type 0} (r : Result X E) → (P → Q) → OnOk r P → OnOk r Q
on_ok (Ok x) f h = f h
on_ok (Err e) f h = h

pub on_err : {X E : Type 0} {P Q : Type 0} (r : Result X E) → (P → Q) → OnErr r P → OnErr r Q
on_err (Ok x) f h = h
on_err (Err e) f h = f h

pub if_err : {X E : Type 0} {P Q : E → Type 0} (r : Result X E) → ((e : E) → P e → Q e) → IfErr r P → IfErr r Q
if_err (Ok x) f h = h
if_err (Err e) f h = f e h

pub if_ok : {X E : Type 0} {P Q : X → Type 0} (r : Result X E) → ((x : X) → P x → Q x) → IfOk r P → IfOk r Q
if_ok (Ok x) f h = f x h
if_ok (Err e) f h = h

-- one of the files was touched
module _ (old new : List Item) (i : ℕ) (one : TouchesOne i old new) (lt : i < length old) where
  there : item_in old i ≡ get_or old i (item_in old i)
  there = or_same old i blank (item_in old i) lt

  pub touched_length : length new ≡ length old
  touched_length = ap length one ∙ length-set old i (item_in new i)

  pub touched_grown : (more : List Entry) (names : List (List ℕ)) → (item_in new i).log.past ≡ reverse more ++ (item_in old i).log.past → (item_in new i).names ≡ reverse names ++ (item_in old i).names → histories new ≡ add_to (histories old) i more names
  touched_grown more names past named = ap histories one ∙ put_grown old i (item_in old i) (item_in new i) more names lt there past named

  pub touched_same : (item_in new i).log.past ≡ (item_in old i).log.past → (item_in new i).names ≡ (item_in old i).names → histories new ≡ histories old
  touched_same past named = ap histories one ∙ put_same old i (item_in old i) (item_in new i) lt there past named

  pub touched_given : (more : List (Fingerprint × List ℕ)) → (item_in new i).pairs ≡ more ++ (item_in old i).pairs → given_all new ≡ set (given_all old) i (more ++ (item_in old i).pairs)
  touched_given more pairs = ap given_all one ∙ given_put old i (item_in new i) ∙ ap (set (given_all old) i) pairs

  pub touched_given_same : (item_in new i).pairs ≡ (item_in old i).pairs → given_all new ≡ given_all old
  touched_given_same pairs = ap given_all one ∙ given_same old i (item_in old i) (item_in new i) lt there pairs

  pub touched_other : (n : ℕ) → (n ≡ i → ⊥) → item_in new n ≡ item_in old n
  touched_other n ne = ap (λ l. item_in l n) one ∙ get_or-set_other old i n (item_in new i) blank ne

-- a file that was put in its place is the one that was touched
pub touched : (items : List Item) (i : ℕ) (new : Item) → i < length items → TouchesOne i items (set items i new)
touched items i new lt = ap (set items i) (sym (found_put items i new lt))

-- the places that are free of a file
pub item_free : (limit : ℕ) (items : List Item) (i : ℕ) → i < length items → AllByRecursion (λ (item : Item). item.log.limit ≡ limit) items → free_in limit (entries_in (histories items) i) ≡ free (item_in items i).log
item_free limit items i lt all = ap (λ l. limit - used l) (item_past items i lt) ∙ ap (λ n. n - used (item_in items i).log.past) (sym (each items i lt all)) where
  each : (items : List Item) (i : ℕ) → i < length items → AllByRecursion (λ (item : Item). item.log.limit ≡ limit) items → (item_in items i).log.limit ≡ limit
  each [] i lt all = absurd (omega (arith, lt))
  each (x ∷ items) zero lt all = all.0
  each (x ∷ items) (suc i) lt all = each items i (omega (arith, lt)) all.1

limit_is : (limit : ℕ) (items : List Item) (i : ℕ) (old : Item) → i < length items → old ≡ get_or items i old → AllByRecursion (λ (item : Item). item.log.limit ≡ limit) items → old.log.limit ≡ limit
limit_is limit [] i old lt is all = absurd (omega (arith, lt))
limit_is limit (x ∷ items) zero old lt is all = ap (λ (y : Item). y.log.limit) is ∙ all.0
limit_is limit (x ∷ items) (suc i) old lt is all = limit_is limit items i old (omega (arith, lt)) is all.1

limits_put : (limit : ℕ) (items : List Item) (i : ℕ) (old new : Item) → old ≡ get_or items i old → new.log.limit ≡ old.log.limit → AllByRecursion (λ (item : Item). item.log.limit ≡ limit) items
    → AllByRecursion (λ (item : Item). item.log.limit ≡ limit) (set items i new)
limits_put limit [] i old new is same all = tt
limits_put limit (x ∷ items) zero old new is same all = (same ∙ ap (λ (y : Item). y.log.limit) is ∙ all.0, all.1)
limits_put limit (x ∷ items) (suc i) old new is same all = (all.0, limits_put limit items i old new is same all.1)

pub limits_end : (limit : ℕ) (items : List Item) (new : Item) → new.log.limit ≡ limit → AllByRecursion (λ (item : Item). item.log.limit ≡ limit) items
    → AllByRecursion (λ (item : Item). item.log.limit ≡ limit) (items ++ new ∷ [])
limits_end limit [] new is all = (is, tt)
limits_end limit (x ∷ items) new is all = (all.0, limits_end limit items new is all.1)

-- the file that was indexed, and the files with another in its place
module _ (items shelf : List Item) (seen : items ≡ shelf) (i : ℕ) (old : Item) (inside : i < length shelf) (is : old ≡ get_or items i old) where
  in_items : i < length items
  in_items = omega (arith, ap length seen, inside)

  pub seen_item : item_in shelf i ≡ old
  seen_item = ap (λ l. item_in l i) (sym seen) ∙ item_is items i old in_items is

  pub seen_past : reverse (entries_in (histories shelf) i) ≡ old.log.past
  seen_past = ap (λ l. reverse (entries_in (histories l) i)) (sym seen) ∙ past_is items i old in_items is

  pub seen_found : (new : Item) → item_in (set items i new) i ≡ new
  seen_found new = found_put items i new in_items

  pub seen_one : (new : Item) → TouchesOne i shelf (set items i new)
  seen_one new = subst (λ l. TouchesOne i l (set items i new)) seen (touched items i new in_items)

  -- what is so of the file that was indexed and of the one that was put there is so of the file before and after
  pub seen_moved : (so : Item → Item → Type 0) (new : Item) → so old new → so (item_in shelf i) (item_in (set items i new) i)
  seen_moved so new h = subst (λ o. so o (item_in (set items i new) i)) (sym seen_item) (subst (λ n. so old n) (sym (seen_found new)) h)

  pub seen_same : (new : Item) → new.log.past ≡ old.log.past → new.names ≡ old.names → histories (set items i new) ≡ histories shelf
  seen_same new past named = put_same items i old new in_items is past named ∙ ap histories seen

  pub seen_given : (new : Item) → new.pairs ≡ old.pairs → given_all (set items i new) ≡ given_all shelf
  seen_given new same = given_same items i old new in_items is same ∙ ap given_all seen

  module _ (limit : ℕ) (all : AllByRecursion (λ (item : Item). item.log.limit ≡ limit) items) where
    pub seen_limits : (new : Item) → new.log.limit ≡ old.log.limit → AllByRecursion (λ (item : Item). item.log.limit ≡ limit) (set items i new)
    seen_limits new same = limits_put limit items i old new is same all

    pub seen_free : free_in limit (entries_in (histories shelf) i) ≡ free old.log
    seen_free = ap (λ l. limit - used l) seen_past ∙ ap (λ n. n - used old.log.past) (sym (limit_is limit items i old in_items is all))

-- a slot's file of which nothing was asked goes on
pub goes_on_same : (tells : Type 0) (old new : Slot) → new ≡ old → GoesOn tells old new
goes_on_same tells old new same = subst (λ s. GoesOn tells old s) (sym same) (record {
  calls = omega arith;
  faults = omega arith;
  told = λ t. ([], refl);
})

-- a call that isn't refused for places had them
pub not_full : (r : Result (Unit {0}) Refusal) (n room : ℕ) → ((r ≡ Err why.HistoryFull) ↔ (room < n)) → OnOk r (n ≤ room)
not_full (Ok x) n room full = enough n room (λ lt. never (Ok x) refl (full.1 lt)) where
  never : (r : Result (Unit {0}) Refusal) → r ≡ Ok x → r ≡ Err why.HistoryFull → ⊥
  never r a b = cc

  enough : (n room : ℕ) → (room < n → ⊥) → n ≤ room
  enough zero room h = omega arith
  enough (suc n) zero h = absurd (h (omega arith))
  enough (suc n) (suc room) h = omega (arith, enough n room (λ lt. h (omega (arith, lt))))
not_full (Err e) n room full = tt
