-- What an open leaves of the parts that are kept, once its file was begun.
use Rattle.std.proofs.Common.{◌≡◌, ◌<◌, ◌≤◌, ℕ, ◌+◌, ◌-◌, ◌++◌, ◌∙◌, ap, sym, refl, subst, arith, false, true, None, Option, Some, List, [], ◌∷◌, length, map, reverse, set, append-nil, length-append}
use Rattle.std.proofs.Math.Nat.{zero-add}
use Rattle.std.proofs.lemmas.List.{length-map}
use Rattle.vfs_names.specs.declared.calls.Access.{Access}
use Rattle.vfs_names.specs.declared.fingerprint.Fingerprint.{Fingerprint}
use Rattle.vfs_names.specs.declared.who.Actor.TheVariants.{Session}
use Rattle.vfs_names.specs.declared.who.By.{By}
use Rattle.item_core.specs.History.{held_by}
use Rattle.item_core.specs.declared.entry.Entry.{Entry}
use Rattle.item_core.specs.declared.entry.FileKind.{FileKind}
use Rattle.item_core.specs.declared.entry.FileKind.TheVariants as file
use Rattle.item_image.specs.Premise.{Pairs}
use Rattle.sparse_item.specs.Item.{Item}
use Rattle.one_session.specs.Books.{IsBegun, IsSameFile, TouchesOne}
use Rattle.one_session.specs.Calls.{WasHeld, in_tree}
use Rattle.one_session.specs.Causes.{ends_gone, is_gone}
use Rattle.one_session.specs.Slots.{IsSoundItem}
use Rattle.one_session.specs.Sound.{IsSound}
use Rattle.one_session.specs.Standing.{IsSoundStore}
use Rattle.one_session.specs.Start.{MayStart, front_of, is_create, named_by, opened_kind, opening}
use Rattle.one_session.specs.State.{History, entries_in, file_at, item_in}
use Rattle.one_session.specs.Tree.{item_of}
use Rattle.one_session.specs.Views.{add_to, given_all, histories, stored}
use Rattle.one_session.specs.Whole.{IsUpTo}
use Rattle.one_session.specs.declared.start.Start.{Start}
use Rattle.one_session.specs.declared.store.Store.{Store}
use Rattle.one_session.proofs.Begun.{named_turned, opened_item}
use Rattle.one_session.proofs.Held.{opening_length, was_held}
use Rattle.one_session.proofs.Items.{items_end, items_on}
use Rattle.one_session.proofs.Keeping.{Goes, goes_new, goes_on, none_past, up_to}
use Rattle.one_session.proofs.Meeting.{opened_not_gone, settled_more}
use Rattle.one_session.proofs.Shelves.{added_new, item_past, touched_grown}
use Rattle.one_session.proofs.Starts.{sound_again, sound_new}

module _ {O F S : Type 0} (print_of : O → Fingerprint) (tells : Type 0) (old new : Store O F S) (handle item made : ℕ) (by : By) (own : List ℕ) (access : Access) (start : Start O S) (print : Option Fingerprint)
    (s : IsSoundStore tells old) (small : handle < length old.table.items) (closed : file_at old.table.items handle ≡ None)
    (actor : by.who.actor ≡ Session 1) (pass : by.pass ≡ 0) (up : IsUpTo by (histories old.files.items))
    (tree : new.tree.entries ≡ old.tree.entries ++ in_tree by (opened_kind (is_create start) own item print) ∷ []) (tree_limit : new.tree.limit ≡ old.tree.limit) (limit : new.files.limit ≡ old.files.limit)
    (table : new.table.items ≡ set old.table.items handle (Some (record { item = item; access = access }))) where
  abbrev more : List Entry
  more = opening by access made (front_of print_of start)

  settled : (path : List ℕ) → ends_gone (reverse new.tree.entries) path ≡ false
  settled path = settled_more old.tree.entries new.tree.entries (in_tree by (opened_kind (is_create start) own item print)) path tree (opened_not_gone (is_create start) own item print path)

  own_limit : new.tree.limit ≡ new.files.limit
  own_limit = tree_limit ∙ s.limit ∙ sym limit

  sound_before : (n : ℕ) → n < length old.files.items → IsSoundItem tells new.files.limit n (item_in old.files.items n)
  sound_before n lt = subst (λ l. IsSoundItem tells l n (item_in old.files.items n)) (sym limit) (s.items n lt)

  -- the file that the path has
  module _ (inside : item < length old.files.items) (at : item_of old.tree.entries own ≡ Some item) (may : MayStart print_of start (item_in old.files.items item).log.past)
      (paths : new.paths.paths ≡ old.paths.paths) (one : TouchesOne item old.files.items new.files.items) (same : IsSameFile tells (item_in old.files.items item) (item_in new.files.items item))
      (past : (item_in new.files.items item).log.past ≡ reverse more ++ (item_in old.files.items item).log.past) (names : (item_in new.files.items item).names ≡ named_by own start ++ (item_in old.files.items item).names) where
    lt : item < length (histories old.files.items)
    lt = omega (arith, length-map old.files.items stored, inside)

    pub again_files : histories new.files.items ≡ add_to (histories old.files.items) item more (named_by own start)
    again_files = touched_grown old.files.items new.files.items item one inside more (named_by own start) past (names ∙ ap (λ l. l ++ (item_in old.files.items item).names) (named_turned own start))

    again_goes : Goes (histories old.files.items) (histories new.files.items) item more
    again_goes = subst (λ l. Goes (histories old.files.items) l item more) (sym again_files) (goes_on (histories old.files.items) item more (named_by own start) lt)

    pub again_sound : IsSoundStore tells new
    again_sound = record {
      sound = rw (tree, paths, again_files, table) (sound_again print_of old.tree.entries old.paths.paths (histories old.files.items) old.table.items handle by own access made (is_create start) print start s.sound small closed actor pass up
          item lt at (subst (MayStart print_of start) (sym (item_past old.files.items item inside)) may));
      limit = own_limit;
      items = items_on tells new.files.limit old.files.items new.files.items item one inside
          (opened_item print_of tells new.files.limit item made by access start (item_in old.files.items item) (item_in new.files.items item) (sound_before item inside) same past) sound_before;
      settled = settled;
    }

    pub again_later : IsUpTo by (histories new.files.items)
    again_later = up_to (histories old.files.items) (histories new.files.items) item by true made (front_of print_of start ++ file.Opened access ∷ []) again_goes up

    pub again_held : print ≡ held_by (reverse (entries_in (histories new.files.items) item)) → WasHeld (histories new.files.items) item (length (entries_in (histories old.files.items) item) + length (front_of print_of start)) print
    again_held held = was_held (histories new.files.items) item (entries_in (histories old.files.items) item) by access made (front_of print_of start) (length (entries_in (histories old.files.items) item) + length (front_of print_of start)) print again_goes.own refl held

    pub again_end : length (entries_in (histories new.files.items) item) - 1 ≡ length (entries_in (histories old.files.items) item) + length (front_of print_of start)
    again_end = one_less (length (entries_in (histories new.files.items) item)) (length (entries_in (histories old.files.items) item)) (length (front_of print_of start))
        (ap length again_goes.own ∙ length-append (entries_in (histories old.files.items) item) more ∙ ap (λ n. length (entries_in (histories old.files.items) item) + n) (opening_length by access made (front_of print_of start))) where
          one_less : (n a b : ℕ) → n ≡ a + (b + 1) → n - 1 ≡ a + b
          one_less n a b e = omega (arith, e)

  -- a file that was made for the path
  module _ (x : Item) (last : item ≡ length old.files.items) (absent : item_of old.tree.entries own ≡ None) (may : MayStart print_of start [])
      (paths : new.paths.paths ≡ old.paths.paths ++ own ∷ []) (items : new.files.items ≡ old.files.items ++ x ∷ []) (past : x.log.past ≡ reverse more) (names : x.names ≡ named_by own start) (sound_end : IsSoundItem tells old.files.limit item x) where
    end : item ≡ length (histories old.files.items)
    end = last ∙ sym (length-map old.files.items stored)

    new_files : histories new.files.items ≡ histories old.files.items ++ record { entries = more; names = named_by own start } ∷ []
    new_files = ap histories items ∙ added_new old.files.items x more (named_by own start) past (names ∙ named_turned own start)

    new_goes : Goes (histories old.files.items) (histories new.files.items) item more
    new_goes = subst (λ n. Goes (histories old.files.items) (histories new.files.items) n more) (sym end)
        (subst (λ l. Goes (histories old.files.items) l (length (histories old.files.items)) more) (sym new_files) (goes_new (histories old.files.items) more (named_by own start)))

    new_past : entries_in (histories new.files.items) item ≡ more
    new_past = new_goes.own ∙ ap (λ l. l ++ more) (none_past (histories old.files.items) item (omega (arith, end)))

    new_parts : IsSound (old.tree.entries ++ in_tree by (opened_kind (is_create start) own item print) ∷ []) (old.paths.paths ++ own ∷ []) (histories old.files.items ++ record { entries = more; names = named_by own start } ∷ [])
        (set old.table.items handle (Some (record { item = item; access = access })))
    new_parts = subst (λ n. IsSound (old.tree.entries ++ in_tree by (opened_kind (is_create start) own n print) ∷ []) (old.paths.paths ++ own ∷ []) (histories old.files.items ++ record { entries = more; names = named_by own start } ∷ [])
        (set old.table.items handle (Some (record { item = n; access = access })))) (sym end)
        (sound_new print_of old.tree.entries old.paths.paths (histories old.files.items) old.table.items handle by own access made (is_create start) print start s.sound small closed actor pass up absent may)

    new_items : (n : ℕ) → n < length new.files.items → IsSoundItem tells new.files.limit n (item_in new.files.items n)
    new_items = subst (λ l. (n : ℕ) → n < length l → IsSoundItem tells new.files.limit n (item_in l n)) (sym items)
        (items_end tells new.files.limit old.files.items x (subst (λ n. IsSoundItem tells new.files.limit n x) last (subst (λ l. IsSoundItem tells l item x) (sym limit) sound_end)) sound_before)

    pub new_sound : IsSoundStore tells new
    new_sound = record {
      sound = rw (tree, paths, new_files, table) new_parts;
      limit = own_limit;
      items = new_items;
      settled = settled;
    }

    pub new_later : IsUpTo by (histories new.files.items)
    new_later = up_to (histories old.files.items) (histories new.files.items) item by true made (front_of print_of start ++ file.Opened access ∷ []) new_goes up

    pub new_held : print ≡ held_by (reverse (entries_in (histories new.files.items) item)) → WasHeld (histories new.files.items) item (length (front_of print_of start)) print
    new_held held = was_held (histories new.files.items) item [] by access made (front_of print_of start) (length (front_of print_of start)) print new_past (sym (zero-add (length (front_of print_of start)))) held

    pub new_end : length (entries_in (histories new.files.items) item) - 1 ≡ length (front_of print_of start)
    new_end = one_less (length (entries_in (histories new.files.items) item)) (length (front_of print_of start)) (ap length new_past ∙ opening_length by access made (front_of print_of start)) where
      one_less : (n b : ℕ) → n ≡ b + 1 → n - 1 ≡ b
      one_less n b e = omega (arith, e)
