-- What a call on a handle leaves of the parts that are kept, where it added one entry to the handle's file, or none.
use Rattle.std.proofs.Common.{◌≡◌, ◌<◌, ℕ, ◌-◌, ◌∙◌, ap, sym, subst, arith, true, false, Some, [], ◌∷◌, length}
use Rattle.std.proofs.lemmas.List.{length-map}
use Rattle.vfs_names.specs.declared.who.Actor.TheVariants.{Session}
use Rattle.vfs_names.specs.declared.who.By.{By}
use Rattle.item_core.specs.declared.entry.FileKind.{FileKind}
use Rattle.item_core.specs.Effects.{is_opened, is_closed, kept_after}
use Rattle.item_core.specs.Log.{used}
use Rattle.sparse_item.specs.Answers.{IsFull}
use Rattle.one_session.specs.Books.{HasSame, IsSameFile, TouchesOne}
use Rattle.one_session.specs.Calls.{free_in, in_file}
use Rattle.one_session.specs.Slots.{IsSoundItem}
use Rattle.one_session.specs.Sound.{IsSound, is_renaming}
use Rattle.one_session.specs.Standing.{IsSoundStore}
use Rattle.one_session.specs.State.{entries_in, file_at, item_in}
use Rattle.one_session.specs.Views.{add_to, given_all, histories, stored}
use Rattle.one_session.specs.Whole.{IsUpTo, names_file}
use Rattle.one_session.specs.declared.handle.Handle.{Handle}
use Rattle.one_session.specs.declared.store.Store.{Store}
use Rattle.one_session.proofs.Items.{items_on, sound_on}
use Rattle.item_core.specs.History.{is_kept, opens_by}
use Rattle.one_session.proofs.Keeping.{goes_on, is_ready, sound_grown, up_to}
use Rattle.one_session.proofs.Shelves.{item_past, touched_given_same, touched_grown, touched_length, touched_same}

-- an entry of this kind opens and closes nothing, names no file, saves nothing by an upload, and leaves its file kept
pub record IsCalm (kind : FileKind) : Type 0 where
  pub kept : kept_after kind true ≡ true
  pub no_open : is_opened kind ≡ false
  pub no_close : is_closed kind ≡ false
  pub no_name : names_file kind ≡ false
  pub no_move : is_renaming kind ≡ false

-- the number of a handle's file is below that of the files
pub handle_inside : {O S F : Type 0} (tells : Type 0) (store : Store O S F) (handle : ℕ) (k : Handle) → IsSoundStore tells store → file_at store.table.items handle ≡ Some k → k.item < length store.files.items
handle_inside tells store handle k s at = omega (arith, length-map store.files.items stored, s.sound.inside handle k at)

module _ {O S F : Type 0} (tells : Type 0) (old new : Store O S F) (handle : ℕ) (k : Handle) (by : By) (s : IsSoundStore tells old) (at : file_at old.table.items handle ≡ Some k) (up : IsUpTo by (histories old.files.items))
    (tree : new.tree ≡ old.tree) (paths : new.paths ≡ old.paths) (table : new.table ≡ old.table) (limit : new.files.limit ≡ old.files.limit)
    (one : TouchesOne k.item old.files.items new.files.items) (same : IsSameFile tells (item_in old.files.items k.item) (item_in new.files.items k.item)) (has : HasSame (item_in old.files.items k.item) (item_in new.files.items k.item)) where
  lt : k.item < length old.files.items
  lt = handle_inside tells old handle k s at

  pub same_count : length new.files.items ≡ length old.files.items
  same_count = touched_length old.files.items new.files.items k.item one lt

  pub same_given : given_all new.files.items ≡ given_all old.files.items
  same_given = touched_given_same old.files.items new.files.items k.item one lt has.pairs

  own_sound : (n : ℕ) → n < length old.files.items → IsSoundItem tells new.files.limit n (item_in old.files.items n)
  own_sound n lt = subst (λ l. IsSoundItem tells l n (item_in old.files.items n)) (sym limit) (s.items n lt)

  -- the parts with these files
  with_files : IsSound old.tree.entries old.paths.paths (histories new.files.items) old.table.items → ((n : ℕ) → n < length new.files.items → IsSoundItem tells new.files.limit n (item_in new.files.items n)) → IsSoundStore tells new
  with_files sound items = record {
    sound = rw (tree, paths, table) sound;
    limit = rw tree (s.limit ∙ sym limit);
    items = items;
    settled = λ path. rw tree (s.settled path);
  }

  -- nothing was added
  module _ (none : (item_in new.files.items k.item).log.past ≡ (item_in old.files.items k.item).log.past) where
    pub still_files : histories new.files.items ≡ histories old.files.items
    still_files = touched_same old.files.items new.files.items k.item one lt none has.names

    pub still_sound : IsSoundStore tells new
    still_sound = with_files (subst (λ l. IsSound old.tree.entries old.paths.paths l old.table.items) (sym still_files) s.sound)
        (items_on tells new.files.limit old.files.items new.files.items k.item one lt (sound_on tells new.files.limit k.item (item_in old.files.items k.item) (item_in new.files.items k.item) [] (own_sound k.item lt) same none) own_sound)

    pub still_later : IsUpTo by (histories new.files.items)
    still_later = subst (IsUpTo by) (sym still_files) up

  -- one entry was added
  module _ (own : by.who.actor ≡ Session 1) (pass : by.pass ≡ 0) (made : ℕ) (kind : FileKind) (calm : IsCalm kind)
      (past : (item_in new.files.items k.item).log.past ≡ in_file by false made kind ∷ (item_in old.files.items k.item).log.past) where
    pub grown_files : histories new.files.items ≡ add_to (histories old.files.items) k.item (in_file by false made kind ∷ []) []
    grown_files = touched_grown old.files.items new.files.items k.item one lt (in_file by false made kind ∷ []) [] past has.names

    pub grown_sound : IsSoundStore tells new
    grown_sound = with_files (subst (λ l. IsSound old.tree.entries old.paths.paths l old.table.items) (sym grown_files)
        (sound_grown old.tree.entries old.paths.paths (histories old.files.items) old.table.items handle k by made kind s.sound at own pass up calm.kept calm.no_open calm.no_close calm.no_name calm.no_move))
        (items_on tells new.files.limit old.files.items new.files.items k.item one lt (sound_on tells new.files.limit k.item (item_in old.files.items k.item) (item_in new.files.items k.item) (in_file by false made kind ∷ []) (own_sound k.item lt) same past) own_sound)

    pub grown_later : IsUpTo by (histories new.files.items)
    grown_later = subst (IsUpTo by) (sym grown_files)
        (up_to (histories old.files.items) (add_to (histories old.files.items) k.item (in_file by false made kind ∷ []) []) k.item by false made (kind ∷ [])
        (goes_on (histories old.files.items) k.item (in_file by false made kind ∷ []) [] (s.sound.inside handle k at)) up)

-- the file of a handle can be read, written and closed
pub handle_ready : {O S F : Type 0} (tells : Type 0) (store : Store O S F) (handle : ℕ) (k : Handle) (pass : ℕ) → IsSoundStore tells store → file_at store.table.items handle ≡ Some k → pass ≡ 0 → 0 < opens_by pass (item_in store.files.items k.item).log.past
handle_ready tells store handle k pass s at none = subst (λ l. 0 < opens_by pass l) (item_past store.files.items k.item (handle_inside tells store handle k s at))
    (is_ready store.tree.entries store.paths.paths (histories store.files.items) store.table.items handle k pass s.sound at none).1

pub handle_kept : {O S F : Type 0} (tells : Type 0) (store : Store O S F) (handle : ℕ) (k : Handle) → IsSoundStore tells store → file_at store.table.items handle ≡ Some k → is_kept (item_in store.files.items k.item).log.past ≡ true
handle_kept tells store handle k s at = subst (λ l. is_kept l ≡ true) (item_past store.files.items k.item (handle_inside tells store handle k s at)) (s.sound.each k.item (s.sound.inside handle k at)).kept

-- too few places of the file are free
pub handle_full : {O S F : Type 0} (tells : Type 0) (store : Store O S F) (handle : ℕ) (k : Handle) → IsSoundStore tells store → file_at store.table.items handle ≡ Some k
    → IsFull (item_in store.files.items k.item) 1 → free_in store.files.limit (entries_in (histories store.files.items) k.item) < 1
handle_full tells store handle k s at full = subst (λ n. n < 1) (ap (λ l. l - used (item_in store.files.items k.item).log.past) (s.items k.item (handle_inside tells store handle k s at)).places
    ∙ ap (λ l. store.files.limit - used l) (sym (item_past store.files.items k.item (handle_inside tells store handle k s at)))) full
