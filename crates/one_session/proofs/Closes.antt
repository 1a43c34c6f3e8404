-- What a close leaves of the parts that are kept, and what it did.
use Rattle.std.proofs.Common.{◌≡◌, ◌<◌, ℕ, ◌++◌, ◌∙◌, ap, sym, refl, subst, arith, Bool, true, false, None, Option, Some, List, [], ◌∷◌, length, reverse, set}
use Rattle.std.specs.Prelude.{IfSome}
use Rattle.vfs_names.specs.declared.who.Actor.TheVariants.{Session}
use Rattle.vfs_names.specs.declared.who.By.{By}
use Rattle.vfs_names.specs.declared.who.ItemId.{ItemId}
use Rattle.vfs_outside.specs.declared.tree.TreeEntry.{TreeEntry}
use Rattle.vfs_outside.specs.declared.tree.TreeKind.TheVariants as tree_kinds
use Rattle.item_core.specs.Content.{Known}
use Rattle.item_core.specs.History.{is_dirty}
use Rattle.item_core.specs.declared.entry.FileKind.TheVariants as file
use Rattle.sparse_item.specs.Item.{Item}
use Rattle.session_script.specs.declared.call.Call.TheVariants as call
use Rattle.writeback_queue.specs.declared.entry.QueueEntry.{QueueEntry}
use Rattle.writeback_queue.specs.declared.entry.QueueTerms.{QueueTerms}
use Rattle.session_text.specs.declared.reply.Record.{Record}
use Rattle.session_text.specs.declared.reply.Reply.TheVariants as reply
use Rattle.one_session.specs.Books.{ClosesBook, TouchesOne}
use Rattle.one_session.specs.Calls.{in_file, in_tree}
use Rattle.one_session.specs.Did.{Did}
use Rattle.one_session.specs.Slots.{IsSoundItem}
use Rattle.one_session.specs.Causes.{ends_gone}
use Rattle.one_session.specs.Sound.{IsSound}
use Rattle.one_session.specs.Standing.{IsSoundStore, state_of}
use Rattle.one_session.specs.State.{Step, entries_in, file_at, item_in}
use Rattle.one_session.specs.Steps.{IsMadeAt, IsPlaced}
use Rattle.one_session.specs.Views.{add_to, given_all, histories}
use Rattle.one_session.specs.Whole.{IsUpTo}
use Rattle.one_session.specs.declared.handle.Handle.{Handle}
use Rattle.one_session.specs.declared.store.Store.{Store}
use Rattle.one_session.proofs.Doing.{close_done}
use Rattle.one_session.proofs.Handles.{handle_inside}
use Rattle.one_session.proofs.Items.{items_on, sound_on}
use Rattle.one_session.proofs.Keeping.{goes_on, sound_shut, up_to}
use Rattle.one_session.proofs.Meeting.{settled_more}
use Rattle.one_session.proofs.Shelves.{touched_given_same, touched_grown, touched_length}

-- the files after it, and the tree's entries
module _ {O S F : Type 0} (tells : Type 0) (old : Store O S F) (items : List Item) (entries : List TreeEntry) (handle : ℕ) (k : Handle) (by : By) (dirty : Bool)
    (s : IsSoundStore tells old) (at : file_at old.table.items handle ≡ Some k) (small : handle < length old.table.items)
    (own : by.who.actor ≡ Session 1) (pass : by.pass ≡ 0) (up : IsUpTo by (histories old.files.items))
    (was : dirty ≡ is_dirty (reverse (entries_in (histories old.files.items) k.item)))
    (tree : entries ≡ old.tree.entries ++ in_tree by (tree_kinds.Closed (record { 0 = k.item }) dirty) ∷ [])
    (one : TouchesOne k.item old.files.items items)
    (book : ClosesBook tells (record by { tree = true }) (item_in old.files.items k.item) (item_in items k.item)) where
  abbrev made : ℕ
  made = (item_in items k.item).slot.calls

  lt : k.item < length old.files.items
  lt = handle_inside tells old handle k s at

  pub shut_count : length items ≡ length old.files.items
  shut_count = touched_length old.files.items items k.item one lt

  pub shut_given : given_all items ≡ given_all old.files.items
  shut_given = touched_given_same old.files.items items k.item one lt book.has_same.pairs

  shut_files : histories items ≡ add_to (histories old.files.items) k.item (in_file by true made file.Closed ∷ []) []
  shut_files = touched_grown old.files.items items k.item one lt (in_file by true made file.Closed ∷ []) [] book.past book.has_same.names

  pub shut_parts : IsSound entries old.paths.paths (histories items) (set old.table.items handle None)
  shut_parts = rw (tree, shut_files) (sound_shut old.tree.entries old.paths.paths (histories old.files.items) old.table.items handle k by made dirty s.sound small at own pass up was)

  pub shut_items : (limit : ℕ) → limit ≡ old.files.limit → (n : ℕ) → n < length items → IsSoundItem tells limit n (item_in items n)
  shut_items limit same = items_on tells limit old.files.items items k.item one lt
      (sound_on tells limit k.item (item_in old.files.items k.item) (item_in items k.item) (in_file by true made file.Closed ∷ []) (own_sound k.item lt) book.same book.past) own_sound where
        own_sound : (n : ℕ) → n < length old.files.items → IsSoundItem tells limit n (item_in old.files.items n)
        own_sound n inside = subst (λ l. IsSoundItem tells l n (item_in old.files.items n)) (sym same) (s.items n inside)

  pub shut_settled : (path : List ℕ) → ends_gone (reverse entries) path ≡ false
  shut_settled path = settled_more old.tree.entries entries (in_tree by (tree_kinds.Closed (record { 0 = k.item }) dirty)) path tree refl

  pub shut_later : IsUpTo by (histories items)
  shut_later = subst (IsUpTo by) (sym shut_files)
      (up_to (histories old.files.items) (add_to (histories old.files.items) k.item (in_file by true made file.Closed ∷ []) []) k.item by true made (file.Closed ∷ [])
      (goes_on (histories old.files.items) k.item (in_file by true made file.Closed ∷ []) [] (s.sound.inside handle k at)) up)

  module _ (done : Record) (m n : ℕ) (answer : done.reply ≡ reply.Done) (at_tree : done.tree ≡ Some m) (at_file : done.file ≡ Some (record { 0 = k.item }, n))
      (ends : m ≡ length old.tree.entries) (end : n ≡ length (entries_in (histories old.files.items) k.item)) where
    pub shut_did : (limit : ℕ) → limit ≡ old.files.limit → (queue : List QueueEntry) (terms : QueueTerms) (holds : Known → Type 0) → Did 1 holds by (call.Close handle) done (state_of old [] [] 0)
        (record { tree = entries; files = histories items; items = items; queue = queue; terms = terms; limit = limit; table = set old.table.items handle None; records = []; steps = []; room = 0 })
    shut_did limit same queue terms holds = close_done holds by done (state_of old [] [] 0)
        (record { tree = entries; files = histories items; items = items; queue = queue; terms = terms; limit = limit; table = set old.table.items handle None; records = []; steps = []; room = 0 })
        handle m n made k dirty own answer at_tree at_file at small (s.sound.inside handle k at) ends end was tree shut_files refl same

    pub shut_placed : (before : List Item) → IsPlaced (call.Close handle) done (record { before = before; after = items })
    shut_placed before = subst (λ f. IfSome f (λ (f : ItemId × ℕ). IsMadeAt (item_in items f.0.0).slot.calls (item_in items f.0.0).log.past)) (sym at_file)
        (subst (IsMadeAt made) (sym book.past) refl)
