-- A store after the turn of a file that was due.
use Rattle.std.proofs.Common.{◌≡◌, ◌≢◌, ◌<◌, ℕ, ◌++◌, ◌∙◌, ap, sym, refl, subst, arith, true, false, Some, List, [], ◌∷◌, append-nil, length, reverse}
use Rattle.std.proofs.lemmas.List.{length-map}
use Rattle.vfs_names.specs.declared.fingerprint.Fingerprint.{Fingerprint}
use Rattle.vfs_names.specs.declared.refusal.Refusal.{Refusal}
use Rattle.vfs_names.specs.declared.who.Actor.TheVariants.{Main}
use Rattle.vfs_names.specs.declared.who.By.{By}
use Rattle.vfs_outside.specs.Outside.{Outside}
use Rattle.vfs_outside.specs.declared.tree.TreeEntry.{TreeEntry}
use Rattle.vfs_outside.specs.declared.tree.TreeKind.TheVariants as tree
use Rattle.item_core.specs.declared.entry.Dropped.TheVariants as dropped
use Rattle.item_core.specs.declared.entry.FileKind.{FileKind}
use Rattle.item_core.specs.declared.entry.FileKind.TheVariants as file
use Rattle.item_core.specs.History.{is_dirty, is_kept, opens_of, version_of}
use Rattle.sparse_item.specs.Item.{Item}
use Rattle.one_session.specs.Books.{HasSame, IsSameFile, TouchesOne}
use Rattle.one_session.specs.Calls.{in_file, in_tree}
use Rattle.one_session.specs.Causes.{ends_gone}
use Rattle.one_session.specs.Slots.{IsSoundItem}
use Rattle.one_session.specs.Standing.{IsSoundStore}
use Rattle.one_session.specs.State.{History, blank, entries_in, item_in}
use Rattle.one_session.specs.Tree.{item_of, left_dirty}
use Rattle.one_session.specs.Turns.{TakesTurn, noted_by}
use Rattle.one_session.specs.Views.{add_to, histories, stored}
use Rattle.one_session.specs.Whole.{IsUpTo}
use Rattle.one_session.specs.declared.store.Store.{Store}
use Rattle.one_session.specs.declared.turn.Goal.{Goal}
use Rattle.one_session.specs.declared.turn.Turn.{Turn}
use Rattle.one_session.specs.declared.turn.Turn.TheVariants.{Stored, Dropped, Unbegun}
use Rattle.one_session.proofs.Items.{items_on, sound_on}
use Rattle.one_session.proofs.Meeting.{settled_more}
use Rattle.one_session.proofs.Sending.{IsEnd, IsSameTree, dropped_end, path_names, same_tree, saved_end, sent_later, sent_sound, stored_other, stored_own, stored_tree}
use Rattle.one_session.proofs.Shelves.{history_is, item_past, or_same, touched_grown, touched_same}

-- each file is kept
pub all_kept : {O S F : Type 0} (kept : Type 0) (store : Store O S F) → IsSoundStore kept store → (n : ℕ) → n < length store.files.items → is_kept (item_in store.files.items n).log.past ≡ true
all_kept kept store s n lt = subst (λ l. is_kept l ≡ true) (item_past store.files.items n lt) (s.sound.each n (omega (arith, lt, length-map store.files.items stored))).kept

module _ {O S F : Type 0} (kept : Type 0) (old new : Store O S F) (by : By) (s : IsSoundStore kept old) (actor : by.who.actor ≡ Main) (pass : by.pass ≡ 0) (up : IsUpTo by (histories old.files.items))
    (limit_tree : new.tree.limit ≡ old.tree.limit) (paths : new.paths ≡ old.paths) (table : new.table ≡ old.table) (limit : new.files.limit ≡ old.files.limit) (item : ℕ) (lt : item < length old.files.items)
    (one : TouchesOne item old.files.items new.files.items) (same : IsSameFile kept (item_in old.files.items item) (item_in new.files.items item)) (has : HasSame (item_in old.files.items item) (item_in new.files.items item)) where
  abbrev was : Item
  was = item_in old.files.items item

  abbrev is : Item
  is = item_in new.files.items item

  inside : item < length (histories old.files.items)
  inside = omega (arith, lt, length-map old.files.items stored)

  limited : (n : ℕ) → n < length old.files.items → IsSoundItem kept new.files.limit n (item_in old.files.items n)
  limited n l = subst (λ m. IsSoundItem kept m n (item_in old.files.items n)) (sym limit) (s.items n l)

  -- its upload began and ended
  ended : (es' : List TreeEntry) (k : FileKind) → new.tree.entries ≡ es' → IsEnd k
      → is.log.past ≡ in_file by true is.slot.calls k ∷ in_file by true was.slot.calls (file.UploadStart (version_of was.log.past)) ∷ was.log.past
      → IsSameTree old.tree.entries es'
      → (opens_of (reverse (entries_in (histories old.files.items) item)) ≡ 0 → left_dirty es' item ≡ is_dirty (in_file by true is.slot.calls k ∷ in_file by true was.slot.calls (file.UploadStart (version_of was.log.past)) ∷ reverse (entries_in (histories old.files.items) item)))
      → ((i : ℕ) → i ≢ item → left_dirty es' i ≡ left_dirty old.tree.entries i) → ((path : List ℕ) → ends_gone (reverse es') path ≡ false)
      → IsSoundStore kept new × IsUpTo by (histories new.files.items)
  ended es' k grew e past same_es own other settled = (
    record {
      sound = rw (grew, paths, files, table) (sent_sound old.tree.entries es' old.paths.paths (histories old.files.items) old.table.items item by was.slot.calls is.slot.calls (version_of was.log.past) k s.sound inside actor pass up e same_es own other);
      limit = limit_tree ∙ s.limit ∙ sym limit;
      items = items_on kept new.files.limit old.files.items new.files.items item one lt
          (sound_on kept new.files.limit item was is (in_file by true is.slot.calls k ∷ in_file by true was.slot.calls (file.UploadStart (version_of was.log.past)) ∷ []) (limited item lt) same past) limited;
      settled = λ path. ap (λ l. ends_gone (reverse l) path) grew ∙ settled path;
    },
    subst (IsUpTo by) (sym files) (sent_later old.tree.entries es' old.paths.paths (histories old.files.items) old.table.items item by was.slot.calls is.slot.calls (version_of was.log.past) k s.sound inside actor pass up e same_es own other),
  ) where
    files : histories new.files.items ≡ add_to (histories old.files.items) item (in_file by true was.slot.calls (file.UploadStart (version_of was.log.past)) ∷ in_file by true is.slot.calls k ∷ []) []
    files = touched_grown old.files.items new.files.items item one lt (in_file by true was.slot.calls (file.UploadStart (version_of was.log.past)) ∷ in_file by true is.slot.calls k ∷ []) [] past has.names

  -- none began
  unbegun : new.tree.entries ≡ old.tree.entries → is.log.past ≡ was.log.past → IsSoundStore kept new × IsUpTo by (histories new.files.items)
  unbegun still past = (
    record {
      sound = rw (still, paths, files, table) s.sound;
      limit = limit_tree ∙ s.limit ∙ sym limit;
      items = items_on kept new.files.limit old.files.items new.files.items item one lt (sound_on kept new.files.limit item was is [] (limited item lt) same past) limited;
      settled = λ path. ap (λ l. ends_gone (reverse l) path) still ∙ s.settled path;
    },
    subst (IsUpTo by) (sym files) up,
  ) where
    files : histories new.files.items ≡ histories old.files.items
    files = touched_same old.files.items new.files.items item one lt past has.names

-- the parts still fit together, and nothing is later than the upload
pub turn_sound : {O S F : Type 0} (kept store tells : Type 0) (old new : Store O S F) (by : By) (full ready : Type 0) (o o' : Outside) (turn : Turn) → IsSoundStore kept old → by.who.actor ≡ Main → by.pass ≡ 0 → IsUpTo by (histories old.files.items)
    → TakesTurn kept store tells by full ready old.files new.files o o' turn → new.tree.entries ≡ old.tree.entries ++ noted_by by turn → new.tree.limit ≡ old.tree.limit → new.paths ≡ old.paths → new.table ≡ old.table → new.files.limit ≡ old.files.limit
    → IsSoundStore kept new × IsUpTo by (histories new.files.items)
turn_sound kept store tells old new by full ready o o' (Stored goal print) s actor pass up t grew limit_tree paths table limit =
    let es = old.tree.entries in
    let was = item_in old.files.items t.item in
    let stored_there = ap (λ (h : History). h.names) (history_is old.files.items t.item was t.inside (or_same old.files.items t.item blank was t.inside)) in
    let at = path_names es old.paths.paths (histories old.files.items) old.table.items t.item was.log.past was.names goal.path s.sound (omega (arith, t.inside, length-map old.files.items stored)) (item_past old.files.items t.item t.inside) stored_there t.goal.1.path in
    ended kept old new by s actor pass up limit_tree paths table limit t.item t.inside t.one t.sends.same t.sends.has_same (es ++ in_tree by (tree.Stored goal.path print) ∷ []) (file.Uploaded (length was.log.past) print) grew (saved_end (length was.log.past) print) t.sends.enters
    (stored_tree es by goal.path print actor s.sound.made) (λ none. stored_own es by goal.path print t.item at) (λ i ne. stored_other es by goal.path print t.item i at ne)
    (λ path. settled_more es (es ++ in_tree by (tree.Stored goal.path print) ∷ []) (in_tree by (tree.Stored goal.path print)) path refl refl)
turn_sound kept store tells old new by full ready o o' (Dropped why) s actor pass up t grew limit_tree paths table limit =
    ended kept old new by s actor pass up limit_tree paths table limit t.item t.inside t.one t.sends.same t.sends.has_same old.tree.entries (file.UploadDropped (length (item_in old.files.items t.item).log.past) (dropped.Refused why)) (grew ∙ append-nil old.tree.entries)
    (dropped_end (length (item_in old.files.items t.item).log.past) (dropped.Refused why)) t.sends.enters (same_tree old.tree.entries s.sound.made) (λ none. (s.sound.tied t.item).rest none) (λ i ne. refl) s.settled
turn_sound kept store tells old new by full ready o o' (Unbegun why) s actor pass up t grew limit_tree paths table limit =
    unbegun kept old new by s actor pass up limit_tree paths table limit t.item t.inside t.one t.sends.same t.sends.has_same (grew ∙ append-nil old.tree.entries) t.sends.enters
