-- What stands on the cache disk once the files were given back.
use Rattle.std.proofs.Common.{◌<◌, ℕ, sym, subst, arith, List, length}
use Rattle.std.proofs.lemmas.List.{length-map}
use Rattle.vfs_names.specs.declared.fingerprint.Fingerprint.{Fingerprint}
use Rattle.vfs_outside.specs.Disk.{Disk}
use Rattle.sparse_item.specs.Item.{Item}
use Rattle.item_core.specs.Content.{IsSavedWhole}
use Rattle.one_session.specs.Causes.{AreGiven, AreSaved}
use Rattle.one_session.specs.Slots.{EachStands, ImagesStand, ItemStands, Lends}
use Rattle.one_session.specs.State.{blank, item_in}
use Rattle.one_session.specs.Views.{given_all, histories, stored}
use Rattle.one_session.proofs.Given.{given_at}
use Rattle.one_session.proofs.Shelves.{history_is, item_past, or_same}

-- the image of each file stands, by the contents that hold what the store handed out
pub images_stand : (kept tells : Type 0) → kept → (handed : List (Fingerprint × List ℕ)) (items : List Item) (disk : Disk) → ((n : ℕ) → n < length items → ItemStands tells (item_in items n) (disk.shelf n).now)
    → AreGiven tells handed (given_all items) → AreSaved kept tells handed (histories items) → ImagesStand tells handed disk (histories items)
images_stand kept tells k handed items disk each given saved known h n lt = let inside : n < length items = omega (arith, lt, length-map items stored) in
    subst (λ f. EachStands known f (disk.shelf n).now) (sym (history_is items n (item_in items n) inside (or_same items n blank (item_in items n) inside)))
    (each n inside known (record {
      given = given_at tells handed items n known given lt h;
      saved = subst (IsSavedWhole known) (item_past items n inside) (saved k known h n);
    }))

-- there are as many files as histories
pub lends_items : (tells : Type 0) (items : List Item) (disk : Disk) → Lends tells (length (histories items)) disk → Lends tells (length items) disk
lends_items tells items disk l = subst (λ n. Lends tells n disk) (length-map items stored) l

pub lends_files : (tells : Type 0) (items : List Item) (disk : Disk) → Lends tells (length items) disk → Lends tells (length (histories items)) disk
lends_files tells items disk l = subst (λ n. Lends tells n disk) (sym (length-map items stored)) l
