-- How the files stand on the cache disk: the file of number n has slot n.
use Rattle.std.specs.Prelude.{◌≡◌, ◌<◌, ◌≤◌, ℕ, true, false, None, List, [], length, reverse}
use Rattle.vfs_outside.specs.Disk.{Disk}
use Rattle.vfs_outside.specs.Image.{meta_in}
use Rattle.vfs_outside.specs.Slot.{Told, image, image_after}
use Rattle.item_core.specs.Content.{Known}
use Rattle.item_core.specs.History.{place}
use Rattle.item_core.specs.Names.{names_at}
use Rattle.item_image.specs.Premise.{Fits, Holds, Pairs}
use Rattle.item_image.specs.Stands.{StandsFor}
use Rattle.sparse_item.specs.Item.{Item}
use Rattle.sparse_item.specs.Sound.{is_begun}
use Rattle.one_session.specs.State.{History, history_in}

-- the files of the first n slots are out, and no other's; where the disk tells, no other slot has metadata
pub record Lends (tells : Type 0) (n : ℕ) (disk : Disk) : Type 0 where
  pub out : (slot : ℕ) → slot < n → disk.out slot ≡ true
  pub here : (slot : ℕ) → n ≤ slot → disk.out slot ≡ false
  pub blank : tells → (slot : ℕ) → n ≤ slot → meta_in (image (disk.shelf slot).now) ≡ None

-- a file has so many places and the slot of its number, which had no metadata when it was taken; it was opened, and nothing
-- of it was saved before the epoch
pub record IsSoundItem (tells : Type 0) (limit n : ℕ) (item : Item) : Type 0 where
  pub slot : item.slot_id.0 ≡ n
  pub places : item.log.limit ≡ limit
  pub begun : is_begun item.log.past ≡ true
  pub blank : tells → meta_in item.slot.told.first ≡ None
  pub fresh : item.saved ≡ record { mtime = 0; atime = 0 }

-- a file of which no entry was made yet, just taken from the slot of its number
pub record IsUnused (tells : Type 0) (n limit : ℕ) (item : Item) : Type 0 where
  pub slot : item.slot_id.0 ≡ n
  pub past : item.log.past ≡ []
  pub places : item.log.limit ≡ limit
  pub names : item.names ≡ []
  pub pairs : item.pairs ≡ []
  pub faults : item.slot.faults ≡ 0
  pub blank : tells → meta_in item.slot.told.first ≡ None
  pub fresh : item.saved ≡ record { mtime = 0; atime = 0 }

-- After any number of the calls on a slot's file the image there stands for the part of the file's history that was made
-- by then.
abbrev pub EachStands : Known → History → Told → Type 0
EachStands known file told = (k : ℕ) → k ≤ length told.since
    → StandsFor known 0 (image_after told k) (place (reverse file.entries) k) (names_at (reverse file.entries) k (reverse file.names))

-- so it is for a file by the contents of the objects that it was given, and that were uploaded of it
abbrev pub ItemStands : Type 0 → Item → Told → Type 0
ItemStands tells item told = (known : Known) → Fits tells known item.log.past item.pairs
    → EachStands known (record { entries = reverse item.log.past; names = reverse item.names }) told

-- so it is for each file, by the contents that hold what the store handed out
abbrev pub ImagesStand : Type 0 → Pairs → Disk → List History → Type 0
ImagesStand tells handed disk files = (known : Known) → Holds tells handed known
    → (n : ℕ) → n < length files → EachStands known (history_in files n) (disk.shelf n).now
