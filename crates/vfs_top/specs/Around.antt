-- What the things outside tell at a moment, with which the calls of a script are made.
use Rattle.std.specs.Prelude.{◌≡◌, ℕ, None}
use Rattle.vfs_outside.specs.Disk.{Disk, SameOut, SameShelves}
use Rattle.vfs_outside.specs.Image.{meta_in}
use Rattle.vfs_outside.specs.Outside.{Outside}
use Rattle.vfs_outside.specs.Slot.{image}

-- the clock's last answer, in milliseconds; what the remote tells, and what the disk of the cache does
pub record Around : Type 0 where
  pub moment : ℕ
  pub remote : Outside
  pub disk : Disk

abbrev pub around : ℕ → Outside → Disk → Around
around moment remote disk = record { moment = moment; remote = remote; disk = disk }

-- the same files of the disk are out, and it has what it had, where its files tell that
pub record IsStill (kept : Type 0) (old new : Disk) : Type 0 where
  pub out : SameOut old new
  pub told : kept → SameShelves old new

-- no slot has metadata
abbrev pub IsEmpty : Disk → Type 0
IsEmpty disk = (slot : ℕ) → meta_in (image (disk.shelf slot).now) ≡ None
