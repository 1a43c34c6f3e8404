-- What a block of an upload is answered.
use Rattle.std.specs.Prelude.{◌≡◌, ◌≢◌, ℕ, length}
use Rattle.item_core.specs.History.{version_of}
use Rattle.item_upload.specs.declared.blocks.Step.{Step}
use Rattle.item_upload.specs.declared.blocks.Step.TheVariants.{Bytes, Cancelled}
use Rattle.sparse_item.specs.Item.{Item}
use Rattle.sparse_item.specs.Reading.{Shows, shown}
use Rattle.sparse_item.specs.Uploading.{Uploading, block_len}

-- the version that the upload noted is the present one
abbrev pub IsPresent : Item → Uploading → Type 0
IsPresent item upload = upload.version ≡ version_of item.log.past

-- the bytes of a block, where the noted version is present; else both versions
abbrev pub IsStep : Type 0 → Type 0 → Item → Uploading → ℕ → Step → Type 0
IsStep tells shows item upload pos (Bytes bytes) =
    IsPresent item upload × (length bytes ≡ shown item.log.past pos block_len) × Shows tells shows item pos block_len bytes
IsStep tells shows item upload pos (Cancelled was now) =
    (upload.version ≢ version_of item.log.past) × (was ≡ upload.version) × (now ≡ version_of item.log.past)
