-- What the kinds of entries have in common, case by case.
use Rattle.std.proofs.Common.{◌≡◌, ℕ, ◌<◌, ◌==◌, true, false, if◌then◌else◌, Option, Some, None, List, refl, ap}
use Rattle.std.specs.Prelude.{is_some, IsSomeAnd}
use Rattle.vfs_names.specs.declared.who.By.{By}
use Rattle.item_core.specs.declared.entry.Entry.{Entry}
use Rattle.item_core.specs.declared.entry.FileKind.{FileKind}
use Rattle.item_core.specs.declared.entry.FileKind.TheVariants.{Opened, Closed, UploadStart, Uploaded, UploadDropped}
use Rattle.item_core.specs.Effects.{is_opened, is_closed, is_start, is_end}
use Rattle.item_core.specs.History.{opens_by, Upload, upload_at, upload_after}
use Rattle.item_core.specs.Legal.{Allows}

-- what an entry does to the handles
pub data Handling (k : FileKind) : Type 0 where
  opens : is_opened k ≡ true → is_closed k ≡ false → Handling k
  closes : is_opened k ≡ false → is_closed k ≡ true → ((past : List Entry) (by : By) → Allows past k by → 0 < opens_by by.pass past) → Handling k
  leaves : is_opened k ≡ false → is_closed k ≡ false → Handling k

pub handling : (k : FileKind) → Handling k
handling (Opened access) = opens refl refl
handling Closed = closes refl refl (λ past by h. h.1)
handling _ = leaves refl refl

pub some_of : (o : Option Upload) (P : Upload → Type 0) → IsSomeAnd o P → is_some o ≡ true
some_of None P h = absurd h
some_of (Some u) P h = refl

-- what an entry does to the uploads
pub data Uploading (k : FileKind) : Type 0 where
  begins : (version : ℕ) → is_start k ≡ true → is_end k ≡ false
      → ((pass index s : ℕ) (old : Option Upload) → upload_after k pass index s old ≡ (if index == s then Some (record { version = version; pass = pass }) else old))
      → Uploading k
  ends : (start : ℕ) → is_start k ≡ false → is_end k ≡ true
      → ((pass index s : ℕ) (old : Option Upload) → upload_after k pass index s old ≡ (if start == s then None else old))
      → ((past : List Entry) (by : By) → Allows past k by → is_some (upload_at past start) ≡ true) → Uploading k
  idles : is_start k ≡ false → is_end k ≡ false
      → ((pass index s : ℕ) (old : Option Upload) → upload_after k pass index s old ≡ old) → Uploading k

pub uploading : (k : FileKind) → Uploading k
uploading (UploadStart version) = begins version refl refl (λ pass index s old. refl)
uploading (Uploaded start print) = ends start refl refl (λ pass index s old. refl) (λ past by h. ap is_some h.3)
uploading (UploadDropped start why) = ends start refl refl (λ pass index s old. refl) (λ past by h. some_of (upload_at past start) _ h)
uploading _ = idles refl refl (λ pass index s old. refl)
