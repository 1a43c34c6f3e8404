-- Which refusals of a call on a handle say so in the history of its file, and which add nothing.
use Rattle.std.proofs.Common.{◌≡◌, ◌⊎◌, ℕ, refl, inl, inr, false, Option, None, List, [], ◌∷◌}
use Rattle.byte_ranges.specs.declared.Span.{Span}
use Rattle.vfs_names.specs.declared.refusal.Refusal.{Refusal}
use Rattle.vfs_names.specs.declared.refusal.Refusal.TheVariants as refusals
use Rattle.vfs_names.specs.declared.refusal.Verb.{Verb}
use Rattle.vfs_names.specs.declared.refusal.Verb.TheVariants as verbs
use Rattle.vfs_names.specs.declared.who.By.{By}
use Rattle.vfs_names.specs.declared.who.ItemId.{ItemId}
use Rattle.item_core.specs.declared.entry.Entry.{Entry}
use Rattle.item_core.specs.declared.entry.FileKind.TheVariants as file
use Rattle.sparse_item.specs.Answers.{IsCause, refused}
use Rattle.sparse_item.specs.Item.{Item}
use Rattle.sparse_item.specs.Reading.{IsReadCause, refused_read}
use Rattle.one_session.specs.Calls.{IsOfDevice, in_file}
use Rattle.one_session.specs.Views.{refused_place}

-- a refusal for a length, an end, places or memory
abbrev pub IsSilent : Refusal → Type 0
IsSilent why = (why ≡ refusals.TooBig) ⊎ (why ≡ refusals.HistoryFull) ⊎ (why ≡ refusals.NoMemory)

-- it adds nothing and has no place
pub record AddsNone (added : List Entry) (place : Option (ItemId × ℕ)) (why : Refusal) : Type 0 where
  pub silent : IsSilent why
  pub added_none : added ≡ []
  pub placed_none : refused_place why place ≡ None

-- it is for the object or the disk, and says so
pub record AddsOne (by : By) (at : ℕ) (verb : Verb) (added : List Entry) (place : Option (ItemId × ℕ)) (why : Refusal) : Type 0 where
  pub of : IsOfDevice why
  pub added_one : added ≡ in_file by false at (file.Refused verb why) ∷ []
  pub placed : refused_place why place ≡ place

module _ (by : By) (at : ℕ) (place : Option (ItemId × ℕ)) (old new : Item) where
  pub read_adds : (part : Span) (why : Refusal) → IsReadCause old new part why
      → AddsNone (refused_read (record by { tree = false }) at why) place why ⊎ AddsOne by at verbs.Read (refused_read (record by { tree = false }) at why) place why
  read_adds part refusals.NotFound h = absurd h
  read_adds part refusals.Exists h = absurd h
  read_adds part refusals.IsDir h = absurd h
  read_adds part refusals.NotDir h = absurd h
  read_adds part refusals.NotEmpty h = absurd h
  read_adds part refusals.BadHandle h = absurd h
  read_adds part refusals.NotReadable h = absurd h
  read_adds part refusals.NotWritable h = absurd h
  read_adds part refusals.TableFull h = absurd h
  read_adds part refusals.InUse h = absurd h
  read_adds part refusals.Unsupported h = absurd h
  read_adds part refusals.TooBig h = inl (record { silent = inl refl; added_none = refl; placed_none = refl })
  read_adds part refusals.RemoteFault h = inr (record { of = inl refl; added_one = refl; placed = refl })
  read_adds part refusals.DiskFault h = inr (record { of = inr (inl refl); added_one = refl; placed = refl })
  read_adds part refusals.HistoryFull h = inl (record { silent = inr (inl refl); added_none = refl; placed_none = refl })
  read_adds part refusals.NoMemory h = inl (record { silent = inr (inr refl); added_none = refl; placed_none = refl })
  read_adds part (refusals.Stale held found) h = inr (record { of = inr (inr (held, found, refl)); added_one = refl; placed = refl })

  -- a write or a change of size is refused for the disk alone
  pub changes_adds : (verb : Verb) (why : Refusal) → IsCause old new why
      → AddsNone (refused (record by { tree = false }) at verb why) place why ⊎ ((why ≡ refusals.DiskFault) × AddsOne by at verb (refused (record by { tree = false }) at verb why) place why)
  changes_adds verb refusals.NotFound h = absurd h
  changes_adds verb refusals.Exists h = absurd h
  changes_adds verb refusals.IsDir h = absurd h
  changes_adds verb refusals.NotDir h = absurd h
  changes_adds verb refusals.NotEmpty h = absurd h
  changes_adds verb refusals.BadHandle h = absurd h
  changes_adds verb refusals.NotReadable h = absurd h
  changes_adds verb refusals.NotWritable h = absurd h
  changes_adds verb refusals.TableFull h = absurd h
  changes_adds verb refusals.InUse h = absurd h
  changes_adds verb refusals.Unsupported h = absurd h
  changes_adds verb refusals.TooBig h = inl (record { silent = inl refl; added_none = refl; placed_none = refl })
  changes_adds verb refusals.RemoteFault h = absurd h
  changes_adds verb refusals.DiskFault h = inr (refl, record { of = inr (inl refl); added_one = refl; placed = refl })
  changes_adds verb refusals.HistoryFull h = inl (record { silent = inr (inl refl); added_none = refl; placed_none = refl })
  changes_adds verb refusals.NoMemory h = inl (record { silent = inr (inr refl); added_none = refl; placed_none = refl })
  changes_adds verb (refusals.Stale held found) h = absurd h
