-- What a restart finds in an image.
use Rattle.std.specs.Prelude.{◌≡◌, ℕ, List, [], ◌∷◌}
use Rattle.vfs_names.specs.declared.who.By.{By}
use Rattle.vfs_outside.specs.Image.{Image, data_in}
use Rattle.item_core.specs.declared.entry.Entry.{Entry}
use Rattle.item_core.specs.Content.{Known, byte_at}
use Rattle.item_meta.specs.declared.meta.Meta.{Meta}
use Rattle.item_image.specs.Entries.{recovered_entry}
use Rattle.item_image.specs.Facts.{facts_of}
use Rattle.item_image.specs.Premise.{IsOfImage, saved_by}

-- the same contents, and as saved what the image has saved
abbrev pub known_from : Known → Meta → Image → Known
known_from known meta image = record { content = known.content; saved = λ p. saved_by meta (λ q. data_in image q) p }

-- a history that begins with what the image's metadata say has the facts and every byte of the one before
pub record IsFound (known : Known) (saved : ℕ) (image : Image) (past : List Entry) (names : List (List ℕ)) (meta : Meta) (by : By) : Type 0 where
  pub facts : facts_of meta.mtime (recovered_entry by meta ∷ []) (meta.path ∷ []) ≡ facts_of saved past names
  pub bytes : (p : ℕ) → byte_at (known_from known meta image) (recovered_entry by meta ∷ []) p ≡ byte_at known past p
  pub of_image : IsOfImage (known_from known meta image) image
