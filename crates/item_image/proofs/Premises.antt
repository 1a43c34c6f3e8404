-- What was known of a longer history, or of more objects, was known of less; and how what a store handed out is enough to know.
use Rattle.std.proofs.Common.{◌≡◌, ◌<◌, ℕ, false, List, [], ◌∷◌, ◌++◌}
use Rattle.std.specs.Prelude.{slice_index}
use Rattle.std.proofs.lemmas.Bool.{true≢false}
use Rattle.vfs_names.specs.declared.fingerprint.Fingerprint.{Fingerprint}
use Rattle.vfs_names.specs.declared.who.By.{By}
use Rattle.vfs_outside.specs.Image.{Image}
use Rattle.item_core.specs.declared.entry.Entry.{Entry}
use Rattle.item_core.specs.declared.entry.FileKind.{FileKind}
use Rattle.item_core.specs.declared.entry.FileKind.TheVariants.{Uploaded}
use Rattle.item_core.specs.Content.{Known, SavesContent, byte_at}
use Rattle.item_core.specs.History.{size_of}
use Rattle.item_image.specs.Entries.{is_saving, made}
use Rattle.item_image.specs.Premise.{Fits, Holds, IsHanded, IsOfImage, Pairs}

pub older_fits : {shows : Type 0} {known : Known} {past : List Entry} {pairs : Pairs} {e : Entry} → Fits shows known (e ∷ past) pairs → Fits shows known past pairs
older_fits f = record { given = f.given; saved = f.saved.1 }

pub fewer_fits : {shows : Type 0} {known : Known} {past : List Entry} {pairs : Pairs} {pair : Fingerprint × List ℕ} → Fits shows known past (pair ∷ pairs) → Fits shows known past pairs
fewer_fits f = record { given = f.given.1; saved = f.saved }

-- objects that were handed out before the others
pub earlier_holds : (shows : Type 0) (known : Known) (later pairs : Pairs) → Holds shows (later ++ pairs) known → Holds shows pairs known
earlier_holds shows known [] pairs h = h
earlier_holds shows known (pair ∷ later) pairs h = earlier_holds shows known later pairs h.1

-- ---- a history whose uploads are shown to be whole

pub handed_first : (shows : Type 0) (handed : Pairs) (first : Image) → IsHanded shows handed first [] []
handed_first shows handed first known h i = record { given = tt; saved = tt }

-- more was handed out
pub handed_more : (shows : Type 0) (later handed : Pairs) (first : Image) (past : List Entry) (pairs : Pairs) → IsHanded shows handed first past pairs → IsHanded shows (later ++ handed) first past pairs
handed_more shows later handed first past pairs is known h i = is known (earlier_holds shows known later handed h) i

-- an object was given that was handed out
pub handed_pair : (shows : Type 0) (handed : Pairs) (first : Image) (past : List Entry) (pairs : Pairs) (pair : Fingerprint × List ℕ) → IsHanded shows handed first past pairs
    → ((known : Known) → Holds shows handed known → shows × (known.content pair.0 ≡ pair.1)) → IsHanded shows handed first past (pair ∷ pairs)
handed_pair shows handed first past pairs pair is there known h i = let f = is known h i in record { given = (there known h, f.given); saved = f.saved }

saves_nothing : (known : Known) (past : List Entry) (kind : FileKind) → is_saving kind ≡ false → SavesContent known past kind
saves_nothing known past (Uploaded start print) h = absurd (true≢false h)
saves_nothing known past _ h = tt

-- an entry that is no upload's end
pub handed_entry : (shows : Type 0) (handed : Pairs) (first : Image) (past : List Entry) (pairs : Pairs) (by : By) (at : ℕ) (kind : FileKind) → IsHanded shows handed first past pairs
    → is_saving kind ≡ false → IsHanded shows handed first (made by at kind ∷ past) pairs
handed_entry shows handed first past pairs by at kind is none known h i = let f = is known h i in record { given = f.given; saved = (saves_nothing known past kind none, f.saved) }

-- an upload of the whole content
pub handed_uploaded : (shows : Type 0) (handed : Pairs) (first : Image) (past : List Entry) (pairs : Pairs) (by : By) (at start : ℕ) (print : Fingerprint) → IsHanded shows handed first past pairs
    → ((known : Known) → Holds shows handed known → IsOfImage known first → Fits shows known past pairs
    → (p : ℕ) → p < size_of past → slice_index (known.content print) p ≡ byte_at known past p)
    → IsHanded shows handed first (made by at (Uploaded start print) ∷ past) pairs
handed_uploaded shows handed first past pairs by at start print is whole known h i = let f = is known h i in record { given = f.given; saved = (whole known h i f, f.saved) }
