-- The fields in the order in which they are looked at, and how each is printed.
use Rattle.std.specs.Prelude.{ℕ, List, [], ◌∷◌, take, codes}
use Rattle.item_meta.specs.declared.field.Field.{Field}
use Rattle.item_meta.specs.declared.field.Field.TheVariants.{Shape, Extra, V, Path, Size, Base, BaseEnd, Ranges, Dirty, Intent, Mtime, Atime, Spelling}

abbrev pub field_text : Field → List ℕ
field_text Shape = codes "shape"
field_text Extra = codes "extra"
field_text V = codes "v"
field_text Path = codes "path"
field_text Size = codes "size"
field_text Base = codes "base"
field_text BaseEnd = codes "base_end"
field_text Ranges = codes "ranges"
field_text Dirty = codes "dirty"
field_text Intent = codes "intent"
field_text Mtime = codes "mtime"
field_text Atime = codes "atime"
field_text Spelling = codes "spelling"

abbrev pub fields : List Field
fields = Shape ∷ Extra ∷ V ∷ Path ∷ Size ∷ Base ∷ BaseEnd ∷ Ranges ∷ Dirty ∷ Intent
    ∷ Mtime ∷ Atime ∷ Spelling ∷ []

-- where a field stands in that list, from 0
abbrev pub place : Field → ℕ
place Shape = 0
place Extra = 1
place V = 2
place Path = 3
place Size = 4
place Base = 5
place BaseEnd = 6
place Ranges = 7
place Dirty = 8
place Intent = 9
place Mtime = 10
place Atime = 11
place Spelling = 12

-- those that are looked at before it
abbrev pub fields_before : Field → List Field
fields_before field = take (place field) fields
